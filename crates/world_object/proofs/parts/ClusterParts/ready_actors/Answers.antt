use Rattle.std.proofs.Common.{◌≡◌, ◌∙◌, ◌∷◌, ◌+◌, ◌++◌, [], drop, sym, ap, None, arith}
use Rattle.std.specs.Prelude.{slice_get}
use Rattle.operation_model.specs.Answers.{ready}
use Rattle.operation_model.specs.declared.operations.TheConstants.{ACTORS_PER_REFILL}
use Rattle.world_object.proofs.Ready.{all-ready, next-place, place-drop, take-end, take-next}
use Rattle.world_object.proofs.parts.ClusterParts.ready_actors.Goals as goal

pub returns-in_default : goal.returns-in_default
returns-in_default c =
    let p = c.args.self.now in
    let xs = ready p.script.value p.world.past in
    let i = c.loop.counter in
    let below = c.loop-test.true in
    c.loop.invariant.actors ∙ sym (take-end (drop c.args.skip xs) i ACTORS_PER_REFILL (omega (arith, below)) (place-drop xs c.args.skip i ∙ sym c.loop.invariant.next ∙ c.in_default.is))

pub loop-preserved : goal.loop-preserved
loop-preserved c =
    let p = c.args.self.now in
    let h = p.world.past in
    let xs = ready p.script.value h in
    let i = c.loop.counter in
    let k = c.args.skip in
    let a = c.in-Some.actor in
    let stands = c.requires in
    let sound = stands.sound in
    let here = sym c.loop.invariant.next ∙ c.in-Some.is in
    let place : k + i + 1 ≡ k + (i + 1) = omega arith in
    record {
      actors = c.in_ok-push.ensures.ok ∙ ap (λ ys. ys ++ a ∷ []) c.loop.invariant.actors ∙ sym (take-next (drop k xs) i a (place-drop xs k i ∙ here));
      next = next-place h xs None (all-ready p.script.value h sound.0) (k + i) a c.next_ready-next.result here c.next_ready-next.ensures ∙ ap (slice_get xs) place;
    }
