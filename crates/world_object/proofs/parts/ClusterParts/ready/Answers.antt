use Rattle.std.proofs.Common.{◌≡◌, ◌∙◌, ◌+◌, drop, subst, sym, ap, Some, None, arith}
use Rattle.std.specs.Prelude.{slice_get}
use Rattle.operation_model.specs.Answers.{ready}
use Rattle.world_object.proofs.Ready.{IsRest, all-ready, drop-place, first-drop, next-first, past-end, rest-after}
use Rattle.world_object.proofs.parts.ClusterParts.ready.Goals as goal

pub loop-init : goal.loop-init
loop-init c =
    let p = c.args.self.now in
    let stands = c.requires in
    let sound = stands.sound in
    all-ready p.script.value p.world.past sound.0

pub returns-in-None : goal.returns-in-None
returns-in-None c =
    let p = c.args.self.now in
    let h = p.world.past in
    let xs = ready p.script.value h in
    let i = c.loop.counter in
    let below = c.loop-test.true in
    sym (past-end xs i c.args.skip (omega (arith, below)) (sym (first-drop xs i) ∙ sym (next-first h c.loop.after (drop i xs) c.loop.invariant None c.in-None.ensures)))

pub loop-preserved : goal.loop-preserved
loop-preserved c =
    let p = c.args.self.now in
    let h = p.world.past in
    let xs = ready p.script.value h in
    let i = c.loop.counter in
    let a = c.in-Some.actor in
    let here = sym (first-drop xs i) ∙ sym (next-first h c.loop.after (drop i xs) c.loop.invariant (Some a) c.in-Some.ensures) in
    rest-after h c.loop.after a (drop (i + 1) xs) (subst (IsRest h c.loop.after) (drop-place xs i a here) c.loop.invariant)

pub returns : goal.returns
returns c =
    let p = c.args.self.now in
    let h = p.world.past in
    let xs = ready p.script.value h in
    let i = c.loop.counter in
    let stop = c.loop-test.false in
    let most = c.loop.auto.counter-end in
    let end : i ≡ c.args.skip = omega (arith, stop, most) in
    next-first h c.loop.after (drop i xs) c.loop.invariant c.next_ready-2.result c.next_ready-2.ensures ∙ first-drop xs i ∙ ap (slice_get xs) end
