-- What fits is what the actor's turn does next, and the verdict of a sweep is that of the world.
use Rattle.std.proofs.Common.{◌≡◌, ℕ, true, List, ◌∷◌, Option, Some, None, sym, ◌∙◌, ap, subst}
use Rattle.crgc_ids.specs.Actor.{Actor}
use Rattle.history_model.specs.declared.events.Event.{Event}
use Rattle.history_model.specs.declared.events.Event.TheVariants.{Rest}
use Rattle.history_model.specs.declared.records.Verdict.{Verdict}
use Rattle.history_model.specs.State.{is_busy}
use Rattle.history_model.specs.Sweeps.{IsVerdict}
use Rattle.behaviour_lang.specs.Bound.{local_names}
use Rattle.behaviour_lang.specs.Steps.{due_act}
use Rattle.behaviour_lang.specs.declared.act.Act.{Act}
use Rattle.script_reader.specs.Valid.{Scripted}
use Rattle.run_model.specs.Doing.{Doing, cluster_of, doing}
use Rattle.script_actors.specs.Standing.{names_now}
use Rattle.operation_model.specs.declared.operations.Op.TheVariants as ops
use Rattle.operation_model.specs.Courses.{behaviour_at, names_at, world}
use Rattle.operation_model.specs.Kept.{open_turns}
use Rattle.operation_model.specs.Openings.{Opening}
use Rattle.operation_model.specs.Turns.{Calls, IsNextAct, IsWholeTurn, turn_left}
use Rattle.operation_model.proofs.CourseLaws.{fitting-verdict}
use Rattle.operation_model.proofs.Frames.{rest-doing}
use Rattle.operation_model.proofs.GrantedTurns.{act-due_now, actor-busy, if-open, none-due_now}
use Rattle.operation_model.proofs.Keeping.{turn_actor-reached}
use Rattle.operation_model.proofs.Reached.{names-left}
use Rattle.operation_model.proofs.SoundCourses.{sound-course}
use Rattle.true_config.specs.Promises.{IsFoundBySweep}
use Rattle.world_object.specs.declared.parts.ClusterParts.{ClusterParts}
use Rattle.world_object.specs.Locked.{IsStateOf, MayStep}
use Rattle.world_object.specs.Standing.{Stands, opening_of, state_of}
use Rattle.world_object.specs.State.{ClusterState, as_opening}
use Rattle.world_object.specs.Turns.{IsNext, Keeps}

-- the actor is busy, and that is due in its turn
record IsNextAt (s : Scripted) (w : List Event) (a : Actor) (act : Option Act) : Type 0 where
  busy : is_busy a w ≡ true
  due : (let d = doing s a w in due_act d.turn ≡ act)

module _ (p : ClusterParts) where
  abbrev o : Opening
  o = opening_of p

  -- from the course that the cluster stands for, to the cluster
  next-here : (start : ClusterState) (h : Calls) → IsStateOf start h (state_of p) → (a : Actor) (act : Option Act) → IsNextAt start.script (world (as_opening start) h) a act → IsNext p a act
  next-here start h is a act next =
      let here = subst (λ s. IsNextAt s o.past a act) (sym is.script) (subst (λ w. IsNextAt start.script w a act) (sym is.past) next) in
      record { busy = here.busy; due = here.due }

  -- an act that fits is due
  pub act-next : (pass : ℕ) (a : Actor) (act : Act) → MayStep (state_of p) pass (ops.Act a act) → IsNext p a (Some act)
  act-next pass a act (start, h, is, may) =
      let begun = as_opening start in
      let at = sound-course begun may.sound h is.course in
      let s = start.script in
      let turn = if-open (IsNextAct s.code a act) (open_turns h pass) may.fits in
      next-here start h is a (Some act) (record {
        busy = actor-busy begun h at.1 at.0 pass a turn.0 turn.1 turn.2.0;
        due = act-due_now begun h at.1 at.0 pass a act turn.0 turn.1 turn.2;
      })

  -- at a rest that fits no act is due, and its names are those that the actor then has
  pub rest-next : (pass : ℕ) (a : Actor) (locals : List (List ℕ × Actor)) → MayStep (state_of p) pass (ops.Rest a locals) → IsNext p a None × Keeps p a locals
  rest-next pass a locals (start, h, is, may) =
      let begun = as_opening start in
      let at = sound-course begun may.sound h is.course in
      let s = start.script in
      let w = world begun h in
      let turn = if-open (IsWholeTurn s.code a locals) (open_turns h pass) may.fits in
      let t = turn.0 in
      let d = doing s a w in
      let names : local_names locals ≡ names_now s a (Rest a ∷ w) =
      sym turn.2.2 ∙ names-left (turn_left s.code t.begun) d.turn t.acts t.children (turn_actor-reached s w (open_turns h) (open_turns h) (names_at begun h) (names_at begun h) (behaviour_at begun h) (behaviour_at begun h) at.1 pass t a turn.1 turn.2.0) turn.2.1
      ∙ sym (ap (λ (x : Doing). (let l = x.turn in l.names)) (rest-doing s a w)) in (
        next-here start h is a None (record {
          busy = actor-busy begun h at.1 at.0 pass a t turn.1 turn.2.0;
          due = none-due_now begun h at.1 at.0 pass a locals t turn.1 turn.2;
        }),
        subst (λ x. local_names locals ≡ names_now x a (Rest a ∷ o.past)) (sym is.script) (subst (λ x. local_names locals ≡ names_now s a (Rest a ∷ x)) (sym is.past) names),
      )

  -- the verdict that fits is the sweep's
  pub sweep-found : (pass : ℕ) (v : Verdict) → Stands p → MayStep (state_of p) pass (ops.Sweep v) → IsFoundBySweep p.world v
  sweep-found pass v stands (start, h, is, may) =
      let found = fitting-verdict (as_opening start) h v pass is.course may.fits in
      let here = subst (λ s. IsVerdict (cluster_of s) v.node o.past v) (sym is.script) (subst (λ w. IsVerdict (cluster_of start.script) v.node w v) (sym is.past) found) in
      λ _. subst (λ cl. IsVerdict cl v.node p.world.past v) (sym stands.cluster) here
