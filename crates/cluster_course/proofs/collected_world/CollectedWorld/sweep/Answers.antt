use Rattle.std.proofs.Common.{◌+◌, ◌∷◌, List, length, sym, ◌∙◌, ap, subst, arith}
use Rattle.history_model.specs.declared.events.Event.{Event}
use Rattle.history_model.specs.declared.events.Event.TheVariants.{Sweep as Sweeps}
use Rattle.history_model.specs.Cluster.{Cluster}
use Rattle.history_model.specs.Legal.{IsLegal}
use Rattle.history_model.specs.Story.{Story}
use Rattle.true_config.specs.Applying.{OnDone}
use Rattle.true_config.specs.Steps.{Adds}
use Rattle.cluster_course.specs.Halting.{IsHalt}
use Rattle.cluster_course.proofs.Courses.{course-swept}
use Rattle.cluster_course.proofs.Outcomes.{Answers, is-halt, on-done}
use Rattle.cluster_course.proofs.Stops.{stops-fit, stops-more}
use Rattle.cluster_course.proofs.collected_world.CollectedWorld.sweep.Goals as goal

pub returns-in-Err-was_done-clause-halt : goal.returns-in-Err-was_done-clause-halt
returns-in-Err-was_done-clause-halt c =
    let s = c.self.inside.world in
    let answer = subst (λ n. Answers (Sweeps n) s c.sweep.result) c.in_ok-verdict.ensures.verdict.node c.sweep.ensures.answer in
    subst (λ (x : Story). IsHalt c.in-Err-was_done.halt (Sweeps c.args.node) x) c.self.view_is
    (is-halt (Sweeps c.args.node) s c.sweep.result c.in-Err-was_done.halt answer (sym c.was_done.ensures ∙ c.in-Err-was_done.is))

pub overflow_add-self : goal.overflow_add-self
overflow_add-self c =
    let s = c.self.inside.world in
    let t = c.sweep.new.self in
    let node = c.args.node in
    let v = c.in_ok-verdict.verdict in
    let found = c.in_ok-verdict.ensures.verdict in
    let done = subst (λ n. OnDone c.sweep.result (Adds (Sweeps n) s t)) found.node c.sweep.ensures.done in
    let adds = on-done c.sweep.result c.in-Ok-was_done.told (Adds (Sweeps node) s t) done (sym c.was_done.ensures ∙ c.in-Ok-was_done.is) in
    let legal : IsLegal s.cluster (Sweeps node ∷ s.past) =
    subst (λ (cl : Cluster). IsLegal cl (Sweeps node ∷ s.past)) adds.cluster (subst (λ (h : List Event). IsLegal t.cluster h) adds.past c.is_lawful.ensures.legal) in
    let more = stops-more s.cluster node s.past v found in
    let fit = stops-fit s.cluster (Sweeps node ∷ s.past) legal in
    omega (arith, c.self.invariant.stopped, more, fit, ap length adds.past, c.len-events.ensures, c.len-events.type_inv, c.len.ensures)

pub invariant_of-self-2 : goal.invariant_of-self-2
invariant_of-self-2 c =
    let s = c.self.inside.world in
    let t = c.sweep.new.self in
    let node = c.args.node in
    let v = c.in_ok-verdict.verdict in
    let found = c.in_ok-verdict.ensures.verdict in
    let done = subst (λ n. OnDone c.sweep.result (Adds (Sweeps n) s t)) found.node c.sweep.ensures.done in
    let adds = on-done c.sweep.result c.in-Ok-was_done.told (Adds (Sweeps node) s t) done (sym c.was_done.ensures ∙ c.in-Ok-was_done.is) in
    course-swept s t c.self.inside.collectors c.verdict_of.new.collectors c.self.inside.keeps_all c.self.inside.verdicts.items c.forget.new.verdicts.items c.push_reserved.new.self.items v c.self.inside.stopped (c.self.inside.stopped + c.len.result) node c.self.invariant c.in-Ok.ensures.ok adds found c.in_ok-verdict.ensures.ok (λ kept. c.forget.ensures.kept kept ∙ c.reserve.ensures.items) c.push_reserved.ensures.items (ap (λ n. c.self.inside.stopped + n) c.len.ensures)
