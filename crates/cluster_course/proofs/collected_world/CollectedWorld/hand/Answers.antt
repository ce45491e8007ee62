use Rattle.std.proofs.Common.{sym, ◌∙◌, subst}
use Rattle.history_model.specs.declared.events.Event.TheVariants.{Hand}
use Rattle.history_model.specs.Story.{Story}
use Rattle.cluster_course.specs.Halting.{IsHalt}
use Rattle.cluster_course.proofs.Outcomes.{is-halt}
use Rattle.cluster_course.proofs.collected_world.CollectedWorld.hand.Goals as goal

pub returns-clause-halt : goal.returns-clause-halt
returns-clause-halt c =
    let e = Hand c.args.to c.args.origin c.args.number in
    subst (λ (x : Story). IsHalt c.in-Err.halt e x) c.self.view_is
    (is-halt e c.self.inside.world c.apply.result c.in-Err.halt c.apply.ensures.answer (sym c.was_done.ensures ∙ c.in-Err.is))
