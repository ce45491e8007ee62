use Rattle.std.proofs.Common.{sym, ◌∙◌}
use Rattle.history_model.specs.Legal.{refusal}
use Rattle.journal_model.specs.Limits.{limit_passed}
use Rattle.true_config.specs.Steps.{Adds}
use Rattle.true_config.proofs.Answering.{hindered-not_done, may-follow}
use Rattle.true_config.proofs.world.World.change_if_possible.Goals as goal

pub returns-in-Some-clause-done : goal.returns-in-Some-clause-done
returns-in-Some-clause-done c =
    let old = c.args.self.now in
    let e = c.args.event.now in
    hindered-not_done (refusal old.cluster e old.past) (limit_passed old.cluster e old.past) c.in-Some.answer (Adds e old old) (sym c.in-Some.is ∙ c.in-Ok.ensures)

pub change-requires-clause-may : goal.change-requires-clause-may
change-requires-clause-may c = may-follow c.args.event.now c.args.self.now (sym c.in_default-hindrance.is ∙ c.in-Ok.ensures)
