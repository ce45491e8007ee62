use Rattle.std.proofs.Common.{sym, subst}
use Rattle.history_model.specs.Story.{Story}
use Rattle.script_workers.specs.Closed.{CarryFew}
use Rattle.script_workers.proofs.Closes.{carry-few}
use Rattle.script_workers.proofs.closing.close_anew.Goals as goal

pub course_of-requires-clause-few : goal.course_of-requires-clause-few
course_of-requires-clause-few c =
    let within = c.is_lawful.ensures.within in
    subst (λ (h : Story). CarryFew h.past) (sym c.in-Some.ensures) (carry-few c.args.world.past within.ranges)
