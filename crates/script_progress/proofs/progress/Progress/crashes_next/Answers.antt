use Rattle.std.proofs.Common.{◌∙◌, ap, sym}
use Rattle.fault_plan.specs.Rows.{crash_of}
use Rattle.script_progress.specs.Used.{Used}
use Rattle.script_progress.proofs.Steps.{due-next}
use Rattle.script_progress.proofs.progress.Progress.crashes_next.Goals as goal

pub returns-in-Some-clause-stands : goal.returns-in-Some-clause-stands
returns-in-Some-clause-stands c = λ s h a on stands.
    due-next s h c.args.self.now a c.args.node c.in-Some.after on stands
    (sym (ap (λ (p : Used). crash_of c.args.node (let plan = p.plan in plan.crashes)) c.self.view_is) ∙ sym c.crash_after.ensures ∙ c.in-Some.is)
    c.ended_on.result c.ended_on.ensures
