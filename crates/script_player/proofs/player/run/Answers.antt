use Rattle.std.proofs.Common.{◌≡◌, Result, Ok, Err, sym, ◌∙◌, subst}
use Rattle.std.specs.Prelude.{IfErr}
use Rattle.std.specs.Result.{IsErrAnd}
use Rattle.script_reader.specs.Valid.{Scripted}
use Rattle.script_player.specs.declared.fault.RunFault.{RunFault}
use Rattle.script_player.specs.declared.player.Ran.{Ran}
use Rattle.script_player.specs.Reported.{IsRunFault, ReportsFixed}
use Rattle.script_player.proofs.player.run.Goals as goal

pub returns-clause-report : goal.returns-clause-report
returns-clause-report c =
    subst (λ s. ReportsFixed s c.args.brief c.in_ok-report.report.items) (c.go_on.ensures.script ∙ c.in_ok-cluster.ensures.script)
    c.in_ok-report.ensures.report

-- a fault that is handed on
handed-on : (s : Scripted) (r : Result Ran RunFault) (f : RunFault) → IsErrAnd r (λ g. g ≡ f) → IsRunFault s f → IfErr r (IsRunFault s)
handed-on s (Ok ran) f gives fault = tt
handed-on s (Err g) f gives fault = subst (IsRunFault s) (sym gives) fault

pub returns-in_err-go_on-clause-fault : goal.returns-in_err-go_on-clause-fault
returns-in_err-go_on-clause-fault c =
    handed-on c.args.script c.from_residual-in_err-go_on.result c.in_err-go_on.field-0.0 c.from_residual-in_err-go_on.ensures.1
    (subst (λ s. IsRunFault s c.in_err-go_on.field-0.0) c.in_ok-cluster.ensures.script c.in_err-go_on.ensures.fault)

pub returns-in_err-report-clause-fault : goal.returns-in_err-report-clause-fault
returns-in_err-report-clause-fault c =
    handed-on c.args.script c.from_residual-in_err-report.result c.in_err-report.field-0.0 c.from_residual-in_err-report.ensures.1
    (subst (λ s. IsRunFault s c.in_err-report.field-0.0) (c.go_on.ensures.script ∙ c.in_ok-cluster.ensures.script) c.in_err-report.ensures.fault)
