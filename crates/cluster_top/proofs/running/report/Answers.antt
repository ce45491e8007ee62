use Rattle.cluster_top.proofs.RunReports.{run-refusal, run-report}
use Rattle.cluster_top.proofs.running.report.Goals as goal

pub returns-in-Ok-clause-report : goal.returns-in-Ok-clause-report
returns-in-Ok-clause-report c =
    run-report c.each_node_that_is_up_sweeps.ensures c.what_is_not_lost_is_delivered.ensures c.each_sweep_of_a_round_is_at_a_quiet_point.ensures.delivered
    c.a_round_stops_all_that_are_quiescent.ensures.delivered c.the_beginning_is_legal.ensures.read c.the_fixed_schedule_is_legal.ensures.made
    c.the_fixed_schedule_is_legal.ensures.fixed c.args.bytes.now c.in-Ok.script c.args.brief c.finished.result c.in-Ok.ensures.answers
    c.finished.ensures.report

pub returns-in-Ok-clause-refusal : goal.returns-in-Ok-clause-refusal
returns-in-Ok-clause-refusal c = run-refusal c.args.bytes.now c.in-Ok.script c.finished.result c.in-Ok.ensures.answers c.finished.ensures.refusal
