use Rattle.cluster_top.proofs.RunReports.{workers-refusal, workers-report}
use Rattle.cluster_top.proofs.working.report.Goals as goal

pub returns-in-Ok-clause-report : goal.returns-in-Ok-clause-report
returns-in-Ok-clause-report g c =
    workers-report c.each_node_that_is_up_sweeps.ensures c.what_is_not_lost_is_delivered.ensures c.each_sweep_of_a_round_is_at_a_quiet_point.ensures.delivered
    c.a_round_stops_all_that_are_quiescent.ensures.delivered c.the_beginning_is_legal.ensures.read c.runs_are_legal.ensures.unfinished
    c.runs_are_legal.ensures.follows c.a_legal_history_is_rightly_collected.ensures c.args.bytes.now c.in-Ok.script c.args.working.brief
    c.finished.new.kept c.finished.result c.in-Ok.ensures.answers c.finished.ensures.report

pub returns-in-Ok-clause-refusal : goal.returns-in-Ok-clause-refusal
returns-in-Ok-clause-refusal g c =
    workers-refusal c.args.bytes.now c.in-Ok.script c.args.kept.now c.finished.new.kept c.finished.result c.in-Ok.ensures.answers c.finished.ensures.refusal
