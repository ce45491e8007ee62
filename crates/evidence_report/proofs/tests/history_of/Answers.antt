use Rattle.std.proofs.Common.{◌≡◌}
use Rattle.evidence_report.proofs.tests.history_of.Goals as goal

pub loop-event-init : goal.loop-event-init
loop-event-init c = record {
  cluster_is = λ i. record { nodes = c.new-history.ensures.nodes i; version = c.new-history.ensures.version i };
  past_is = c.new-history.ensures.past;
}
