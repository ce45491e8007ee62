use Rattle.std.proofs.Common.{◌≡◌, reverse}
use Rattle.history_model.specs.Rows.{cluster}
use Rattle.evidence_report.proofs.tests.history_of.Given as goal

abbrev pub invariant-loop-event : goal.invariant-loop-event
invariant-loop-event l = record {
  cluster_is : l.history.cluster ≡ cluster l.nodes 1;
  past_is : l.history.past ≡ reverse l.yielded;
}
