use Rattle.std.proofs.Common.{◌≡◌, take}
use Rattle.evidence_report.specs.Stops.{stops_in}
use Rattle.evidence_report.proofs.counts.stopped_by_all.Given as goal

abbrev pub invariant-loop-verdict : goal.invariant-loop-verdict
invariant-loop-verdict l = l.all ≡ stops_in (take l.verdict-index l.verdicts)
