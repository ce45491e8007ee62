use Rattle.std.proofs.Common.{◌≡◌, drop, reverse}
use Rattle.evidence_report.proofs.Following.{IsTold}
use Rattle.evidence_report.proofs.full.append_events.Given as goal

abbrev pub invariant-loop : goal.invariant-loop
invariant-loop l = record {
  told : IsTold l.history.cluster (reverse l.history.past) l.counter l.fn.text.items l.text.items l.rest;
  left : l.events ≡ drop l.counter (reverse l.history.past);
}
