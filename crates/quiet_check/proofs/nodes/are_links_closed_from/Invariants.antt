use Rattle.std.proofs.Common.{◌≡◌, reverse}
use Rattle.quiet_check.specs.Plain.{all_below, closes}
use Rattle.quiet_check.proofs.nodes.are_links_closed_from.Given as goal

abbrev pub invariant-loop-at : goal.invariant-loop-at
invariant-loop-at l = l.closed ≡ all_below (closes (reverse l.events) l.from) l.at
