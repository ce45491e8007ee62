use Rattle.std.proofs.Common.{◌≡◌, reverse}
use Rattle.quiet_check.specs.Plain.{all_below, closes_all}
use Rattle.quiet_check.proofs.nodes.are_links_closed.Given as goal

abbrev pub invariant-loop-from : goal.invariant-loop-from
invariant-loop-from l = l.closed ≡ all_below (closes_all l.nodes (reverse l.events)) l.from
