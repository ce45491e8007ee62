use Rattle.std.proofs.Common.{◌≡◌}
use Rattle.crgc_ids.specs.Actor.{Actor}
use Rattle.edge_table.specs.Table.{HasEnds}
use Rattle.collector_tests.proofs.edges.first_to_each.Given as goal

abbrev pub invariant-loop : goal.invariant-loop
invariant-loop l = (a b : Actor) → a.node ≡ 0 → b.node ≡ 0 → HasEnds l.table a b a.serial b.serial

abbrev pub invariant-loop-target : goal.invariant-loop-target
invariant-loop-target l = (a b : Actor) → a.node ≡ 0 → b.node ≡ 0 → HasEnds l.table a b a.serial b.serial
