use Rattle.std.proofs.Common.{◌≡◌, ◌<◌, ◌≤◌, map, take}
use Rattle.std.specs.List.{AllByRecursion}
use Rattle.shadow_rows.specs.Rows.{NamesRows}
use Rattle.shadow_rows.specs.Tabled.{AreTabled, ExtendsShadows}
use Rattle.shadow_rows.proofs.names.name_counts.Given as goal

abbrev pub invariant-loop-row : goal.invariant-loop-row
invariant-loop-row l = record {
  named : NamesRows l.initial.shadows.names l.shadows.names (map (λ r. r.actor) (take l.row-index l.rows));
  fits : AllByRecursion (λ r. r.count < 4294967296) (take l.row-index l.rows);
  tabled : AreTabled l.shadows.names l.edges;
  shadows : ExtendsShadows l.initial.shadows l.shadows;
  places : l.initial.edges.places ≤ l.edges.places;
  pairs : l.edges.pairs ≡ l.initial.edges.pairs;
  edges : l.edges.edges ≡ l.initial.edges.edges;
}
