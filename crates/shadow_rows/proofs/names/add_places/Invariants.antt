use Rattle.std.proofs.Common.{◌≡◌, ◌≤◌}
use Rattle.shadow_rows.proofs.names.add_places.Given as goal

abbrev pub invariant-loop : goal.invariant-loop
invariant-loop l = record {
  grown : l.initial.edges.places ≤ l.edges.places;
  so_many : l.counter ≤ l.edges.places;
  pairs : l.edges.pairs ≡ l.initial.edges.pairs;
  edges : l.edges.edges ≡ l.initial.edges.edges;
}
