use Rattle.std.proofs.Common.{◌≡◌, length, take}
use Rattle.shadow_rows.proofs.grow.cut_back_edges.Given as goal

abbrev pub invariant-loop-edges : goal.invariant-loop-edges
invariant-loop-edges l = record {
  pairs : take l.count l.edges.pairs ≡ take l.count l.initial.edges.pairs;
  edges : take l.count l.edges.edges ≡ take l.count l.initial.edges.edges;
  places : l.edges.places ≡ l.initial.edges.places;
}

abbrev pub decreases-loop-edges : goal.decreases-loop-edges
decreases-loop-edges l = length l.edges.edges
