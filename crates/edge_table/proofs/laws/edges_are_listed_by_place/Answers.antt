use Rattle.std.proofs.Common.{map, refl}
use Rattle.edge_table.specs.declared.table.Edge.{Edge}
use Rattle.edge_table.proofs.ListedLemmas.{listed, numbers-distinct}
use Rattle.edge_table.proofs.laws.edges_are_listed_by_place.Goals as goal

pub returns : goal.returns
returns c = record {
  from = listed (λ (e : Edge). e.owner) refl;
  to = listed (λ (e : Edge). e.target) refl;
  from_once = λ edges place. numbers-distinct place 0 (map (λ (e : Edge). e.owner) edges);
  to_once = λ edges place. numbers-distinct place 0 (map (λ (e : Edge). e.target) edges);
}
