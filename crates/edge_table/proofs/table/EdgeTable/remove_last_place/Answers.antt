use Rattle.std.proofs.Common.{◌≡◌, ◌-◌, ◌<◌, [], subst, sym, arith}
use Rattle.edge_table.specs.Table.{Edges, edges_from, edges_to}
use Rattle.edge_table.proofs.TableLemmas.{table-place_popped}
use Rattle.edge_table.proofs.table.EdgeTable.remove_last_place.Goals as goal

pub invariant_of-self : goal.invariant_of-self
invariant_of-self c =
    let long = c.self.inside.places.ok in
    let some = subst (λ (t : Edges). 0 < t.places) (sym c.self.view_is) c.requires.some in
    let from = subst (λ (t : Edges). edges_from t.edges (t.places - 1) ≡ []) (sym c.self.view_is) c.requires.from in
    let to = subst (λ (t : Edges). edges_to t.edges (t.places - 1) ≡ []) (sym c.self.view_is) c.requires.to in (
      table-place_popped c.self.inside.edges.pairs c.self.inside.edges.edges c.self.inside.places.items c.pop.new.self.items c.pop.result c.self.invariant.0 (c.pop.ensures.variant.1 (omega arith)) c.pop.ensures.items from to,
      c.self.invariant.1,
    )
