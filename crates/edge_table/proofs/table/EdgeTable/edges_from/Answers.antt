use Rattle.std.proofs.Common.{◌≡◌, ◌<◌, ◌∙◌, ap, arith, length, refl, subst, sym}
use Rattle.std.proofs.lemmas.List.{get_or_default}
use Rattle.edge_table.specs.Ends.{PlaceEnds, no_ends}
use Rattle.edge_table.specs.Table.{Edges, ends_from}
use Rattle.edge_table.proofs.EndsLemmas.{ends-few}
use Rattle.edge_table.proofs.TableLemmas.{owner_of, target_of}
use Rattle.edge_table.proofs.table.EdgeTable.edges_from.Goals as goal

pub returns-clause-few : goal.returns-clause-few
returns-clause-few c =
    let edges = c.self.inside.edges.edges in
    let places = c.self.inside.places.items in
    let inside : c.args.place < length places = subst (λ (t : Edges). c.args.place < t.places) (sym c.self.view_is) c.requires in
    let read = c.index.ensures ∙ get_or_default places c.args.place c.index.result.now no_ends inside in
    let is : c.from.result.now ≡ ends_from edges c.args.place = c.from.ensures ∙ ap (λ (e : PlaceEnds). e.from) read ∙ c.self.invariant.0.from c.args.place in
    let long = ap length is in
    let few = ends-few owner_of target_of refl edges c.args.place in
    let bound = c.self.invariant.0.few_edges in
    omega arith
