use Rattle.std.proofs.Common.{refl, subst, sym}
use Rattle.edge_table.specs.Table.{ArePositive, Edges, ends_from, is_positive_at}
use Rattle.edge_table.proofs.PositiveLemmas.{positive-front, positive-whole}
use Rattle.edge_table.proofs.TableLemmas.{owner_of, target_of}
use Rattle.edge_table.proofs.table.EdgeTable.positive_from.Goals as goal

pub returns-then-ends-le-MANY : goal.returns-then-ends-le-MANY
returns-then-ends-le-MANY c = positive-whole owner_of target_of refl c.args.self.now.edges c.args.place c.edges_from-ends.result.now c.edges_from-ends.ensures.ends

pub positive-requires : goal.positive-requires
positive-requires c =
    (ends_from c.self.inside.edges.edges c.args.place, is_positive_at c.self.inside.edges.edges, c.self.invariant.1.1.from c.args.place)

pub returns-in-Some : goal.returns-in-Some
returns-in-Some c =
    let edges = c.self.inside.edges.edges in
    let kept = c.in-Some.ensures in
    let parted = (c.self.invariant.1.1.from c.args.place kept.0 kept.1).1 in
    subst (λ (t : Edges). ArePositive owner_of target_of t.edges c.args.place c.in-Some.positive.now) c.self.view_is
    (subst (ArePositive owner_of target_of edges c.args.place) (sym kept.2) (positive-front owner_of target_of refl edges c.args.place kept.0 parted))

pub returns-in-None : goal.returns-in-None
returns-in-None c = positive-whole owner_of target_of refl c.args.self.now.edges c.args.place c.edges_from-ends.result.now c.edges_from-ends.ensures.ends
