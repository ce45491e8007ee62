use Rattle.std.proofs.Common.{◌∷◌, ◌∙◌, [], ap, arith, length, length-append, subst, sym}
use Rattle.edge_table.specs.Partition.{IsKeptOf, kept_of}
use Rattle.edge_table.specs.Table.{is_positive_at}
use Rattle.edge_table.proofs.PartitionLemmas.{kept-none, kept-short}
use Rattle.edge_table.proofs.positive.PositiveEdges.grow.Goals as goal

pub push-requires : goal.push-requires
push-requires c =
    let before = c.requires.kept.0 in
    let more = ap length c.requires.kept.1 ∙ length-append before (c.args.end ∷ []) in
    let few = c.requires.few in
    (before, is_positive_at c.args.edges.now.edges, omega arith, c.requires.kept.2)

pub returns-then-ends-le-MANY-clause-kept : goal.returns-then-ends-le-MANY-clause-kept
returns-then-ends-le-MANY-clause-kept c =
    let before = c.requires.kept.0 in
    let counts = is_positive_at c.args.edges.now.edges in
    let kept = kept_of c.args.self.now c.args.place in
    let more = ap length c.requires.kept.1 ∙ length-append before (c.args.end ∷ []) in
    let short = c.if-ends-le-MANY.true in
    kept-none c.args.ends.now counts kept (kept-short before counts kept (omega arith) c.requires.kept.2)

pub returns-then-push-clause-kept : goal.returns-then-push-clause-kept
returns-then-push-clause-kept c =
    let before = c.requires.kept.0 in
    let counts = is_positive_at c.args.edges.now.edges in
    subst (λ ns. IsKeptOf ns counts (kept_of c.push.new.self c.args.place)) (sym c.requires.kept.1)
    (c.push.ensures.pushed c.if-push.true before counts c.requires.free c.requires.kept.2)
