use Rattle.std.proofs.Common.{◌≡◌, ◌<◌, ◌+◌, ◌∙◌, ap, arith, length, subst, sym}
use Rattle.edge_table.specs.Partition.{CountsAt, nth_of, numbers_in}
use Rattle.edge_table.specs.Table.{is_positive, is_positive_at}
use Rattle.edge_table.proofs.IndexLemmas.{among-at}
use Rattle.edge_table.proofs.PartitionLemmas.{nth-number, numbers-long, so_far, so-far-more}
use Rattle.edge_table.proofs.positive.partition_of.Goals as goal

pub get-requires : goal.get-requires
get-requires c =
    let ends = c.args.ends.now in
    let i = c.loop-i.i in
    let long = numbers-long ends in
    let test = c.loop-i-test.true in
    subst (λ n. n < length c.args.edges.now.edges) (nth-number ends i) (c.requires.within (nth_of (numbers_in ends) i) (among-at (numbers_in ends) i 0 (omega arith)))

pub set_at-requires-clause-place : goal.set_at-requires-clause-place
set_at-requires-clause-place c = (let long = c.loop-i.invariant.long in let test = c.loop-i-test.true in omega arith)

pub loop-i-preserved : goal.loop-i-preserved
loop-i-preserved c =
    let ends = c.args.ends.now in
    let edges = c.args.edges.now.edges in
    let numbers = numbers_in ends in
    let i = c.loop-i.i in
    let long = numbers-long ends in
    let test = c.loop-i-test.true in
    let number = nth-number ends i in
    let is : is_positive_at edges (nth_of numbers i) ≡ c.is_positive-counts.result = ap (is_positive_at edges) number
    ∙ ap is_positive (sym c.get.ensures) ∙ sym c.is_positive-counts.ensures in
    c.set_at.ensures ends (so_far (is_positive_at edges) numbers i) (so_far (is_positive_at edges) numbers (i + 1)) c.requires.rising c.loop-i.invariant
    (subst (CountsAt (so_far (is_positive_at edges) numbers i) (so_far (is_positive_at edges) numbers (i + 1)) (nth_of numbers i)) is
    (so-far-more (is_positive_at edges) numbers i (omega arith)))
