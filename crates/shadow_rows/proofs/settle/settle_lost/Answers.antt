use Rattle.std.proofs.Common.{◌≡◌, ◌∙◌, ℕ, Some, arith, refl, subst}
use Rattle.std.proofs.lemmas.Int.{ints}
use Rattle.shadow_rows.specs.Losing.{lost_so_far}
use Rattle.shadow_rows.specs.Folded.{CountsFold}
use Rattle.shadow_rows.proofs.AddedLemmas.{tabled-counted}
use Rattle.shadow_rows.proofs.LosingLemmas.{IsTurn, corrects-none, first-counts, gain-few, last-counts, turn-corrects, turn-counts}
use Rattle.shadow_rows.proofs.PairLemmas.{keeps-more, keeps-self}
use Rattle.shadow_rows.proofs.settle.settle_lost.Goals as goal

pub loop-number-init : goal.loop-number-init
loop-number-init c = record {
  counts = λ cl fold below logs counts. first-counts cl fold c.args.before c.args.after c.args.shadows.now c.args.edges.now counts;
  corrects = corrects-none c.args.before c.args.after c.args.shadows.now c.args.edges.now;
  names = refl;
  ends = keeps-self c.args.edges.now;
}

pub loop-number-preserved : goal.loop-number-preserved
loop-number-preserved c =
    let s = c.loop-number.shadows in
    let t = c.settle_if_new.new.shadows in
    let d = c.loop-number.edges in
    let e = c.settle_if_new.new.edges in
    let log = c.args.log.now in
    let here : IsTurn log c.args.before c.args.after c.node.result s t d e = record {
      settles = c.settle_if_new.ensures.settles;
      was_before = c.settle_if_new.ensures.was_before;
      is_not_lost = c.settle_if_new.ensures.is_not_lost;
    } in
    let turn : IsTurn log c.args.before c.args.after c.loop-number.number s t d e = subst (λ (i : ℕ). IsTurn log c.args.before c.args.after i s t d e) c.node.ensures here in
    record {
      counts = λ cl fold below logs counts. turn-counts cl fold log c.args.before c.args.after c.loop-number.number s t d e below logs turn (c.loop-number.invariant.counts cl fold below logs counts);
      corrects = turn-corrects log c.args.before c.args.after c.loop-number.number c.args.shadows.now s t c.args.edges.now d e c.loop-number-test.true c.requires.told_small c.requires.log_small turn c.loop-number.invariant.corrects;
      names = c.settle_if_new.ensures.names ∙ c.loop-number.invariant.names;
      ends = keeps-more c.args.edges.now d e c.loop-number.invariant.ends c.settle_if_new.ensures.ends;
    }

pub returns-clause-counts : goal.returns-clause-counts
returns-clause-counts c = λ cl fold few part below logs counts.
    let s = c.loop-number.shadows in
    let e = c.loop-number.edges in
    let most = c.loop-number.auto.number-end in
    let over = c.loop-number-test.false in
    let all : c.loop-number.number ≡ 16 = omega arith in
    last-counts cl fold c.args.before c.args.after s e few part below
    (subst (λ (n : ℕ). CountsFold cl (lost_so_far c.args.before c.args.after n) fold s e) all (c.loop-number.invariant.counts cl fold below logs counts))

pub settle_if_new-requires-clause-tabled : goal.settle_if_new-requires-clause-tabled
settle_if_new-requires-clause-tabled c =
    tabled-counted c.args.shadows.now.names c.loop-number.shadows.names c.args.edges.now c.loop-number.edges c.loop-number.invariant.names c.loop-number.invariant.ends c.requires.tabled

pub settle_if_new-requires-clause-given_fits : goal.settle_if_new-requires-clause-given_fits
settle_if_new-requires-clause-given_fits c = λ b a.
    let small = (c.requires.count_small b a).1 in
    let so_far = (c.loop-number.invariant.corrects.count b a).1 in
    let few = gain-few c.args.before c.args.after c.loop-number.number in
    let one = c.requires.log_small c.node.result (Some b) a in
    omega (arith, ints, small, so_far, few, one)

pub settle_if_new-requires-clause-taken_fits : goal.settle_if_new-requires-clause-taken_fits
settle_if_new-requires-clause-taken_fits c = λ b a.
    let small = (c.requires.count_small b a).0 in
    let so_far = (c.loop-number.invariant.corrects.count b a).0 in
    let few = gain-few c.args.before c.args.after c.loop-number.number in
    let one = c.requires.told_small c.node.result (Some b) a in
    omega (arith, ints, small, so_far, few, one)
