use Rattle.std.proofs.Common.{◌≡◌, ◌∙◌, ap, true, arith, inr, sym}
use Rattle.std.proofs.lemmas.Bool.{false≢true}
use Rattle.std.specs.Option.{is_some}
use Rattle.place_marks.proofs.EndLemmas.{among-at, end_at, positive-step}
use Rattle.kept_marks.specs.Kept.{is_supported}
use Rattle.kept_marks.proofs.KeptLemmas.{apart, unmarked-on}
use Rattle.kept_marks.proofs.steps.find_support.Goals as goal
use Rattle.kept_marks.proofs.steps.find_support.Goals.{else-is_some-via-else-is_some, else-is_some-via-then-is_some+else-is_some-2}

pub bounds-supports-owner : goal.bounds-supports-owner
bounds-supports-owner g c =
    let ends = c.edges_to-ends.result.now in
    let i = c.loop-owner.owner-index in
    let there = c.edges_to-ends.ensures.within (end_at ends i).0 (end_at ends i).1 (among-at ends i c.loop-owner-test.true) in
    let room = c.requires.room in
    omega arith

pub returns-then-is_some-2-clause-some : goal.returns-then-is_some-2-clause-some
returns-then-is_some-2-clause-some g c =
    let ends = c.edges_to-ends.result.now in
    let i = c.loop-owner.owner-index in
    let owner = (end_at ends i).0 in
    let number = (end_at ends i).1 in
    let alone = c.edges_to-ends.ensures.alone owner number in
    let step = positive-step (g.G.PlaceGraph.graph c.args.graph.now) owner c.args.place number c.step.result c.step.ensures (sym c.if-is_some-2.ensures) (λ b a. alone b a (among-at ends i c.loop-owner-test.true)) in
    let marked : is_supported c.args.supports.now owner ≡ true = sym c.if-is_some.ensures in
    inr (apart c.args.supports.now c.args.place owner c.requires.free marked, marked, (number, step))

pub returns-then-is_some-2-clause-within : goal.returns-then-is_some-2-clause-within
returns-then-is_some-2-clause-within g c =
    let ends = c.edges_to-ends.result.now in
    let i = c.loop-owner.owner-index in
    c.edges_to-ends.ensures.within (end_at ends i).0 (end_at ends i).1 (among-at ends i c.loop-owner-test.true)

pub loop-owner-preserved : goal.loop-owner-preserved
loop-owner-preserved g c =
    unmarked-on (g.G.PlaceGraph.graph c.args.graph.now) c.args.supports.now c.args.place c.edges_to-ends.result.now c.loop-owner.owner-index c.loop-owner-test.true
    (λ step. elim c.else-is_some.branch [
      | else-is_some-via-then-is_some+else-is_some-2 w ↦ absurd (false≢true (w.if-is_some-2.ensures ∙ ap is_some (w.step.ensures ∙ step)))
      | else-is_some-via-else-is_some w ↦ sym w.if-is_some.ensures
    ])
    c.loop-owner.invariant
