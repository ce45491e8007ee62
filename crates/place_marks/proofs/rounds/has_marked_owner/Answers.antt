use Rattle.std.proofs.Common.{◌∙◌, ap, refl, sym}
use Rattle.std.proofs.lemmas.Bool.{false≢true}
use Rattle.std.specs.Option.{is_some}
use Rattle.place_marks.proofs.EndLemmas.{among-at, end_at, positive-step}
use Rattle.place_marks.proofs.RoundLemmas.{unmarked-on}
use Rattle.place_marks.proofs.rounds.has_marked_owner.Goals as goal
use Rattle.place_marks.proofs.rounds.has_marked_owner.Goals.{else-is_marked-via-else-is_marked, else-is_marked-via-then-is_marked+else-is_some}

pub returns-then-is_some : goal.returns-then-is_some
returns-then-is_some g c =
    let ends = c.edges_to-ends.result.now in
    let i = c.loop-owner.owner-index in
    let owner = (end_at ends i).0 in
    let number = (end_at ends i).1 in
    let alone = c.edges_to-ends.ensures.alone owner number in
    let step = positive-step (g.G.PlaceGraph.graph c.args.graph.now) owner c.args.place number c.step.result c.step.ensures (sym c.if-is_some.ensures) (λ b a. alone b a (among-at ends i c.loop-owner-test.true)) in
    (λ _. (owner, (number, step), sym c.is_marked.ensures ∙ c.if-is_marked.true), λ _. refl)

pub loop-owner-preserved : goal.loop-owner-preserved
loop-owner-preserved g c =
    unmarked-on (g.G.PlaceGraph.graph c.args.graph.now) c.args.marks.now c.args.place c.edges_to-ends.result.now c.loop-owner.owner-index c.loop-owner-test.true
    (λ step. elim c.else-is_marked.branch [
      | else-is_marked-via-then-is_marked+else-is_some w ↦ absurd (false≢true (w.if-is_some.ensures ∙ ap is_some (w.step.ensures ∙ step)))
      | else-is_marked-via-else-is_marked w ↦ sym c.is_marked.ensures ∙ w.if-is_marked.false
    ])
    c.loop-owner.invariant
