use Rattle.std.proofs.Common.{◌≡◌, ◌∙◌, refl, subst, sym}
use Rattle.std.proofs.lemmas.Bool.{false≢true, not-false, not_from_true}
use Rattle.std.proofs.lemmas.Slice.Eq.{slice_eq-Decides}
use Rattle.std.specs.Bool.{Decides}
use Rattle.std.proofs.Math.Bool.{beq}
use Rattle.std.specs.Cmp.{booleans_Decides}
use Rattle.std.specs.Cmp.Lexicographic.{pointwise}
use Rattle.place_marks.specs.Rounds.{IsRound}
use Rattle.place_marks.proofs.RoundLemmas.{count-grows, round-keeps}
use Rattle.place_marks.proofs.rounds.mark_round.Goals as goal
use Rattle.place_marks.proofs.rounds.mark_round.Goals.{After-ne}

-- whether the row of before is the new one
same : (g : _) (c : After-ne g) → Decides (pointwise beq c.copy_from_slice.new.self c.decide_chunks.new.marks) (c.copy_from_slice.new.self ≡ c.decide_chunks.new.marks)
same g c = slice_eq-Decides booleans_Decides c.copy_from_slice.new.self c.decide_chunks.new.marks (pointwise beq c.copy_from_slice.new.self c.decide_chunks.new.marks) refl

pub returns-clause-more : goal.returns-clause-more
returns-clause-more g c more =
    let old = c.args.marks.now in
    let new = c.decide_chunks.new.marks in
    let before = c.copy_from_slice.ensures.after in
    let graph = g.G.PlaceGraph.graph c.args.graph.now in
    let round : IsRound graph old new = subst (λ row. IsRound graph row new) before c.decide_chunks.ensures in
    count-grows old new round.room (round-keeps graph old new c.requires.places round)
    (λ is. false≢true (sym (not_from_true (pointwise beq c.copy_from_slice.new.self new) ((same g c).1 (before ∙ is))) ∙ sym c.ne.ensures ∙ more))

pub returns-clause-none : goal.returns-clause-none
returns-clause-none g c none =
    let new = c.decide_chunks.new.marks in
    sym ((same g c).0 (not-false (pointwise beq c.copy_from_slice.new.self new) (sym c.ne.ensures ∙ none))) ∙ c.copy_from_slice.ensures.after
