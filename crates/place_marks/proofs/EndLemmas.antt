-- The ends of edges that a loop went over: each is the place of the other end, beside the number of the edge.
use Rattle.std.proofs.Common.{◌≡◌, ◌⊎◌, ◌<◌, ◌+◌, ℕ, zero, suc, true, Option, None, Some, List, [], ◌∷◌, length, get_or, take, refl, sym, ◌∙◌, subst, inl, inr, arith}
use Rattle.std.proofs.lemmas.Bool.{false≢true}
use Rattle.std.proofs.lemmas.List.{take_more}
use Rattle.std.specs.Option.{is_some}
use Rattle.crgc_ids.proofs.MembersLaws.{IsAmong-append_cases}
use Rattle.crgc_ids.specs.Members.{IsAmong}
use Rattle.place_marks.specs.Graph.{Graph}

-- the end at this index
abbrev pub end_at : List (ℕ × ℕ) → ℕ → ℕ × ℕ
end_at ends i = get_or ends i (0, 0)

-- what stands in a list is one of it
pub among-at : (ends : List (ℕ × ℕ)) (i : ℕ) → i < length ends → IsAmong (end_at ends i) ends
among-at [] i inside = absurd (omega arith)
among-at (e ∷ ends) zero inside = inl refl
among-at (e ∷ ends) (suc i) inside = inr (among-at ends i (omega arith))

-- after one end more, that one or one of those before it
pub among-more : (ends : List (ℕ × ℕ)) (i : ℕ) (e : ℕ × ℕ) → i < length ends → IsAmong e (take (i + 1) ends) → IsAmong e (take i ends) ⊎ (e ≡ end_at ends i)
among-more ends i e inside h =
    elim (IsAmong-append_cases e (take i ends) (end_at ends i ∷ []) (subst (IsAmong e) (take_more ends i (0, 0) inside) h)) [
      | inl before ↦ inl before
      | inr last ↦ elim last [ inl same ↦ inr same | inr none ↦ absurd none ]
    ]

-- an edge that is positive leads from b to a, where it leads nowhere else
pub positive-step : (g : Graph) (b a n : ℕ) (step : Option (ℕ × ℕ)) → step ≡ g.step n → is_some step ≡ true → ((c d : ℕ) → g.step n ≡ Some (c, d) → (c ≡ b) × (d ≡ a)) → g.step n ≡ Some (b, a)
positive-step g b a n None read positive alone = absurd (false≢true positive)
positive-step g b a n (Some (c, d)) read positive alone =
    let same = alone c d (sym read) in
    sym read ∙ (λ j. Some (same.0 j, same.1 j))
