-- The marks that a loop over the edges from a place puts.
use Rattle.std.proofs.Common.{◌≡◌, ◌⊎◌, ◌<◌, ◌+◌, ℕ, true, List, Some, length, take, sym, ◌∙◌, ap, subst, inl, inr, eqb, arith}
use Rattle.std.proofs.lemmas.Bool.{eq-eqb, eqb-true, or_cases, or_left}
use Rattle.crgc_ids.specs.Members.{IsAmong}
use Rattle.place_marks.specs.Graph.{Graph, IsStep}
use Rattle.place_marks.specs.Marks.{Extends, Marking, Puts, is_marked}
use Rattle.place_marks.proofs.EndLemmas.{among-more, end_at}

-- the targets of the positive edges with these ends are marked too, and nothing else but targets of b
pub record HasMarked (g : Graph) (old new : Marking) (b : ℕ) (ends : List (ℕ × ℕ)) : Type 0 where
  pub extends : Extends old new
  pub targets : (a n : ℕ) → IsAmong (a, n) ends → g.step n ≡ Some (b, a) → is_marked new a ≡ true
  pub others : (a : ℕ) → is_marked new a ≡ true → (is_marked old a ≡ true) ⊎ IsStep g b a

extends-on : (old now new : Marking) → Extends old now → Extends now new → Extends old new
extends-on old now new first second =
    let long = first.long in
    let more = second.long in
    record {
      room = second.room ∙ first.room;
      marks = λ p h. second.marks p (first.marks p h);
      long = omega arith;
      order = λ k less. second.order k (omega arith) ∙ first.order k less;
    }

-- the target of one more, whose edge leads from b, is marked
pub marked-on : (g : Graph) (old now new : Marking) (b : ℕ) (ends : List (ℕ × ℕ)) (i : ℕ) → i < length ends → IsStep g b (end_at ends i).0 → Puts now new (end_at ends i).0 → HasMarked g old now b (take i ends) → HasMarked g old new b (take (i + 1) ends)
marked-on g old now new b ends i inside leads puts has =
    record {
      extends = extends-on old now new has.extends puts.extends;
      targets = λ t n h step. elim (among-more ends i (t, n) inside h) [
        | inl earlier ↦ puts.extends.marks t (has.targets t n earlier step)
        | inr same ↦ puts.marks t ∙ or_left (eqb t a) (is_marked now t) (eq-eqb t a (ap (λ (e : ℕ × ℕ). e.0) same))
      ];
      others = λ t h. elim (or_cases (eqb t a) (is_marked now t) (sym (puts.marks t) ∙ h)) [
        | inl same ↦ inr (subst (IsStep g b) (sym (eqb-true t a same)) leads)
        | inr earlier ↦ has.others t earlier
      ];
    }
  where
    a : ℕ
    a = (end_at ends i).0

-- one more marks nothing where its target is marked if its edge leads there
pub marked-skip : (g : Graph) (old now : Marking) (b : ℕ) (ends : List (ℕ × ℕ)) (i : ℕ) → i < length ends → (g.step (end_at ends i).1 ≡ Some (b, (end_at ends i).0) → is_marked now (end_at ends i).0 ≡ true) → HasMarked g old now b (take i ends) → HasMarked g old now b (take (i + 1) ends)
marked-skip g old now b ends i inside done has =
    record {
      extends = has.extends;
      targets = λ t n h step. elim (among-more ends i (t, n) inside h) [
        | inl earlier ↦ has.targets t n earlier step
        | inr same ↦ subst Done (sym same) done step
      ];
      others = has.others;
    }
  where
    Done : ℕ × ℕ → Type 0
    Done e = g.step e.1 ≡ Some (b, e.0) → is_marked now e.0 ≡ true
