-- What one place stands on, and what hangs on it.
use Rattle.std.proofs.Common.{◌≡◌, ◌≢◌, ◌⊎◌, ◌<◌, ◌+◌, ℕ, Bool, true, false, List, Option, None, Some, length, take, sym, ◌∙◌, ap, subst, inl, inr}
use Rattle.std.proofs.Math.ListN.{length-set, set}
use Rattle.std.proofs.lemmas.Bool.{cases_eq, false≢true}
use Rattle.std.specs.Option.{is_some}
use Rattle.crgc_ids.specs.Members.{IsAmong}
use Rattle.place_marks.specs.Graph.{Graph, IsStep}
use Rattle.place_marks.proofs.EndLemmas.{among-more, end_at}
use Rattle.kept_marks.specs.PlaceSet.{has_place}
use Rattle.kept_marks.specs.Kept.{is_supported, support_of}
use Rattle.kept_marks.proofs.StepLemmas.{in-at, in-other}

-- ---- the targets of a place

-- what the loop over these ends of its edges has put into the set
pub record HasPut (g : Graph) (supports : List (Option ℕ)) (old new : List Bool) (b : ℕ) (on : Option ℕ) (ends : List (ℕ × ℕ)) : Type 0 where
  pub room : length new ≡ length old
  pub kept : (a : ℕ) → has_place old a ≡ true → has_place new a ≡ true
  pub added : (a n : ℕ) → IsAmong (a, n) ends → g.step n ≡ Some (b, a) → support_of supports a ≡ on → has_place new a ≡ true
  pub others : (a : ℕ) → has_place new a ≡ true → (has_place old a ≡ true) ⊎ (IsStep g b a × (support_of supports a ≡ on))

-- the target of one more, whose edge leads from b, is put
pub put-on : (g : Graph) (supports : List (Option ℕ)) (old now new : List Bool) (b : ℕ) (on : Option ℕ) (ends : List (ℕ × ℕ)) (i : ℕ) → i < length ends → (end_at ends i).0 < length now → IsStep g b (end_at ends i).0 → support_of supports (end_at ends i).0 ≡ on → new ≡ set now (end_at ends i).0 true → HasPut g supports old now b on (take i ends) → HasPut g supports old new b on (take (i + 1) ends)
put-on g supports old now new b on ends i inside within leads hangs put has =
    record {
      room = ap length put ∙ length-set now target true ∙ has.room;
      kept = λ a h. stays a (has.kept a h);
      added = λ a n h step same. elim (among-more ends i (a, n) inside h) [
        | inl earlier ↦ stays a (has.added a n earlier step same)
        | inr last ↦ subst (λ (t : ℕ). has_place new t ≡ true) (sym (ap (λ (e : ℕ × ℕ). e.0) last)) there
      ];
      others = λ a h. elim (cases_eq a target) [
        | inl same ↦ inr (subst (IsStep g b) (sym same) leads, ap (support_of supports) same ∙ hangs)
        | inr other ↦ has.others a (sym (in-other now new target a true put other) ∙ h)
      ];
    }
  where
    target : ℕ
    target = (end_at ends i).0

    there : has_place new target ≡ true
    there = in-at now new target true put within

    stays : (a : ℕ) → has_place now a ≡ true → has_place new a ≡ true
    stays a h = elim (cases_eq a target) [
      | inl same ↦ ap (has_place new) same ∙ there
      | inr other ↦ in-other now new target a true put other ∙ h
    ]

-- one more is not put where its target is in the set if its edge leads there and it has this support
pub put-skip : (g : Graph) (supports : List (Option ℕ)) (old now : List Bool) (b : ℕ) (on : Option ℕ) (ends : List (ℕ × ℕ)) (i : ℕ) → i < length ends → (g.step (end_at ends i).1 ≡ Some (b, (end_at ends i).0) → support_of supports (end_at ends i).0 ≡ on → has_place now (end_at ends i).0 ≡ true) → HasPut g supports old now b on (take i ends) → HasPut g supports old now b on (take (i + 1) ends)
put-skip g supports old now b on ends i inside done has =
    record {
      room = has.room;
      kept = has.kept;
      added = λ a n h step same. elim (among-more ends i (a, n) inside h) [
        | inl earlier ↦ has.added a n earlier step same
        | inr last ↦ subst Done (sym last) done step same
      ];
      others = has.others;
    }
  where
    Done : ℕ × ℕ → Type 0
    Done e = g.step e.1 ≡ Some (b, e.0) → support_of supports e.0 ≡ on → has_place now e.0 ≡ true

-- ---- what can support a place

-- no positive edge to the place with one of these ends leads from a marked place
abbrev pub AreUnmarked : Graph → List (Option ℕ) → ℕ → List (ℕ × ℕ) → Type 0
AreUnmarked g supports a ends = (b n : ℕ) → IsAmong (b, n) ends → g.step n ≡ Some (b, a) → is_supported supports b ≡ false

pub unmarked-on : (g : Graph) (supports : List (Option ℕ)) (a : ℕ) (ends : List (ℕ × ℕ)) (i : ℕ) → i < length ends → (g.step (end_at ends i).1 ≡ Some ((end_at ends i).0, a) → is_supported supports (end_at ends i).0 ≡ false) → AreUnmarked g supports a (take i ends) → AreUnmarked g supports a (take (i + 1) ends)
unmarked-on g supports a ends i inside free before b n h step = elim (among-more ends i (b, n) inside h) [
  | inl earlier ↦ before b n earlier step
  | inr last ↦ subst Free (sym last) free step
]
  where
    Free : ℕ × ℕ → Type 0
    Free e = g.step e.1 ≡ Some (e.0, a) → is_supported supports e.0 ≡ false

-- a place that is marked is another than one that is not
pub apart : (supports : List (Option ℕ)) (a b : ℕ) → support_of supports a ≡ None → is_supported supports b ≡ true → b ≢ a
apart supports a b free h same = false≢true (sym (ap is_some (ap (support_of supports) same ∙ free)) ∙ h)
