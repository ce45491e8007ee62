-- The links after one event more, where one of them changed, or none.
use Rattle.std.proofs.Common.{◌≡◌, ◌≢◌, ◌==◌, ◌&&◌, ℕ, false, List, ◌∷◌, sym, ap, subst, inl, inr}
use Rattle.std.proofs.lemmas.Bool.{and_right, cases_eq, ne_eqb}
use Rattle.history_model.specs.declared.events.Event.{Event}
use Rattle.link_table.specs.LinkState.{LinkState}
use Rattle.link_table.specs.Standing.{StandsFor, is_of_link}
use Rattle.link_table.specs.Table.{IsLink, OthersStay, link_at}
use Rattle.link_table.proofs.StandingLemmas.{say-the_same, stands-still}

-- each link is as the history says
abbrev pub AllStand : List Event → List LinkState → Type 0
AllStand h links = (s d : ℕ) → IsLink s d → StandsFor s d h (link_at links s d)

-- the event is of no link but this one
abbrev pub IsOfOne : ℕ → ℕ → Event → Type 0
IsOfOne s d e = (x y : ℕ) → ((x ≡ s) × (y ≡ d) → ⊥) → is_of_link x y e ≡ false

-- the test of two numbers fails where one of them is another one
pub not-both : (s d x y : ℕ) → ((x ≡ s) × (y ≡ d) → ⊥) → ((s == x) && (d == y)) ≡ false
not-both s d x y apart =
    elim (cases_eq s x) [
      | inl e ↦ and_right (s == x) (d == y) (ne_eqb d y (λ f. apart (sym e, sym f)))
      | inr differ ↦ ap (λ v. v && (d == y)) (ne_eqb s x differ)
    ]

-- no link changed, and the event is of none
pub links-stay : (e : Event) (p : List Event) (old new : List LinkState) → ((x y : ℕ) → x ≢ y → is_of_link x y e ≡ false) → ((x y : ℕ) → IsLink x y → link_at new x y ≡ link_at old x y)
    → AllStand p old → AllStand (e ∷ p) new
links-stay e p old new other same stand x y link =
    subst (StandsFor x y (e ∷ p)) (sym (same x y link)) (stands-still x y (e ∷ p) p (link_at old x y) (say-the_same x y e p (other x y link.2)) (stand x y link))

-- one link changed, and the event is of that one
pub links-follow : (s d : ℕ) (e : Event) (p : List Event) (old new : List LinkState) → IsOfOne s d e → OthersStay old new s d → StandsFor s d (e ∷ p) (link_at new s d)
    → AllStand p old → AllStand (e ∷ p) new
links-follow s d e p old new one others here stand x y link =
    let there = λ (apart : (x ≡ s) × (y ≡ d) → ⊥).
    subst (StandsFor x y (e ∷ p)) (sym (others x y link apart)) (stands-still x y (e ∷ p) p (link_at old x y) (say-the_same x y e p (one x y apart)) (stand x y link)) in
    elim (cases_eq x s) [
      | inr differ ↦ there (λ both. differ both.0)
      | inl same ↦ elim (cases_eq y d) [
        | inr differ ↦ there (λ both. differ both.1)
        | inl also ↦ subst (λ i. StandsFor i y (e ∷ p) (link_at new i y)) (sym same) (subst (λ j. StandsFor s j (e ∷ p) (link_at new s j)) (sym also) here)
      ]
    ]
