-- Cases by a test, by whether it is that pass, and by whether it is that actor.
use Rattle.std.proofs.Common.{◌≡◌, ◌==◌, ℕ, Bool, true, false, refl, sym, ◌∙◌, ap}
use Rattle.std.proofs.lemmas.Bool.{eqb-true}
use Rattle.crgc_ids.specs.Actor.{Actor, same_actor}
use Rattle.history_model.proofs.Basics.{same_actor-equal}

pub by_test : (v : Bool) (G : Type 0) → (v ≡ true → G) → (v ≡ false → G) → G
by_test true G holds fails = holds refl
by_test false G holds fails = fails refl

pub by_pass : (p q : ℕ) (G : Type 0) → (q ≡ p → G) → ((q == p) ≡ false → G) → G
by_pass p q G own other = by_test (q == p) G (λ same. own (eqb-true q p same)) other

pub by_actor : (a c : Actor) (G : Type 0) → (a ≡ c → G) → (same_actor a c ≡ false → G) → G
by_actor a c G own other = by_test (same_actor a c) G (λ same. own (same_actor-equal a c same)) other

-- what is the same of that pass, and of all others, is the same of each
pub same-by_pass : {A : Type 0} (p : ℕ) (f g : ℕ → A) → f p ≡ g p → ((q : ℕ) → (q == p) ≡ false → f q ≡ g q) → (q : ℕ) → f q ≡ g q
same-by_pass p f g own others q = by_pass p q (f q ≡ g q) (λ same. ap f same ∙ own ∙ ap g (sym same)) (others q)
