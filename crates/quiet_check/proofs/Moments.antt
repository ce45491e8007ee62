-- Moments of a history: an event with those before it. What a test finds among them.
use Rattle.std.proofs.Common.{◌≡◌, ◌<◌, ◌||◌, ◌⊎◌, ℕ, zero, suc, Bool, true, false, List, [], ◌∷◌, refl, sym, ◌∙◌, ap, subst, inl, inr, arith}
use Rattle.std.proofs.lemmas.Bool.{and_parts, and_from, cases_lt, false≢true, or_cases}
use Rattle.history_model.specs.declared.events.Event.{Event}
use Rattle.quiet_check.specs.Plain.{all_below, some_moment}

-- ---- numbers

pub below_each : (test : ℕ → Bool) (n : ℕ) → all_below test n ≡ true → (k : ℕ) → k < n → test k ≡ true
below_each test zero all k below = absurd (omega arith)
below_each test (suc n) all k below =
    let both = and_parts (all_below test n) (test n) all in
    elim (cases_lt k n) [
      | inl less ↦ below_each test n both.0 k less
      | inr most ↦ (let last : k ≡ n = omega arith in subst (λ i. test i ≡ true) (sym last) both.1)
    ]

pub each_below : (test : ℕ → Bool) (n : ℕ) → ((k : ℕ) → k < n → test k ≡ true) → all_below test n ≡ true
each_below test zero each = refl
each_below test (suc n) each =
    and_from (all_below test n) (test n) (each_below test n (λ k below. each k (omega arith))) (each n (omega arith))

-- ---- moments

-- the history has come to the event e after p
abbrev pub IsMoment : Event → List Event → List Event → Type 0
IsMoment e p [] = ⊥
IsMoment e p (x ∷ q) = ((e ≡ x) × (p ≡ q)) ⊎ IsMoment e p q

pub moment_passes : (test : Event → List Event → Bool) (e : Event) (p h : List Event) → IsMoment e p h → test e p ≡ true → some_moment test h ≡ true
moment_passes test e p [] moment t = absurd moment
moment_passes test e p (x ∷ q) (inl here) t =
    let now : test x q ≡ true = sym (ap (λ y. test y q) here.0) ∙ sym (ap (test e) here.1) ∙ t in
    rw now refl
moment_passes test e p (x ∷ q) (inr earlier) t =
    let before = moment_passes test e p q earlier t in
    elim (test x q) as (λ v. (v || some_moment test q) ≡ true) [ true ↦ refl | false ↦ before ]

pub moment_found : (test : Event → List Event → Bool) (h : List Event) → some_moment test h ≡ true → (e : Event) × (p : List Event) × IsMoment e p h × (test e p ≡ true)
moment_found test [] t = absurd (false≢true t)
moment_found test (x ∷ q) t =
    elim (or_cases (test x q) (some_moment test q) t) [
      | inl now ↦ (x, q, inl (refl, refl), now)
      | inr before ↦ (let found = moment_found test q before in (found.0, found.1, inr found.2, found.3))
    ]
