-- The calls of one pass in a history, and beginnings of one history.
use Rattle.std.proofs.Common.{◌≡◌, ◌≢◌, ℕ, ◌≤◌, true, false, cond, eqb, eq-eqb, ne_eqb, List, [], ◌∷◌, ◌++◌, length, get_or, Option, Some, refl, sym, ap, ◌∙◌, arith, length-append}
use mathlib.Core.Logic.{dite}
use native.Mathlib.Decide.{ℕ_discrete}
use Rattle.turn_lock.specs.declared.object.Entry.{Entry}
use Rattle.turn_lock.specs.History.{calls_of, IsProper}
use Rattle.crgc_ids.proofs.MembersLaws.{append-empty}

-- a lock and its pass know one state from which they began
pub same_start : {S : Type 0} (a b : Option S) (x key y : S) → a ≡ Some x → a ≡ b → b ≡ Some key → y ≡ key → x ≡ y
same_start a b x key y p q r s = cc

-- a seat that has one slot has one value there
pub one_room : {A : Type 0} (x y : A) → ◌≡◌ {A = List (ℕ × A)} ((0, x) ∷ []) ((0, y) ∷ []) → x ≡ y
one_room {A} x y e = ap (λ (l : List (ℕ × A)). (get_or l 0 (0, x)).1) e

module _ {A : Type 0} where
  -- what stands before a list and changes nothing is empty
  pub append_same : (xs ys : List A) → xs ++ ys ≡ ys → xs ≡ []
  append_same [] ys e = refl
  append_same (x ∷ xs) ys e = absurd (omega (arith, ap length e, length-append xs ys))

  -- of two beginnings of one history the longer goes on from the shorter
  pub two_beginnings : (a b xs ys : List A) → a ++ xs ≡ b ++ ys → length ys ≤ length xs → (mid : List A) × (b ≡ a ++ mid) × (xs ≡ mid ++ ys)
  two_beginnings [] b xs ys e shorter = (b, refl, e)
  two_beginnings (x ∷ a) [] xs ys e shorter = absurd (omega (arith, ap length e, length-append a xs))
  two_beginnings (x ∷ a) (y ∷ b) xs ys e shorter =
      let tail : a ++ xs ≡ b ++ ys = cc in
      let head : x ≡ y = cc in
      let t = two_beginnings a b xs ys tail shorter in
      (t.0, (λ i. sym head i ∷ t.1 i), t.2)

module _ {P R : Type 0} where
  pub calls_of-append : (pass : ℕ) (xs ys : List (Entry P R)) → calls_of pass (xs ++ ys) ≡ calls_of pass xs ++ calls_of pass ys
  calls_of-append pass [] ys = refl
  calls_of-append pass (e ∷ xs) ys =
      elim (eqb e.pass pass) as (λ b. cond b (e ∷ calls_of pass (xs ++ ys)) (calls_of pass (xs ++ ys)) ≡ cond b (e ∷ calls_of pass xs) (calls_of pass xs) ++ calls_of pass ys) [
        | true ↦ ap (λ (l : List (Entry P R)). e ∷ l) (calls_of-append pass xs ys)
        | false ↦ calls_of-append pass xs ys
      ]

  pub calls_of_own : (e : Entry P R) (xs : List (Entry P R)) (pass : ℕ) → e.pass ≡ pass → calls_of pass (e ∷ xs) ≡ e ∷ calls_of pass xs
  calls_of_own e xs pass same = ap (λ b. cond b (e ∷ calls_of pass xs) (calls_of pass xs)) (eq-eqb e.pass pass same)

  pub calls_of_other : (e : Entry P R) (xs : List (Entry P R)) (pass : ℕ) → e.pass ≢ pass → calls_of pass (e ∷ xs) ≡ calls_of pass xs
  calls_of_other e xs pass other = ap (λ b. cond b (e ∷ calls_of pass xs) (calls_of pass xs)) (ne_eqb e.pass pass other)

  pub calls_of_calls : (pass : ℕ) (xs : List (Entry P R)) → calls_of pass (calls_of pass xs) ≡ calls_of pass xs
  calls_of_calls pass [] = refl
  calls_of_calls pass (e ∷ xs) = dite (ℕ_discrete e.pass pass)
      (λ same. ap (calls_of pass) (calls_of_own e xs pass same) ∙ (calls_of_own e (calls_of pass xs) pass same ∙ (ap (λ (l : List (Entry P R)). e ∷ l) (calls_of_calls pass xs) ∙ sym (calls_of_own e xs pass same))))
      (λ other. ap (calls_of pass) (calls_of_other e xs pass other) ∙ (calls_of_calls pass xs ∙ sym (calls_of_other e xs pass other)))

  pub calls_of_calls_of_other : (pass other : ℕ) (xs : List (Entry P R)) → pass ≢ other → calls_of pass (calls_of other xs) ≡ []
  calls_of_calls_of_other pass other [] apart = refl
  calls_of_calls_of_other pass other (e ∷ xs) apart = dite (ℕ_discrete e.pass other)
      (λ same. ap (calls_of pass) (calls_of_own e xs other same) ∙ (calls_of_other e (calls_of other xs) pass (λ is. apart (sym is ∙ same)) ∙ calls_of_calls_of_other pass other xs apart))
      (λ else. ap (calls_of pass) (calls_of_other e xs other else) ∙ calls_of_calls_of_other pass other xs apart)

  -- where a pass has all its calls in what it has seen, what came later has none
  pub none_later : (pass : ℕ) (later seen own : List (Entry P R)) → calls_of pass seen ≡ own → calls_of pass (later ++ seen) ≡ own → calls_of pass later ≡ []
  none_later pass later seen own all_seen all = append_same (calls_of pass later) (calls_of pass seen) (sym (calls_of-append pass later seen) ∙ (all ∙ sym all_seen))

  -- what came later, where it has no call of any pass, is nothing
  pub nothing_later : (later : List (Entry P R)) → ((pass : ℕ) → calls_of pass later ≡ []) → later ≡ []
  nothing_later [] none = refl
  nothing_later (e ∷ later) none = let here = sym (calls_of_own e later e.pass refl) ∙ none e.pass in absurd (cc)

  pub seen_has_none : (pass : ℕ) (later seen : List (Entry P R)) → calls_of pass (later ++ seen) ≡ [] → calls_of pass seen ≡ []
  seen_has_none pass later seen none = let e = sym (calls_of-append pass later seen) ∙ none in ap (λ (l : List (Entry P R)). l ++ calls_of pass seen) (sym (append-empty (calls_of pass later) (calls_of pass seen) e)) ∙ e

module _ {S P R : Type 0} (fits : S → List (Entry P R) → P → ℕ → Type 0) (stands : S → List (Entry P R) → S → Type 0) where
  -- a beginning of a proper history is proper
  pub proper_before : (start : S) (later seen : List (Entry P R)) → IsProper fits stands start (later ++ seen) → IsProper fits stands start seen
  proper_before start [] seen h = h
  proper_before start (e ∷ later) seen h = proper_before start later seen h.2
