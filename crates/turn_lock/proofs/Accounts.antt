-- What follows where a history is made of some calls, each once: however calls are weighed, it weighs what they do.
use Rattle.std.proofs.Common.{◌≡◌, ◌≢◌, ℕ, ◌+◌, cond, eqb, eq-eqb, ne_eqb, List, [], ◌∷◌, ◌++◌, refl, sym, ap, ◌∙◌, arith}
use mathlib.Core.Logic.{dite}
use native.Mathlib.Decide.{ℕ_discrete}
use Rattle.turn_lock.specs.declared.object.Entry.{Entry}
use Rattle.turn_lock.specs.History.{calls_of, IsMadeOf}
use Rattle.turn_lock.specs.Rule.{total}
use Rattle.turn_lock.proofs.Calls.{calls_of_own, calls_of_other, nothing_later}

pub total-append : {A : Type 0} (f : A → ℕ) (xs ys : List A) → total f (xs ++ ys) ≡ total f xs + total f ys
total-append f [] ys = omega arith
total-append f (x ∷ xs) ys = let e = total-append f xs ys in omega arith

module _ {P R : Type 0} where
  -- the calls but for the newest of this pass
  abbrev without : ℕ → List (Entry P R) → List (Entry P R)
  without pass [] = []
  without pass (e ∷ calls) = cond (eqb e.pass pass) calls (e ∷ without pass calls)

  without_own : (e : Entry P R) (calls : List (Entry P R)) (pass : ℕ) → e.pass ≡ pass → without pass (e ∷ calls) ≡ calls
  without_own e calls pass same = ap (λ b. cond b calls (e ∷ without pass calls)) (eq-eqb e.pass pass same)

  without_other : (e : Entry P R) (calls : List (Entry P R)) (pass : ℕ) → e.pass ≢ pass → without pass (e ∷ calls) ≡ e ∷ without pass calls
  without_other e calls pass other = ap (λ b. cond b calls (e ∷ without pass calls)) (ne_eqb e.pass pass other)

  -- where e is the newest call of its pass: the others weigh the rest, and are the rest
  record Drawn (f : Entry P R → ℕ) (pass : ℕ) (e : Entry P R) (rest calls : List (Entry P R)) : Type 0 where
    weight : total f calls ≡ f e + total f (without pass calls)
    own : calls_of pass (without pass calls) ≡ rest
    others : (q : ℕ) → pass ≢ q → calls_of q (without pass calls) ≡ calls_of q calls

  drawn : (f : Entry P R → ℕ) (pass : ℕ) (e : Entry P R) (rest calls : List (Entry P R)) → calls_of pass calls ≡ e ∷ rest → Drawn f pass e rest calls
  drawn f pass e rest [] is = absurd (cc)
  drawn f pass e rest (x ∷ calls) is = dite (ℕ_discrete x.pass pass)
      (λ same.
      let left = without_own x calls pass same in
      let here = sym (calls_of_own x calls pass same) ∙ is in
      let head : x ≡ e = cc in
      let tail : calls_of pass calls ≡ rest = cc in record {
        weight = λ i. f (head i) + total f (sym left i);
        own = ap (calls_of pass) left ∙ tail;
        others = λ q apart. ap (calls_of q) left ∙ sym (calls_of_other x calls q (λ e. apart (sym same ∙ e)));
      })
      (λ other.
      let left = without_other x calls pass other in
      let d = drawn f pass e rest calls (sym (calls_of_other x calls pass other) ∙ is) in
      let weight = d.weight in record {
        weight = (let t : total f (without pass (x ∷ calls)) ≡ f x + total f (without pass calls) = ap (total f) left in omega arith);
        own = ap (calls_of pass) left ∙ (calls_of_other x (without pass calls) pass other ∙ d.own);
        others = λ q apart. ap (calls_of q) left ∙ dite (ℕ_discrete x.pass q)
            (λ its. calls_of_own x (without pass calls) q its ∙ (ap (λ (l : List (Entry P R)). x ∷ l) (d.others q apart) ∙ sym (calls_of_own x calls q its)))
            (λ not_its. calls_of_other x (without pass calls) q not_its ∙ (d.others q apart ∙ sym (calls_of_other x calls q not_its)));
      })

  pub total_of_made : (f : Entry P R → ℕ) (calls history : List (Entry P R)) → IsMadeOf calls history → total f history ≡ total f calls
  total_of_made f calls [] made = sym (ap (total f) (nothing_later calls (λ pass. sym (made pass))))
  total_of_made f calls (e ∷ history) made =
      let d = drawn f e.pass e (calls_of e.pass history) calls (sym (made e.pass) ∙ calls_of_own e history e.pass refl) in
      let rest = total_of_made f (without e.pass calls) history (λ q. dite (ℕ_discrete e.pass q)
      (λ same. ap (λ (n : ℕ). calls_of n history) (sym same) ∙ (sym d.own ∙ ap (λ (n : ℕ). calls_of n (without e.pass calls)) same))
      (λ other. sym (calls_of_other e history q other) ∙ (made q ∙ sym (d.others q other)))) in
      let weight = d.weight in
      omega arith
