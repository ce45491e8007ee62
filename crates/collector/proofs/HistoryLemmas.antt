-- A collector in a history: what it folded is what is folded at its node, and it goes with each event.
use Rattle.std.proofs.Common.{◌≡◌, ◌≢◌, ◌==◌, ◌&&◌, ◌<◌, ◌≤◌, ◌||◌, ℕ, zero, suc, Bool, true, false, cond, List, [], ◌∷◌, ◌++◌, length, ltb, take, refl, sym, ap, ◌∙◌, inl, inr, arith}
use Rattle.std.proofs.lemmas.Bool.{cases_eq, ne_eqb}
use Rattle.std.proofs.lemmas.Bool.Decides.{nat_tests}
use Rattle.std.specs.Option.{is_some}
use Rattle.history_model.specs.declared.events.Event.{Event}
use Rattle.history_model.specs.declared.events.Event.TheVariants.{Publish, Remove, Window}
use Rattle.history_model.specs.Cluster.{Cluster}
use Rattle.history_model.specs.Folds.{cut_at, folded, run_of, was_handed}
use Rattle.history_model.specs.Legal.{IsLegal}
use Rattle.history_model.specs.Streams.{Notice, delta, final_of, queue, stream, window, window_of}
use Rattle.history_model.proofs.Basics.{eqb-refl, legal-kept}
use Rattle.gossip_core.specs.Gossip.{kept_at}
use Rattle.collector.specs.Collected.{Collected, IsCollectorAt, cut_of, folded_of}
use Rattle.collector.proofs.NumberLemmas.{below-of, is-below, is-from, or-left}

-- ---- runs

run-all : (test : ℕ → Bool) (n : ℕ) → ((k : ℕ) → k < n → test k ≡ true) → run_of test n ≡ n
run-all test zero all = refl
run-all test (suc n) all =
    let before = run-all test n (λ k less. all k (omega arith)) in
    (λ i. cond ((before i == n) && all n (omega arith) i) (suc n) (before i)) ∙ ap (λ t. cond (t && true) (suc n) n) (eqb-refl n)

-- the run ends before the first number that does not pass
pub run-ends : (test : ℕ → Bool) (c n : ℕ) → c ≤ n → ((k : ℕ) → k < c → test k ≡ true) → (c < n → test c ≡ false) → run_of test n ≡ c
run-ends test c zero within all ends = omega arith
run-ends test c (suc n) within all ends = elim (cases_eq c (suc n)) [
  | inl same ↦ run-all test (suc n) (λ k less. all k (omega arith)) ∙ sym same
  | inr apart ↦ (
      let before = run-ends test c n (omega arith) all (λ less. ends (omega arith)) in
      elim (cases_eq c n) [
        | inl same ↦ (
            let stops : test n ≡ false = ap test (sym same) ∙ ends (omega arith) in
            (λ i. cond ((before i == n) && stops i) (suc n) (before i)) ∙ and-none (c == n) (suc n) c
            )
        | inr differ ↦ (λ i. cond ((before i == n) && test n) (suc n) (before i)) ∙ ap (λ t. cond (t && test n) (suc n) c) (ne_eqb c n differ)
      ]
      )
]
  where
    and-none : (t : Bool) (x y : ℕ) → cond (t && false) x y ≡ y
    and-none true x y = refl
    and-none false x y = refl

-- ---- streams of a legal history

one-more : (cl : Cluster) (o : ℕ) (xs : List Notice) (n : ℕ) (x : Notice) → xs ≡ [] → ltb n cl.nodes ≡ true → cl.nodes ≤ o → cond (n == o) (xs ++ x ∷ []) xs ≡ []
one-more cl o xs n x none inside out =
    let apart : n ≢ o = (let less = below-of n cl.nodes inside in λ same. absurd (omega arith)) in
    ap (λ t. cond t (xs ++ x ∷ []) xs) (ne_eqb n o apart) ∙ none

-- a node that the cluster does not have publishes nothing
pub stream-outside : (cl : Cluster) (o : ℕ) (h : List Event) → IsLegal cl h → cl.nodes ≤ o → stream cl o h ≡ []
stream-outside cl o [] legal out = refl
stream-outside cl o (Publish n ∷ p) legal out =
    one-more cl o (stream cl o p) n (delta (queue cl o p)) (stream-outside cl o p legal.1 out) (legal-kept cl (Publish n) p legal).0 out
stream-outside cl o (Window d s ∷ p) legal out =
    one-more cl o (stream cl o p) d (window_of s (window s d p)) (stream-outside cl o p legal.1 out) (legal-kept cl (Window d s) p legal).0 out
stream-outside cl o (Remove d s ∷ p) legal out =
    one-more cl o (stream cl o p) d (final_of s (window s d p)) (stream-outside cl o p legal.1 out) (legal-kept cl (Remove d s) p legal).0 out
stream-outside cl o (e ∷ p) legal out = stream-outside cl o p legal.1 out

-- ---- what is folded

take-none : (j k : ℕ) → take {A = Notice} j [] ≡ take {A = Notice} k []
take-none zero zero = refl
take-none zero (suc k) = refl
take-none (suc j) zero = refl
take-none (suc j) (suc k) = refl

module _ (cl : Cluster) (h : List Event) (m : ℕ) (c : Collected) (at : IsCollectorAt cl h m c) where
  pub cut-folded : (o : ℕ) → o < cl.nodes → cut_of c o ≡ cut_at cl m h o
  cut-folded o inside =
      sym (run-ends (λ k. was_handed m o k h) (cut_of c o) (length (stream cl o h)) (at.fed.long o)
      (λ k less. sym (at.handed o k inside) ∙ or-left (ltb k (cut_of c o)) (is_some (kept_at c.order o k)) (is-below k (cut_of c o) less))
      (λ _. sym (at.handed o (cut_of c o) inside) ∙ (λ i. is-from (cut_of c o) (cut_of c o) (omega arith) i || is_some (at.settled o i))))

  pub folded-at : IsLegal cl h → folded_of c (λ o. stream cl o h) ≡ folded cl m h
  folded-at legal = λ i o. each o i
    where
      each : (o : ℕ) → folded_of c (λ o. stream cl o h) o ≡ folded cl m h o
      each o =
          let Goal : Bool → Type 0 = λ v. ltb o cl.nodes ≡ v → take (cut_of c o) (stream cl o h) ≡ take (cut_at cl m h o) (stream cl o h) in
          let goal : Goal (ltb o cl.nodes) = elim (ltb o cl.nodes) as Goal [
            | true ↦ λ less. ap (λ k. take k (stream cl o h)) (cut-folded o (below-of o cl.nodes less))
            | false ↦ λ more. (
                let none = stream-outside cl o h legal (grind (arith, nat_tests)) in
                ap (take (cut_of c o)) none ∙ take-none (cut_of c o) (cut_at cl m h o) ∙ ap (take (cut_at cl m h o)) (sym none)
                )
          ] in
          goal refl
