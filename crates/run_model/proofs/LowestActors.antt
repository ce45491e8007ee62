-- The lowest actor that passes a test is the first one among all actors.
use Rattle.std.proofs.Common.{◌≡◌, ◌+◌, ◌≤◌, ◌<◌, ℕ, zero, suc, Bool, true, false, List, map, flat_map, Option, Some, None, refl, sym, ◌∙◌, ap, subst, arith, inl, inr}
use Rattle.std.specs.List.{find, range_with_len}
use Rattle.std.specs.Option.{option_or}
use Rattle.std.proofs.lemmas.Bool.{cases_eq, ltb-true}
use Rattle.std.proofs.lemmas.List.Folds.{find-append}
use Rattle.crgc_ids.specs.Actor.{Actor, IsActorBelow}
use Rattle.history_model.specs.declared.events.Event.{Event}
use Rattle.history_model.specs.Cluster.{births, is_born}
use Rattle.history_model.specs.Live.{actors_of}
use Rattle.script_reader.specs.Valid.{Scripted}
use Rattle.run_model.specs.Planned.{actors}

abbrev at : ℕ → ℕ → Actor
at n i = record { node = n; serial = i }

module _ (p : Actor → Bool) where
  -- among the actors of one node
  find-on : (n k len i : ℕ) → k ≤ i → i < k + len → p (at n i) ≡ true → ((j : ℕ) → j < i → p (at n j) ≡ false) → find p (map (at n) (range_with_len k len)) ≡ Some (at n i)
  find-on n k zero i low high here before = absurd (omega (arith, low, high))
  find-on n k (suc len) i low high here before = elim (cases_eq k i) [
    | inl same ↦ rw (subst (λ j. p (at n j) ≡ true) (sym same) here) (ap (λ j. Some (at n j)) same)
    | inr apart ↦ rw (before k (omega (arith, low, apart))) (find-on n (k + 1) len i (omega (arith, low, apart)) (omega (arith, high)) here before)
  ]

  find-none_on : (n k len : ℕ) → ((j : ℕ) → j < k + len → p (at n j) ≡ false) → find p (map (at n) (range_with_len k len)) ≡ None
  find-none_on n k zero none = refl
  find-none_on n k (suc len) none = rw (none k (omega arith)) (find-none_on n (k + 1) len (λ j below. none j (omega (arith, below))))

  -- over several nodes
  find-over : (g : ℕ → List Actor) (found : Option Actor) (k len n : ℕ) → k ≤ n → n < k + len → find p (g n) ≡ found → (found ≡ None → ⊥) → ((j : ℕ) → j < n → find p (g j) ≡ None) → find p (flat_map g (range_with_len k len)) ≡ found
  find-over g found k zero n low high here some before = absurd (omega (arith, low, high))
  find-over g found k (suc len) n low high here some before = find-append p (g k) (flat_map g (range_with_len (k + 1) len)) ∙ elim (cases_eq k n) [
    | inl same ↦ subst (λ o. option_or o (find p (flat_map g (range_with_len (k + 1) len))) ≡ found) (sym (ap (λ j. find p (g j)) same ∙ here)) (first found some)
    | inr apart ↦ rw (before k (omega (arith, low, apart))) (find-over g found (k + 1) len n (omega (arith, low, apart)) (omega (arith, high)) here some before)
  ]
    where
      first : (o : Option Actor) → (o ≡ None → ⊥) → option_or o (find p (flat_map g (range_with_len (k + 1) len))) ≡ o
      first None some = absurd (some refl)
      first (Some a) some = refl

  find-none_over : (g : ℕ → List Actor) (k len : ℕ) → ((j : ℕ) → j < k + len → find p (g j) ≡ None) → find p (flat_map g (range_with_len k len)) ≡ None
  find-none_over g k zero none = refl
  find-none_over g k (suc len) none = find-append p (g k) (flat_map g (range_with_len (k + 1) len)) ∙ rw (none k (omega arith)) (find-none_over g (k + 1) len (λ j below. none j (omega (arith, below))))

  -- the lowest of all
  pub find-lowest : (s : Scripted) (h : List Event) (a : Actor) → a.node < s.nodes → is_born a h ≡ true → p a ≡ true → ((b : Actor) → IsActorBelow b a → p b ≡ false) → find p (actors s h) ≡ Some a
  find-lowest s h a node born here before =
      find-over (λ n. actors_of n h) (Some a) 0 s.nodes a.node (omega arith) (omega (arith, node))
      (find-on a.node 0 (births a.node h) a.serial (omega arith) (let below = ltb-true a.serial (births a.node h) born in omega (arith, below)) here (λ j below. before (at a.node j) (inr (refl, below))))
      (λ none. cc)
      (λ n below. find-none_on n 0 (births n h) (λ j _. before (at n j) (inl below)))

  -- nobody at all
  pub find-nobody : (s : Scripted) (h : List Event) → ((b : Actor) → b.node < s.nodes → p b ≡ false) → find p (actors s h) ≡ None
  find-nobody s h none = find-none_over (λ n. actors_of n h) 0 s.nodes (λ n below. find-none_on n 0 (births n h) (λ j _. none (at n j) (omega (arith, below))))
