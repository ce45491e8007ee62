-- Which edges are listed at a place.
use Rattle.std.proofs.Common.{◌≡◌, ◌+◌, ◌<◌, ◌≤◌, ◌↔◌, ℕ, zero, suc, Bool, true, false, cond, List, [], ◌∷◌, ◌++◌, eqb, length, get_or, map, refl, sym, ◌∙◌, ap, subst, inl, inr, arith}
use Rattle.std.proofs.lemmas.Bool.{eq-eqb, eqb-true, ne_eqb}
use Rattle.std.proofs.lemmas.List.{length-map, map_push}
use Rattle.std.specs.List.{IsDistinct}
use Rattle.std.specs.Prelude.{nat_eq}
use Rattle.crgc_ids.proofs.MembersLaws.{all-from_members}
use Rattle.crgc_ids.specs.Members.{IsAmong}
use Rattle.edge_table.specs.Ends.{numbers_of}
use Rattle.edge_table.specs.Partition.{AreRising}
use Rattle.edge_table.specs.Table.{no_edge}
use Rattle.edge_table.proofs.IndexLemmas.{among-at}
use Rattle.edge_table.specs.declared.table.Edge.{Edge}

-- a number is one of a place's where the place stands there
numbers-there : (p k n : ℕ) (xs : List ℕ) → IsAmong n (numbers_of p k xs) → (i : ℕ) × (n ≡ k + i) × (i < length xs) × (get_or xs i 0 ≡ p)
numbers-there p k n [] h = absurd h
numbers-there p k n (x ∷ xs) h =
    let There : Type 0 = (i : ℕ) × (n ≡ k + i) × (i < length (x ∷ xs)) × (get_or (x ∷ xs) i 0 ≡ p) in
    let later : IsAmong n (numbers_of p (k + 1) xs) → There = λ m. (
    let rest = numbers-there p (k + 1) n xs m in
    let is = rest.1 in
    let inside = rest.2 in
    (suc rest.0, omega arith, omega arith, rest.3)
    ) in
    let Case : Bool → Type 0 = λ b. eqb p x ≡ b → IsAmong n (cond b (k ∷ numbers_of p (k + 1) xs) (numbers_of p (k + 1) xs)) → There in
    let case : Case (eqb p x) = elim (eqb p x) as Case [
      | true ↦ λ t m. elim m [
        | inl e ↦ (0, omega arith, omega arith, sym (eqb-true p x t))
        | inr rest ↦ later rest
      ]
      | false ↦ λ _ m. later m
    ] in
    case refl h

numbers-back : (p k i : ℕ) (xs : List ℕ) → i < length xs → get_or xs i 0 ≡ p → IsAmong (k + i) (numbers_of p k xs)
numbers-back p k i [] inside is = absurd (omega arith)
numbers-back p k zero (x ∷ xs) inside is =
    let first : k + 0 ≡ k = omega arith in
    rw (eq-eqb p x (sym is)) (inl first)
numbers-back p k (suc i) (x ∷ xs) inside is =
    let next : (k + 1) + i ≡ k + suc i = omega arith in
    let later : IsAmong (k + suc i) (numbers_of p (k + 1) xs) = subst (λ n. IsAmong n (numbers_of p (k + 1) xs)) next (numbers-back p (k + 1) i xs (omega arith) is) in
    elim (eqb p x) as (λ b. IsAmong (k + suc i) (cond b (k ∷ numbers_of p (k + 1) xs) (numbers_of p (k + 1) xs))) [ true ↦ inr later | false ↦ later ]

-- no number is one of a place's twice
pub numbers-distinct : (p k : ℕ) (xs : List ℕ) → IsDistinct nat_eq (numbers_of p k xs)
unfolding IsDistinct
numbers-distinct p k [] = tt
numbers-distinct p k (x ∷ xs) =
    let later = numbers-distinct p (k + 1) xs in
    let apart : (n : ℕ) → IsAmong n (numbers_of p (k + 1) xs) → nat_eq k n ≡ false = λ n h. (
    let there = numbers-there p (k + 1) n xs h in
    let is = there.1 in
    ne_eqb k n (λ e. absurd (omega arith))
    ) in
    elim (eqb p x) as (λ b. IsDistinct nat_eq (cond b (k ∷ numbers_of p (k + 1) xs) (numbers_of p (k + 1) xs))) [
      | true ↦ (all-from_members (λ n. nat_eq k n ≡ false) (numbers_of p (k + 1) xs) apart, later)
      | false ↦ later
    ]

-- they are no more than the places in the list
pub numbers-few : (p k : ℕ) (xs : List ℕ) → length (numbers_of p k xs) ≤ length xs
numbers-few p k [] = omega arith
numbers-few p k (x ∷ xs) =
    let later = numbers-few p (k + 1) xs in
    elim (eqb p x) as (λ b. length (cond b (k ∷ numbers_of p (k + 1) xs) (numbers_of p (k + 1) xs)) ≤ suc (length xs)) [
      | true ↦ omega arith
      | false ↦ omega arith
    ]

-- each is above those before it
pub numbers-rising : (p k : ℕ) (xs : List ℕ) → AreRising (numbers_of p k xs)
numbers-rising p k [] = λ i j less inside. absurd (omega arith)
numbers-rising p k (x ∷ xs) =
    let later = numbers-rising p (k + 1) xs in
    elim (eqb p x) as (λ b. AreRising (cond b (k ∷ numbers_of p (k + 1) xs) (numbers_of p (k + 1) xs))) [
      | true ↦ first later
      | false ↦ later
    ]
  where
    first : AreRising (numbers_of p (k + 1) xs) → (i j : ℕ) → i < j → j < length (k ∷ numbers_of p (k + 1) xs) → get_or (k ∷ numbers_of p (k + 1) xs) i 0 < get_or (k ∷ numbers_of p (k + 1) xs) j 0
    first later i zero less inside = absurd (omega arith)
    first later zero (suc j) less inside =
        let there = numbers-there p (k + 1) (get_or (numbers_of p (k + 1) xs) j 0) xs (among-at (numbers_of p (k + 1) xs) j 0 (omega arith)) in
        let is = there.1 in
        omega arith
    first later (suc i) (suc j) less inside = later i j (omega arith) (omega arith)

-- the end of the edge with a number
pub end_at : (end : Edge → ℕ) → end no_edge ≡ 0 → (edges : List Edge) (i : ℕ) → get_or (map end edges) i 0 ≡ end (get_or edges i no_edge)
end_at end none [] i = sym none
end_at end none (e ∷ edges) zero = refl
end_at end none (e ∷ edges) (suc i) = end_at end none edges i

-- so an edge is listed at a place where its end is the place
pub listed : (end : Edge → ℕ) → end no_edge ≡ 0 → (edges : List Edge) (place number : ℕ) → IsAmong number (numbers_of place 0 (map end edges)) ↔ ((number < length edges) × (end (get_or edges number no_edge) ≡ place))
listed end none edges place number =
    let long = length-map edges end in (
      λ h. (
          let there = numbers-there place 0 number (map end edges) h in
          let is : there.0 ≡ number = (let e = there.1 in omega arith) in
          let inside = there.2 in
          (omega arith, ap (λ n. end (get_or edges n no_edge)) (sym is) ∙ sym (end_at end none edges there.0) ∙ there.3)
          ),
      λ h. (
          let inside = h.0 in
          let from_zero : 0 + number ≡ number = omega arith in
          subst (λ n. IsAmong n (numbers_of place 0 (map end edges))) from_zero (numbers-back place 0 number (map end edges) (omega arith) (end_at end none edges number ∙ h.1))
          ),
    )

-- ---- an edge more

-- a place that comes last has the last number
numbers-push : (p k : ℕ) (xs : List ℕ) (x : ℕ) → numbers_of p k (xs ++ x ∷ []) ≡ numbers_of p k xs ++ cond (eqb p x) ((k + length xs) ∷ []) []
numbers-push p k [] x =
    let here : k ≡ k + 0 = omega arith in
    ap (λ n. cond (eqb p x) (n ∷ []) []) here
numbers-push p k (y ∷ ys) x =
    let there : (k + 1) + length ys ≡ k + suc (length ys) = omega arith in
    let later : numbers_of p (k + 1) (ys ++ x ∷ []) ≡ numbers_of p (k + 1) ys ++ cond (eqb p x) ((k + suc (length ys)) ∷ []) [] = numbers-push p (k + 1) ys x ∙ ap (λ n. numbers_of p (k + 1) ys ++ cond (eqb p x) (n ∷ []) []) there in
    elim (eqb p y) as (λ b. cond b (k ∷ numbers_of p (k + 1) (ys ++ x ∷ [])) (numbers_of p (k + 1) (ys ++ x ∷ [])) ≡ cond b (k ∷ numbers_of p (k + 1) ys) (numbers_of p (k + 1) ys) ++ cond (eqb p x) ((k + suc (length ys)) ∷ []) []) [
      | true ↦ ap (λ ns. k ∷ ns) later
      | false ↦ later
    ]

-- the lists of a longer list of edges
pub longer : (end : Edge → ℕ) (edges : List Edge) (e : Edge) (p : ℕ) → numbers_of p 0 (map end (edges ++ e ∷ [])) ≡ numbers_of p 0 (map end edges) ++ cond (eqb p (end e)) (length edges ∷ []) []
longer end edges e p =
    let long : 0 + length (map end edges) ≡ length edges = (let l = length-map edges end in omega arith) in
    ap (numbers_of p 0) (map_push end edges e) ∙ numbers-push p 0 (map end edges) (end e) ∙ ap (λ n. numbers_of p 0 (map end edges) ++ cond (eqb p (end e)) (n ∷ []) []) long
