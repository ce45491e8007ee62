-- An order in which the edges that count stand first, and what a call makes of it.
use Rattle.std.proofs.Common.{◌&&◌, ◌||◌, ◌≡◌, ◌≢◌, ◌⊎◌, ◌<◌, ◌≤◌, ◌+◌, ◌↔◌, ◌++◌, ℕ, zero, suc, Bool, true, false, List, [], ◌∷◌, Option, None, Some, get_or, length, take, refl, sym, ◌∙◌, ap, subst, inl, inr, arith, get_or-set_other, get_or-set_same, length-append}
use Rattle.std.proofs.Math.ListN.{set, length-set, get_or-append}
use Rattle.std.proofs.Math.Seq.{get_or-append_seam}
use Rattle.std.proofs.lemmas.Bool.{cases_eq, cases_lt, eq-eqb, false≢true, ne_eqb, or_right}
use Rattle.std.proofs.lemmas.List.{length-map}
use Rattle.std.proofs.lemmas.List.Folds.{list_any_more}
use Rattle.std.proofs.lemmas.Option.{none-some}
use Rattle.std.specs.List.{list_any}
use Rattle.std.specs.Prelude.{nat_eq}
use Rattle.crgc_ids.specs.Members.{IsAmong}
use Rattle.edge_table.specs.Partition.{AreRising, CountsAt, IsExchanged, IsKeptOf, IsParted, Parted, nth_end, nth_of, numbers_in}
use Rattle.edge_table.specs.declared.positive.TheConstants.{MANY}
use Rattle.edge_table.proofs.IndexLemmas.{among-at}

-- a member of a list stands at a place
pub among-place : {A : Type 0} (x : A) (xs : List A) (d : A) → IsAmong x xs → (k : ℕ) × (k < length xs) × (get_or xs k d ≡ x)
among-place x [] d h = absurd h
among-place x (y ∷ ys) d (inl e) = (0, omega arith, sym e)
among-place x (y ∷ ys) d (inr h) = (let at = among-place x ys d h in let less = at.1 in (suc at.0, omega arith, at.2))

-- the number of the edge at a place
pub nth-number : (ends : List (ℕ × ℕ)) (k : ℕ) → nth_of (numbers_in ends) k ≡ (nth_end ends k).1
nth-number [] k = refl
nth-number (x ∷ ends) zero = refl
nth-number (x ∷ ends) (suc k) = nth-number ends k

pub numbers-long : (ends : List (ℕ × ℕ)) → length (numbers_in ends) ≡ length ends
numbers-long ends = length-map ends (λ e. e.1)

-- no number stands at two places of a rising list
pub one-place : (numbers : List ℕ) → AreRising numbers → (a b : ℕ) → a < length numbers → b < length numbers → nth_of numbers a ≡ nth_of numbers b → a ≡ b
one-place numbers rising a b inside_a inside_b same = elim (cases_lt a b) [
  | inl less ↦ (let apart = rising a b less inside_b in absurd (omega arith))
  | inr more ↦ elim (cases_lt b a) [
    | inl less ↦ (let apart = rising b a less inside_a in absurd (omega arith))
    | inr fewer ↦ omega arith
  ]
]

-- in a rising list a number that is below another stands before it, and one that is not below it does not
pub place-from : (numbers : List ℕ) → AreRising numbers → (middle k : ℕ) → middle < length numbers → nth_of numbers middle < nth_of numbers k → middle + 1 ≤ k
place-from numbers rising middle k inside less = elim (cases_lt middle k) [
  | inl before ↦ omega arith
  | inr after ↦ elim (cases_eq k middle) [
    | inl same ↦ (let is = ap (nth_of numbers) same in absurd (omega arith))
    | inr other ↦ (let above = rising k middle (omega arith) inside in absurd (omega arith))
  ]
]

pub place-to : (numbers : List ℕ) → AreRising numbers → (middle k : ℕ) → k < length numbers → nth_of numbers k ≤ nth_of numbers middle → k ≤ middle
place-to numbers rising middle k inside low = elim (cases_lt middle k) [
  | inl before ↦ (let above = rising middle k before inside in absurd (omega arith))
  | inr after ↦ omega arith
]

-- a number comes last
pushed-last : (xs : List ℕ) (x n k : ℕ) → length xs ≡ n → k ≡ n → nth_of (xs ++ x ∷ []) k ≡ x
pushed-last xs x n k long last = ap (nth_of (xs ++ x ∷ [])) (last ∙ sym long) ∙ get_or-append_seam xs x [] 0

pushed-before : (xs : List ℕ) (x n k : ℕ) → length xs ≡ n → k < n → nth_of (xs ++ x ∷ []) k ≡ nth_of xs k
pushed-before xs x n k long inside = get_or-append xs (x ∷ []) 0 k (omega arith)

-- an edge more, which does not count
pub parted-push : (ends : List (ℕ × ℕ)) (counts : ℕ → Bool) (order : List (ℕ × ℕ)) (places indices : List ℕ) (front : ℕ) (end : ℕ × ℕ) (last : ℕ) → IsParted ends counts (record { order = order; places = places; indices = indices; front = front }) → counts end.1 ≡ false → last ≡ length order → IsParted (ends ++ end ∷ []) counts (record { order = order ++ end ∷ []; places = places ++ last ∷ []; indices = indices ++ last ∷ []; front = front })
parted-push ends counts order places indices front end last parted free is =
    let long = parted.long in
    let placed = parted.placed in
    let indexed = parted.indexed in
    let few = parted.few in
    let more = length-append ends (end ∷ []) in
    let more_order = length-append order (end ∷ []) in
    let more_places = length-append places (last ∷ []) in
    let more_indices = length-append indices (last ∷ []) in
    record {
      long = omega arith;
      placed = omega arith;
      indexed = omega arith;
      few = omega arith;
      within = λ k less. elim (cases_eq k (length ends)) [
        | inl at_end ↦ (let at = index-last k at_end in omega arith)
        | inr other ↦ (let inside : k < length ends = omega arith in let at = index-before k inside in let low = parted.within k inside in omega arith)
      ];
      inside = λ i less. elim (cases_eq i (length ends)) [
        | inl at_end ↦ (let at = place-last i at_end in omega arith)
        | inr other ↦ (let inside : i < length ends = omega arith in let at = place-before i inside in let low = parted.inside i inside in omega arith)
      ];
      there = λ k less. elim (cases_eq k (length ends)) [
        | inl at_end ↦ ap (nth_end (order ++ end ∷ [])) (index-last k at_end ∙ is) ∙ get_or-append_seam order end [] (0, 0)
            ∙ sym (ap (nth_end (ends ++ end ∷ [])) at_end ∙ get_or-append_seam ends end [] (0, 0))
        | inr other ↦ (let inside : k < length ends = omega arith in let low = parted.within k inside in
            ap (nth_end (order ++ end ∷ [])) (index-before k inside) ∙ get_or-append order (end ∷ []) (0, 0) (nth_of indices k) (omega arith)
            ∙ parted.there k inside ∙ sym (get_or-append ends (end ∷ []) (0, 0) k inside))
      ];
      forth = λ k less. elim (cases_eq k (length ends)) [
        | inl at_end ↦ ap (nth_of (places ++ last ∷ [])) (index-last k at_end) ∙ place-last last (is ∙ long) ∙ is ∙ long ∙ sym at_end
        | inr other ↦ (let inside : k < length ends = omega arith in
            ap (nth_of (places ++ last ∷ [])) (index-before k inside) ∙ place-before (nth_of indices k) (parted.within k inside) ∙ parted.forth k inside)
      ];
      back = λ i less. elim (cases_eq i (length ends)) [
        | inl at_end ↦ ap (nth_of (indices ++ last ∷ [])) (place-last i at_end) ∙ index-last last (is ∙ long) ∙ is ∙ long ∙ sym at_end
        | inr other ↦ (let inside : i < length ends = omega arith in
            ap (nth_of (indices ++ last ∷ [])) (place-before i inside) ∙ index-before (nth_of places i) (parted.inside i inside) ∙ parted.back i inside)
      ];
      first = λ k less. elim (cases_eq k (length ends)) [
        | inl at_end ↦ (let at = index-last k at_end in
            let here : nth_of (numbers_in (ends ++ end ∷ [])) k ≡ end.1 = nth-number (ends ++ end ∷ []) k
            ∙ ap (λ (e : ℕ × ℕ). e.1) (ap (nth_end (ends ++ end ∷ [])) at_end ∙ get_or-append_seam ends end [] (0, 0)) in
            ((λ low. absurd (omega arith)), (λ h. absurd (false≢true (sym free ∙ ap counts (sym here) ∙ h)))))
        | inr other ↦ (let inside : k < length ends = omega arith in
            let at = index-before k inside in
            let here : nth_of (numbers_in (ends ++ end ∷ [])) k ≡ nth_of (numbers_in ends) k = nth-number (ends ++ end ∷ []) k
            ∙ ap (λ (e : ℕ × ℕ). e.1) (get_or-append ends (end ∷ []) (0, 0) k inside) ∙ sym (nth-number ends k) in (
              (λ low. ap counts here ∙ (parted.first k inside).0 (omega arith)),
              (λ h. let low = (parted.first k inside).1 (ap counts (sym here) ∙ h) in omega arith),
            ))
      ];
    }
  where
    index-last : (k : ℕ) → k ≡ length ends → nth_of (indices ++ last ∷ []) k ≡ last
    index-last k at_end = pushed-last indices last (length ends) k parted.indexed at_end

    index-before : (k : ℕ) → k < length ends → nth_of (indices ++ last ∷ []) k ≡ nth_of indices k
    index-before k inside = pushed-before indices last (length ends) k parted.indexed inside

    place-last : (i : ℕ) → i ≡ length ends → nth_of (places ++ last ∷ []) i ≡ last
    place-last i at_end = pushed-last places last (length ends) i parted.placed at_end

    place-before : (i : ℕ) → i < length ends → nth_of (places ++ last ∷ []) i ≡ nth_of places i
    place-before i inside = pushed-before places last (length ends) i parted.placed inside

-- what stands at an index of the order is the edge at its place of the list
pub order-is : (ends : List (ℕ × ℕ)) (counts : ℕ → Bool) (s : Parted) → IsParted ends counts s → (i : ℕ) → i < length ends → nth_end s.order i ≡ nth_end ends (nth_of s.places i)
order-is ends counts s parted i inside = ap (nth_end s.order) (sym (parted.back i inside)) ∙ parted.there (nth_of s.places i) (parted.inside i inside)

module _ (ends : List (ℕ × ℕ)) (rising : AreRising (numbers_in ends)) (old : ℕ → Bool) (s : Parted) (parted : IsParted ends old s) where
  same-place : (a b : ℕ) → a < length ends → b < length ends → nth_of (numbers_in ends) a ≡ nth_of (numbers_in ends) b → a ≡ b
  same-place a b inside_a inside_b same = (let long = numbers-long ends in one-place (numbers_in ends) rising a b (omega arith) (omega arith) same)

  module _ (t : Parted) (i j : ℕ) (inside_i : i < length ends) (inside_j : j < length ends) (swap : IsExchanged s t i j) where
    -- where both stand afterwards, and the others
    index-j : nth_of t.indices (nth_of s.places j) ≡ i
    index-j = ap (λ is. nth_of is (nth_of s.places j)) swap.indices
        ∙ get_or-set_same (set s.indices (nth_of s.places i) j) (nth_of s.places j) i 0 (let long = length-set s.indices (nth_of s.places i) j in let indexed = parted.indexed in let low = parted.inside j inside_j in omega arith)

    index-i : nth_of t.indices (nth_of s.places i) ≡ j
    index-i = elim (cases_eq (nth_of s.places i) (nth_of s.places j)) [
      | inl same ↦ ap (nth_of t.indices) same ∙ index-j ∙ sym (parted.back i inside_i) ∙ ap (nth_of s.indices) same ∙ parted.back j inside_j
      | inr apart ↦ ap (λ is. nth_of is (nth_of s.places i)) swap.indices
          ∙ get_or-set_other (set s.indices (nth_of s.places i) j) (nth_of s.places j) (nth_of s.places i) i 0 apart
          ∙ get_or-set_same s.indices (nth_of s.places i) j 0 (let indexed = parted.indexed in let low = parted.inside i inside_i in omega arith)
    ]

    index-rest : (r : ℕ) → r ≢ nth_of s.places i → r ≢ nth_of s.places j → nth_of t.indices r ≡ nth_of s.indices r
    index-rest r not_i not_j = ap (λ is. nth_of is r) swap.indices
        ∙ get_or-set_other (set s.indices (nth_of s.places i) j) (nth_of s.places j) r i 0 not_j
        ∙ get_or-set_other s.indices (nth_of s.places i) r j 0 not_i

    -- an edge of the list stood at the one index, at the other, or elsewhere
    abbrev Which : ℕ → Type 0
    Which r =
        ((r ≡ nth_of s.places i) × (nth_of t.indices r ≡ j))
        ⊎ (((r ≢ nth_of s.places i) × (r ≡ nth_of s.places j) × (nth_of t.indices r ≡ i) × (i ≢ j))
        ⊎ ((r ≢ nth_of s.places i) × (r ≢ nth_of s.places j) × (nth_of t.indices r ≡ nth_of s.indices r) × (nth_of s.indices r ≢ i) × (nth_of s.indices r ≢ j)))

    which : (r : ℕ) → r < length ends → Which r
    which r inside = elim (cases_eq r (nth_of s.places i)) [
      | inl at_i ↦ inl (at_i, ap (nth_of t.indices) at_i ∙ index-i)
      | inr not_i ↦ elim (cases_eq r (nth_of s.places j)) [
        | inl at_j ↦ inr (inl (not_i, at_j, ap (nth_of t.indices) at_j ∙ index-j, (λ e. not_i (at_j ∙ ap (nth_of s.places) (sym e)))))
        | inr not_j ↦ inr (inr (
          not_i,
          not_j,
          index-rest r not_i not_j,
          (λ e. not_i (sym (parted.forth r inside) ∙ ap (nth_of s.places) e)),
          (λ e. not_j (sym (parted.forth r inside) ∙ ap (nth_of s.places) e)),
        ))
      ]
    ]

    -- the order has each edge at its index, and those that count now stand first
    exchanged : (new : ℕ → Bool) (front : ℕ) → front ≤ length ends → ((r : ℕ) → r < length ends → (nth_of t.indices r < front) ↔ (new (nth_of (numbers_in ends) r) ≡ true)) → IsParted ends new (record { order = t.order; places = t.places; indices = t.indices; front = front })
    exchanged new front few first = record {
      long = ap length (swap.order.3 (0, 0)) ∙ length-set (set s.order i (nth_end s.order j)) j (nth_end s.order i) ∙ length-set s.order i (nth_end s.order j) ∙ parted.long;
      placed = ap length (swap.places.3 0) ∙ length-set (set s.places i (nth_of s.places j)) j (nth_of s.places i) ∙ length-set s.places i (nth_of s.places j) ∙ parted.placed;
      indexed = ap length swap.indices ∙ length-set (set s.indices (nth_of s.places i) j) (nth_of s.places j) i ∙ length-set s.indices (nth_of s.places i) j ∙ parted.indexed;
      few = few;
      within = λ r inside. elim (which r inside) [
        | inl from_i ↦ (let at = from_i.1 in omega arith)
        | inr (inl from_j) ↦ (let at = from_j.2 in omega arith)
        | inr (inr rest) ↦ (let at = rest.2 in let low = parted.within r inside in omega arith)
      ];
      inside = λ q inside. elim (cases_eq q i) [
        | inl at_i ↦ (let at = ap (nth_of t.places) at_i ∙ swap.places.0 0 in let low = parted.inside j inside_j in omega arith)
        | inr not_i ↦ elim (cases_eq q j) [
          | inl at_j ↦ (let at = ap (nth_of t.places) at_j ∙ swap.places.1 0 in let low = parted.inside i inside_i in omega arith)
          | inr not_j ↦ (let at = swap.places.2 q 0 not_i not_j in let low = parted.inside q inside in omega arith)
        ]
      ];
      there = λ r inside. elim (which r inside) [
        | inl from_i ↦ ap (nth_end t.order) from_i.1 ∙ swap.order.1 (0, 0) ∙ order-is ends old s parted i inside_i ∙ ap (nth_end ends) (sym from_i.0)
        | inr (inl from_j) ↦ ap (nth_end t.order) from_j.2 ∙ swap.order.0 (0, 0) ∙ order-is ends old s parted j inside_j ∙ ap (nth_end ends) (sym from_j.1)
        | inr (inr rest) ↦ ap (nth_end t.order) rest.2 ∙ swap.order.2 (nth_of s.indices r) (0, 0) rest.3 rest.4 ∙ parted.there r inside
      ];
      forth = λ r inside. elim (which r inside) [
        | inl from_i ↦ ap (nth_of t.places) from_i.1 ∙ swap.places.1 0 ∙ sym from_i.0
        | inr (inl from_j) ↦ ap (nth_of t.places) from_j.2 ∙ swap.places.0 0 ∙ sym from_j.1
        | inr (inr rest) ↦ ap (nth_of t.places) rest.2 ∙ swap.places.2 (nth_of s.indices r) 0 rest.3 rest.4 ∙ parted.forth r inside
      ];
      back = λ q inside. elim (cases_eq q i) [
        | inl at_i ↦ ap (nth_of t.indices) (ap (nth_of t.places) at_i ∙ swap.places.0 0) ∙ index-j ∙ sym at_i
        | inr not_i ↦ elim (cases_eq q j) [
          | inl at_j ↦ ap (nth_of t.indices) (ap (nth_of t.places) at_j ∙ swap.places.1 0) ∙ index-i ∙ sym at_j
          | inr not_j ↦ ap (nth_of t.indices) (swap.places.2 q 0 not_i not_j)
              ∙ index-rest (nth_of s.places q)
              (λ e. not_i (sym (parted.back q inside) ∙ ap (nth_of s.indices) e ∙ parted.back i inside_i))
              (λ e. not_j (sym (parted.back q inside) ∙ ap (nth_of s.indices) e ∙ parted.back j inside_j))
              ∙ parted.back q inside
        ]
      ];
      first = first;
    }

    module _ (k : ℕ) (inside_k : k < length ends) (at_k : i ≡ nth_of s.indices k) where
      -- the edge at the place stood at the first of the two indices
      is_k : nth_of s.places i ≡ k
      is_k = ap (nth_of s.places) at_k ∙ parted.forth k inside_k

      -- another counts as before
      others : (new : ℕ → Bool) {v : Bool} → CountsAt old new (nth_of (numbers_in ends) k) v → (r : ℕ) → r < length ends → r ≢ nth_of s.places i → new (nth_of (numbers_in ends) r) ≡ old (nth_of (numbers_in ends) r)
      others new counts r inside not_i = counts.others (nth_of (numbers_in ends) r) (λ e. not_i (same-place r k inside inside_k e ∙ sym is_k))

      -- the edge counts now: it comes last of those that do
      pub raised : (new : ℕ → Bool) → j ≡ s.front → s.front ≤ i → CountsAt old new (nth_of (numbers_in ends) k) true → IsParted ends new (record { order = t.order; places = t.places; indices = t.indices; front = s.front + 1 })
      raised new at_front high counts = exchanged new (s.front + 1) (omega arith) (λ r inside. elim (which r inside) [
        | inl from_i ↦ (let at = from_i.1 in ((λ low. ap (λ n. new (nth_of (numbers_in ends) n)) (from_i.0 ∙ is_k) ∙ counts.here), (λ h. omega arith)))
        | inr (inl from_j) ↦ (let at = from_j.2 in let apart = from_j.3 in
            let was = ap (nth_of s.indices) from_j.1 ∙ parted.back j inside_j in (
              (λ low. absurd (apart (omega arith))),
              (λ h. let low = (parted.first r inside).1 (sym (others new counts r inside from_j.0) ∙ h) in absurd (omega arith)),
            ))
        | inr (inr rest) ↦ (let at = rest.2 in let apart = rest.4 in (
          (λ low. others new counts r inside rest.0 ∙ (parted.first r inside).0 (below (nth_of s.indices r) (omega arith) apart)),
          (λ h. let low = (parted.first r inside).1 (sym (others new counts r inside rest.0) ∙ h) in omega arith),
        ))
      ])
        where
          below : (x : ℕ) → x ≤ s.front → x ≢ j → x < s.front
          below x low apart = elim (cases_eq x s.front) [ inl e ↦ absurd (apart (e ∙ sym at_front)) | inr _ ↦ omega arith ]

      -- it does not: it comes first of those that do not
      pub lowered : (new : ℕ → Bool) → j + 1 ≡ s.front → i < s.front → CountsAt old new (nth_of (numbers_in ends) k) false → IsParted ends new (record { order = t.order; places = t.places; indices = t.indices; front = j })
      lowered new at_front low counts = exchanged new j (omega arith) (λ r inside. elim (which r inside) [
        | inl from_i ↦ (let at = from_i.1 in ((λ less. absurd (omega arith)), (λ h. absurd (false≢true (sym counts.here ∙ ap (λ n. new (nth_of (numbers_in ends) n)) (sym (from_i.0 ∙ is_k)) ∙ h)))))
        | inr (inl from_j) ↦ (let at = from_j.2 in let apart = from_j.3 in
            let was = ap (nth_of s.indices) from_j.1 ∙ parted.back j inside_j in (
              (λ less. others new counts r inside from_j.0 ∙ (parted.first r inside).0 (omega arith)),
              (λ h. below (nth_of t.indices r) (omega arith) (λ e. apart (sym at ∙ e))),
            ))
        | inr (inr rest) ↦ (let at = rest.2 in let apart = rest.4 in (
          (λ less. others new counts r inside rest.0 ∙ (parted.first r inside).0 (omega arith)),
          (λ h. let before = (parted.first r inside).1 (sym (others new counts r inside rest.0) ∙ h) in below (nth_of t.indices r) (omega arith) (λ e. apart (sym at ∙ e))),
        ))
      ])
        where
          below : (x : ℕ) → x ≤ j → x ≢ j → x < j
          below x less apart = elim (cases_eq x j) [ inl e ↦ absurd (apart e) | inr _ ↦ omega arith ]

  -- an edge that counts as it did
  pub kept : (new : ℕ → Bool) (k : ℕ) (counts : Bool) → k < length ends → ((counts ≡ true) ↔ (nth_of s.indices k < s.front)) → CountsAt old new (nth_of (numbers_in ends) k) counts → IsParted ends new s
  kept new k counts inside same at = record {
    long = parted.long;
    placed = parted.placed;
    indexed = parted.indexed;
    few = parted.few;
    within = parted.within;
    inside = parted.inside;
    there = parted.there;
    forth = parted.forth;
    back = parted.back;
    first = λ r inside_r. elim (cases_eq r k) [
      | inl is ↦ (let here : new (nth_of (numbers_in ends) r) ≡ counts = ap (λ n. new (nth_of (numbers_in ends) n)) is ∙ at.here in
          ((λ low. here ∙ same.1 (subst (λ n. nth_of s.indices n < s.front) is low)), (λ h. subst (λ n. nth_of s.indices n < s.front) (sym is) (same.0 (sym here ∙ h)))))
      | inr other ↦ (let before = at.others (nth_of (numbers_in ends) r) (λ e. other (same-place r k inside_r inside e)) in
          ((λ low. before ∙ (parted.first r inside_r).0 low), (λ h. (parted.first r inside_r).1 (sym before ∙ h))))
    ];
  }

-- tests that agree on the numbers
pub parted-alike : (ends : List (ℕ × ℕ)) (old new : ℕ → Bool) (s : Parted) → ((n : ℕ) → IsAmong n (numbers_in ends) → new n ≡ old n) → IsParted ends old s → IsParted ends new s
parted-alike ends old new s alike parted = record {
  long = parted.long;
  placed = parted.placed;
  indexed = parted.indexed;
  few = parted.few;
  within = parted.within;
  inside = parted.inside;
  there = parted.there;
  forth = parted.forth;
  back = parted.back;
  first = λ k inside. (let long = numbers-long ends in
      let same = alike (nth_of (numbers_in ends) k) (among-at (numbers_in ends) k 0 (omega arith)) in
      ((λ low. same ∙ (parted.first k inside).0 low), (λ h. (parted.first k inside).1 (sym same ∙ h))));
}

pub kept-alike : (ends : List (ℕ × ℕ)) (old new : ℕ → Bool) (kept : Option Parted) → ((n : ℕ) → IsAmong n (numbers_in ends) → new n ≡ old n) → IsKeptOf ends old kept → IsKeptOf ends new kept
kept-alike ends old new kept alike is = λ s there. (let was = is s there in (was.0, parted-alike ends old new s alike was.1))

-- nothing is kept
pub kept-none : (ends : List (ℕ × ℕ)) (counts : ℕ → Bool) (kept : Option Parted) → kept ≡ None → IsKeptOf ends counts kept
kept-none ends counts kept none = λ s there. absurd (none-some s (sym none ∙ there))

-- of a short list nothing is
pub kept-short : (ends : List (ℕ × ℕ)) (counts : ℕ → Bool) (kept : Option Parted) → length ends ≤ MANY → IsKeptOf ends counts kept → kept ≡ None
kept-short ends counts None short is = refl
kept-short ends counts (Some s) short is = (let long = (is s refl).0 in absurd (omega arith))

-- ---- numbers that are looked at in turn

or-false : (b : Bool) → (b || false) ≡ b
or-false true = refl
or-false false = refl

and-true : (b : Bool) → (b && true) ≡ b
and-true true = refl
and-true false = refl

module _ (positive : ℕ → Bool) (numbers : List ℕ) where
  -- whether the number is positive, and one of the first so many
  abbrev pub so_far : ℕ → ℕ → Bool
  so_far i n = positive n && list_any (nat_eq n) (take i numbers)

  more : (i n : ℕ) → i < length numbers → so_far (i + 1) n ≡ (positive n && (list_any (nat_eq n) (take i numbers) || nat_eq n (nth_of numbers i)))
  more i n inside = ap (λ b. positive n && b) (list_any_more (nat_eq n) numbers i 0 inside)

  -- one more
  pub so-far-more : (i : ℕ) → i < length numbers → CountsAt (so_far i) (so_far (i + 1)) (nth_of numbers i) (positive (nth_of numbers i))
  so-far-more i inside = record {
    here = more i (nth_of numbers i) inside
        ∙ ap (λ b. positive (nth_of numbers i) && b) (or_right (list_any (nat_eq (nth_of numbers i)) (take i numbers)) (nat_eq (nth_of numbers i) (nth_of numbers i)) (eq-eqb (nth_of numbers i) (nth_of numbers i) refl))
        ∙ and-true (positive (nth_of numbers i));
    others = λ n apart. more i n inside ∙ ap (λ b. positive n && (list_any (nat_eq n) (take i numbers) || b)) (ne_eqb n (nth_of numbers i) apart)
        ∙ ap (λ b. positive n && b) (or-false (list_any (nat_eq n) (take i numbers)));
  }
