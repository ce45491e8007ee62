-- Names that are sorted, each kept once, are their table.
use Rattle.std.proofs.Common.{◌≡◌, ◌<◌, ◌≤◌, ◌+◌, ℕ, zero, suc, Bool, true, false, cond, List, [], ◌∷◌, length, get_or, Some, refl, sym, ap, subst, ◌∙◌, inl, inr, arith}
use Rattle.std.specs.List.{AllByRecursion, Contains, HoldsAt, dedup, dedup_from, slice_get}
use Rattle.std.specs.List.Sorted.{IsNonDecreasingBy, IsPartitionPoint, IsPermutation, IsSorted, IsStrictlySortedBy}
use Rattle.std.specs.Ordering.{eq_by_cmp, is_eq, is_lt, ordering_index, MatchOrdering}
use Rattle.std.specs.declared.cmp.Ordering.TheVariants.{Less, Equal, Greater}
use Rattle.std.proofs.lemmas.List.Kept.{IsStrictlySortedBy-dedup}
use Rattle.std.proofs.lemmas.List.Sorted.{Contains-permutation, IsPermutation-sym, searchable_from_sorted}
use Rattle.std.proofs.lemmas.Option.{slice_get-get_or}
use Rattle.crgc_ids.specs.Actor.{Actor, IsActorBelow, actor_cmp, is_actor_below, same_actor}
use Rattle.crgc_ids.specs.Members.{IsAmong}
use Rattle.crgc_ids.proofs.ActorLaws.{IsActorBelow-apart, actor_cases, is_actor_below-decides, same_actor-decides, same_actor-apart}
use Rattle.wire_grammar.specs.Named.{index_of, table_of}
use Rattle.wire_grammar.proofs.Tables.{IsTable, index_of-slice_get, table-same, table_of-has, table_of-only, table_of-rises}
use Rattle.crgc_ids.proofs.ActorOrder.{actor_cmp-above, actor_cmp-below, actor_cmp-same, actor_cmp-tells, actor_cmp-total}

-- what the answer says of the order
below_from_cmp : (a b : Actor) → actor_cmp a b ≡ Less → IsActorBelow a b
below_from_cmp a b e = subst (λ o. MatchOrdering o (IsActorBelow a b) (a ≡ b) (IsActorBelow b a)) e (actor_cmp-tells a b)

ties : (a b : Actor) → same_actor a b ≡ eq_by_cmp actor_cmp a b
ties a b =
    elim (actor_cases a b) [
      | inl h ↦ same_actor-apart a b (λ e. IsActorBelow-apart a (subst (IsActorBelow a) (sym e) h)) ∙ sym (ap is_eq (actor_cmp-below a b h))
      | inr other ↦ elim other [
        | inl h ↦ (same_actor-decides a b).1 h ∙ sym (ap is_eq (actor_cmp-same a b h))
        | inr h ↦ same_actor-apart a b (λ e. IsActorBelow-apart a (subst (λ c. IsActorBelow c a) (sym e) h)) ∙ sym (ap is_eq (actor_cmp-above a b h))
      ]
    ]

all_below : (x : Actor) (xs : List Actor) → AllByRecursion (λ y. actor_cmp x y ≡ Less) xs → AllByRecursion (IsActorBelow x) xs
all_below x [] h = tt
all_below x (y ∷ ys) h = (below_from_cmp x y h.0, all_below x ys h.1)

table-from_sorted : (xs : List Actor) → IsStrictlySortedBy actor_cmp xs → IsTable xs
unfolding IsStrictlySortedBy
table-from_sorted [] h = tt
table-from_sorted (x ∷ xs) h = (all_below x xs h.0, table-from_sorted xs h.1)

-- ---- members, by index and by cases

among-from_contains : (xs : List Actor) (x : Actor) (k : ℕ) → k < length xs → get_or xs k x ≡ x → IsAmong x xs
among-from_contains [] x k h e = absurd (omega arith)
among-from_contains (y ∷ ys) x zero h e = inl (sym e)
among-from_contains (y ∷ ys) x (suc k) h e = inr (among-from_contains ys x k (omega arith) e)

contains-from_among : (xs : List Actor) (x : Actor) → IsAmong x xs → Contains xs x
contains-from_among [] x h = absurd h
contains-from_among (y ∷ ys) x (inl e) = (0, omega arith, sym e)
contains-from_among (y ∷ ys) x (inr h) = let c = contains-from_among ys x h in (suc c.0, omega (arith, c.1), c.2)

among-permutation : (xs ys : List Actor) (x : Actor) → IsPermutation xs ys → IsAmong x xs → IsAmong x ys
among-permutation xs ys x p h = let c = Contains-permutation xs ys x p (contains-from_among xs x h) in among-from_contains ys x c.0 c.1 c.2

kept : (z k : Actor) (xs : List Actor) → IsAmong z (k ∷ xs) → IsAmong z (dedup_from same_actor k xs)
kept z k [] h = h
kept z k (x ∷ xs) h =
    let P : Bool → Type 0 = λ v. same_actor x k ≡ v → IsAmong z (cond v (dedup_from same_actor k xs) (k ∷ dedup_from same_actor x xs)) in
    let cases : P (same_actor x k) = elim (same_actor x k) as P [
      | true ↦ (λ e. kept z k xs (elim h [
        | inl f ↦ inl f
        | inr m ↦ elim m [ inl f ↦ inl (f ∙ (same_actor-decides x k).0 e) | inr n ↦ inr n ]
      ]))
      | false ↦ (λ e. elim h [ inl f ↦ inl f | inr m ↦ inr (kept z x xs m) ])
    ] in
    cases refl

was_there : (z k : Actor) (xs : List Actor) → IsAmong z (dedup_from same_actor k xs) → IsAmong z (k ∷ xs)
was_there z k [] h = h
was_there z k (x ∷ xs) h =
    let P : Bool → Type 0 = λ v. IsAmong z (cond v (dedup_from same_actor k xs) (k ∷ dedup_from same_actor x xs)) → IsAmong z (k ∷ x ∷ xs) in
    let cases : P (same_actor x k) = elim (same_actor x k) as P [
      | true ↦ (λ g. elim (was_there z k xs g) [ inl f ↦ inl f | inr m ↦ inr (inr m) ])
      | false ↦ (λ g. elim g [ inl f ↦ inl f | inr m ↦ inr (was_there z x xs m) ])
    ] in
    cases h

dedup-has : (z : Actor) (xs : List Actor) → IsAmong z xs → IsAmong z (dedup same_actor xs)
dedup-has z [] h = h
dedup-has z (x ∷ xs) h = kept z x xs h

dedup-only : (z : Actor) (xs : List Actor) → IsAmong z (dedup same_actor xs) → IsAmong z xs
dedup-only z [] h = h
dedup-only z (x ∷ xs) h = was_there z x xs h

-- names that are sorted, each kept once, are their table
pub table-sorted : (names sorted : List Actor) → IsPermutation names sorted → IsSorted actor_cmp sorted → dedup same_actor sorted ≡ table_of names
table-sorted names sorted moved up =
    table-same (dedup same_actor sorted) (table_of names)
    (table-from_sorted (dedup same_actor sorted) (IsStrictlySortedBy-dedup actor_cmp-total ties sorted up))
    (table_of-rises names)
    (λ x h. table_of-has x names (among-permutation sorted names x (IsPermutation-sym names sorted moved) (dedup-only x sorted h)))
    (λ x h. dedup-has x sorted (among-permutation names sorted x moved (table_of-only x names h)))

-- ---- the index that a search by order finds

slice_get-from_equal : (table : List Actor) (a : Actor) (i : ℕ) → i < length table → actor_cmp (get_or table i a) a ≡ Equal → slice_get table i ≡ Some a
slice_get-from_equal table a i lt e =
    slice_get-get_or table i a lt
    ∙ ap Some (elim (actor_cases (get_or table i a) a) [
      | inl h ↦ (let bad = sym e ∙ actor_cmp-below (get_or table i a) a h in absurd cc)
      | inr other ↦ elim other [
        | inl h ↦ h
        | inr h ↦ (let bad = sym e ∙ actor_cmp-above (get_or table i a) a h in absurd cc)
      ]
    ])

above_from_cmp : (a b : Actor) → actor_cmp a b ≡ Greater → is_actor_below a b ≡ false
above_from_cmp a b e =
    let P : Bool → Type 0 = λ v. is_actor_below a b ≡ v → is_actor_below a b ≡ false in
    let cases : P (is_actor_below a b) = elim (is_actor_below a b) as P [
      | true ↦ (λ t. let bad = sym e ∙ actor_cmp-below a b ((is_actor_below-decides a b).0 t) in absurd cc)
      | false ↦ (λ f. f)
    ] in
    cases refl

index-between : (table : List Actor) (a : Actor) (i : ℕ) → i ≤ length table
    → ((k : ℕ) → k < i → actor_cmp (get_or table k a) a ≡ Less) → ((k : ℕ) → i ≤ k → k < length table → actor_cmp (get_or table k a) a ≡ Greater)
    → index_of table a ≡ i
unfolding index_of
index-between [] a i lt less_ greater_ = omega arith
index-between (b ∷ rest) a zero lt less_ greater_ = rw (above_from_cmp b a (greater_ 0 (omega arith) (omega arith))) refl
index-between (b ∷ rest) a (suc i) lt less_ greater_ =
    let one = (is_actor_below-decides b a).1 (below_from_cmp b a (less_ 0 (omega arith))) in
    rw one (ap suc (index-between rest a i (omega arith) (λ k h. less_ (suc k) (omega arith)) (λ k h g. greater_ (suc k) (omega arith) (omega arith))))

-- what a search in a table answers
pub index-found : (table : List Actor) (a : Actor) (i : ℕ) → IsTable table → i < length table → HoldsAt (λ y. actor_cmp y a ≡ Equal) table i → i ≡ index_of table a
index-found table a i t lt h = sym (index_of-slice_get table i a t (slice_get-from_equal table a i lt (h a)))

sorted-at : (xs : List Actor) (k j : ℕ) (d : Actor) → IsTable xs → j ≡ suc k → j < length xs → is_lt (actor_cmp (get_or xs j d) (get_or xs k d)) ≡ false
sorted-at [] k j d t e lt = absurd (omega arith)
sorted-at (x ∷ xs) k zero d t e lt = absurd (omega arith)
sorted-at (x ∷ []) k (suc j) d t e lt = absurd (omega arith)
sorted-at (x ∷ y ∷ ys) zero (suc zero) d t e lt = ap is_lt (actor_cmp-above y x t.0.0)
sorted-at (x ∷ y ∷ ys) zero (suc (suc j)) d t e lt = absurd (omega arith)
sorted-at (x ∷ y ∷ ys) (suc k) (suc j) d t e lt = sorted-at (y ∷ ys) k j d t.1 (omega arith) (omega arith)

pub index-missed : (table : List Actor) (a : Actor) (i : ℕ) → IsTable table → i ≤ length table
    → (IsNonDecreasingBy (λ y. ordering_index (actor_cmp y a)) table → IsPartitionPoint (λ y. actor_cmp y a ≡ Less) (λ y. actor_cmp y a ≡ Greater) table i)
    → i ≡ index_of table a
index-missed table a i t le h =
    let up = searchable_from_sorted actor_cmp-total (λ (x : Actor). x) table a (λ k d low high. sorted-at table k (k + 1) d t (omega arith) high) in
    let parts = h up in
    sym (index-between table a i le (λ k lt. parts.0 k a (omega arith) lt) (λ k low high. parts.1 k a low high))
