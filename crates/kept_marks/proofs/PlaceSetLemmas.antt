-- The queue of a set has each of its places once.
use Rattle.std.proofs.Common.{◌≡◌, ◌≢◌, ◌<◌, ◌≤◌, ◌+◌, ℕ, Bool, true, false, cond, List, [], ◌∷◌, ◌++◌, length, take, refl, sym, ◌∙◌, ap, subst, inl, inr, suc, arith, get_or-set_other, get_or-set_same}
use Rattle.std.proofs.Math.ListN.{set, length-set, replicate}
use Rattle.std.proofs.lemmas.Bool.{cases_eq, cases_lt, false≢true}
use Rattle.std.proofs.lemmas.List.{get_or_past, set-append_left, set-set, set_comm, take_all}
use Rattle.std.proofs.lemmas.List.Recursion.{is_count_by}
use Rattle.std.proofs.lemmas.List.Sums.{sum_by-set}
use Rattle.place_marks.proofs.OrderLemmas.{count-below, resized-at}
use Rattle.kept_marks.specs.PlaceSet.{AreListed, count_of, has_place}

-- a place of the set is within its room
pub place-inside : (flags : List Bool) (p : ℕ) → has_place flags p ≡ true → p < length flags
place-inside flags p h = elim (cases_lt p (length flags)) [
  | inl inside ↦ inside
  | inr past ↦ absurd (false≢true (sym (get_or_past flags p false past) ∙ h))
]

-- ---- counts

-- one place less
pub count-out : (flags : List Bool) (p : ℕ) → has_place flags p ≡ true → count_of (set flags p false) + 1 ≡ count_of flags
count-out flags p h =
    plain (count_of (set flags p false)) (count_of flags) (cond (has_place flags p) 1 0) (ap (λ f. cond f 1 0) h) (sum_by-set (λ f. cond f 1 0) flags p false false (place-inside flags p h))
  where
    plain : (x y n : ℕ) → n ≡ 1 → x + n ≡ y + 0 → x + 1 ≡ y
    plain x y n one more = omega arith

-- a set without a place has none
count-none : (flags : List Bool) → ((p : ℕ) → has_place flags p ≡ false) → count_of flags ≡ 0
count-none flags none = sym (is_count_by trues (λ f. f) refl (λ x xs. refl) flags) ∙ no_trues flags none
  where
    trues : List Bool → ℕ
    trues [] = 0
    trues (f ∷ fs) = cond f (1 + trues fs) (trues fs)

    no_trues : (fs : List Bool) → ((p : ℕ) → has_place fs p ≡ false) → trues fs ≡ 0
    no_trues [] h = refl
    no_trues (false ∷ fs) h = no_trues fs (λ p. h (suc p))
    no_trues (true ∷ fs) h = absurd (false≢true (sym (h 0)))

-- the queue is as long as there are places
pub listed-count : (flags : List Bool) (queue : List ℕ) → AreListed flags queue → length queue ≡ count_of flags
listed-count flags [] none = sym (count-none flags none)
listed-count flags (p ∷ queue) listed =
    let rest = listed-count (set flags p false) queue listed.1 in
    let out = count-out flags p listed.0 in
    omega arith

-- where a place is not in the set, the queue is shorter than the room
pub listed-below : (flags : List Bool) (queue : List ℕ) (p : ℕ) → AreListed flags queue → p < length flags → has_place flags p ≡ false → length queue < length flags
listed-below flags queue p listed inside free =
    let long = listed-count flags queue listed in
    let fewer = count-below flags p inside free in
    omega arith

-- ---- the queue

-- a place more, last
pub listed-put : (flags : List Bool) (queue : List ℕ) (p : ℕ) → AreListed flags queue → p < length flags → has_place flags p ≡ false → AreListed (set flags p true) (queue ++ p ∷ [])
listed-put flags [] p none inside free = (get_or-set_same flags p true false inside, gone)
  where
    gone : (q : ℕ) → has_place (set (set flags p true) p false) q ≡ false
    gone q = ap (λ fs. has_place fs q) (set-set flags p true false) ∙ elim (cases_eq q p) [
      | inl same ↦ ap (λ r. has_place (set flags p false) r) same ∙ get_or-set_same flags p false false inside
      | inr other ↦ get_or-set_other flags p q false false other ∙ none q
    ]
listed-put flags (x ∷ queue) p listed inside free =
    let other : x ≢ p = λ same. false≢true (sym free ∙ ap (has_place flags) (sym same) ∙ listed.0) in
    let other' : p ≢ x = λ same. other (sym same) in
    let long = length-set flags x false in (
      get_or-set_other flags p x true false other ∙ listed.0,
      subst (λ fs. AreListed fs (queue ++ p ∷ [])) (set_comm flags x p false true other)
          (listed-put (set flags x false) queue p listed.1 (omega arith) (get_or-set_other flags x p false false other' ∙ free)),
    )

-- more room, after `resize`
pub listed-resized : (flags new : List Bool) (queue : List ℕ) (n k : ℕ) (ok : Bool) → length flags ≤ n → AreListed flags queue → new ≡ cond ok (take n flags ++ replicate k false) flags → AreListed new queue
listed-resized flags new queue n k false long listed is = subst (λ fs. AreListed fs queue) (sym is) listed
listed-resized flags new queue n k true long listed is = subst (λ fs. AreListed fs queue) (sym (is ∙ ap (λ fs. fs ++ replicate k false) (take_all n flags long))) (more flags queue listed)
  where
    same : (fs : List Bool) (p : ℕ) → has_place (fs ++ replicate k false) p ≡ has_place fs p
    same fs p = ap (λ gs. has_place (gs ++ replicate k false) p) (sym (take_all (length fs) fs (omega arith))) ∙ resized-at fs (length fs) k p (omega arith)

    more : (fs : List Bool) (queue : List ℕ) → AreListed fs queue → AreListed (fs ++ replicate k false) queue
    more fs [] none = λ p. same fs p ∙ none p
    more fs (p ∷ queue) listed = (
      same fs p ∙ listed.0,
      subst (λ gs. AreListed gs queue) (sym (set-append_left fs (replicate k false) p false (place-inside fs p listed.0))) (more (set fs p false) queue listed.1),
    )
