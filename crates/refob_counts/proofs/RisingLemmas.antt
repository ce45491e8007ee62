-- Targets in rising order: what stands at a place, what a write there, a push or a filter changes.
use Rattle.std.proofs.Common.{◌≡◌, ◌≢◌, ◌==◌, ◌<◌, ◌+◌, ◌-◌, ◌⊎◌, ℕ, zero, suc, Bool, true, false, not, cond, List, [], ◌∷◌, ◌++◌, length, get_or, set, Option, Some, None, Result, Ok, Err, IfSome, IfNone, refl, sym, ◌∙◌, ap, subst, inl, inr, arith}
use Rattle.std.proofs.lemmas.Bool.{cases_lt, false≢true}
use Rattle.std.proofs.lemmas.Bool.Decides.{Decides-eqb}
use Rattle.std.proofs.lemmas.List.Sorted.{searchable_from_sorted}
use Rattle.std.specs.Bool.{Decides}
use Rattle.std.specs.List.{AllByRecursion}
use Rattle.std.specs.List.Sorted.{IsBinarySearchResult, IsSearchInRange, IsSortedBy}
use Rattle.std.specs.Option.{unwrap_or}
use Rattle.std.specs.Ordering.{MatchOrdering, is_lt}
use Rattle.std.specs.Result.{result_ok}
use Rattle.std.specs.declared.cmp.Ordering.{Ordering}
use Rattle.std.specs.declared.cmp.Ordering.TheVariants.{Less, Equal, Greater}
use Rattle.crgc_ids.proofs.ActorLaws.{IsActorBelow-apart, IsActorBelow-trans, same_actor-apart, same_actor-decides}
use Rattle.crgc_ids.proofs.ActorOrder.{actor_cmp-above, actor_cmp-below, actor_cmp-tells, actor_cmp-total}
use Rattle.crgc_ids.proofs.MembersLaws.{all-implied}
use Rattle.crgc_ids.proofs.RisingLaws.{IsRising-filter, IsRising-push}
use Rattle.crgc_ids.specs.Actor.{Actor, IsActorBelow, actor_cmp, same_actor}
use Rattle.refob_counts.specs.Counts.{IsCountChange, count_of}
use Rattle.refob_counts.specs.Rising.{AreBelow, AreRising, IsPlaceOf, found_in, standing}

-- what is true of all rows is true of the one at a place
all_at : (P : Actor × ℕ → Type 0) (rows : List (Actor × ℕ)) (i : ℕ) (d : Actor × ℕ) → AllByRecursion P rows → i < length rows → P (get_or rows i d)
all_at P [] i d all lt = absurd (omega (arith, lt))
all_at P (row ∷ rows) zero d all lt = all.0
all_at P (row ∷ rows) (suc i) d all lt = all_at P rows i d all.1 (omega arith)

-- an actor is itself, and no actor that is below it or above it
same : (a : Actor) → same_actor a a ≡ true
same a = (same_actor-decides a a).1 refl

not_above : (a b : Actor) → IsActorBelow b a → same_actor a b ≡ false
not_above a b h = same_actor-apart a b (λ e. IsActorBelow-apart b (subst (IsActorBelow b) e h))

not_below : (a b : Actor) → IsActorBelow a b → same_actor a b ≡ false
not_below a b h = same_actor-apart a b (λ e. IsActorBelow-apart a (subst (IsActorBelow a) (sym e) h))

-- the test whether one actor is below another
less-decides : (a b : Actor) → Decides (is_lt (actor_cmp a b)) (IsActorBelow a b)
less-decides a b = (told (actor_cmp a b) (actor_cmp-tells a b), λ below. ap is_lt (actor_cmp-below a b below))
  where
    told : (o : Ordering) → MatchOrdering o (IsActorBelow a b) (a ≡ b) (IsActorBelow b a) → is_lt o ≡ true → IsActorBelow a b
    told Less p e = p
    told Equal p e = absurd (false≢true e)
    told Greater p e = absurd (false≢true e)

-- where the last is below a target, all are
below-last : (rows : List (Actor × ℕ)) (t : Actor) (k : ℕ) (d : Actor × ℕ) → AreRising rows → suc k ≡ length rows → IsActorBelow (get_or rows k d).0 t → AreBelow rows t
below-last [] t k d rising long below = tt
below-last (row ∷ []) t zero d rising long below = (below, tt)
below-last (row ∷ []) t (suc k) d rising long below = absurd (omega arith)
below-last (row ∷ s ∷ rows) t zero d rising long below = absurd (omega arith)
below-last (row ∷ s ∷ rows) t (suc k) d rising long below =
    let later = below-last (s ∷ rows) t k d rising.1 (omega arith) below in
    (IsActorBelow-trans row.0 s.0 t rising.0.0 later.0, later)

-- and where all are, the last is
last-below : (rows : List (Actor × ℕ)) (t : Actor) (k : ℕ) (d : Actor × ℕ) → suc k ≡ length rows → AreBelow rows t → IsActorBelow (get_or rows k d).0 t
last-below rows t k d long below = all_at (λ row. IsActorBelow row.0 t) rows k d below (omega arith)

-- so a test of the last one tells it of all
pub last_test : (rows : List (Actor × ℕ)) (t : Actor) (row : Actor × ℕ) (r : Bool) → AreRising rows → (0 < length rows) × ((d : Actor × ℕ) → row ≡ get_or rows (length rows - 1) d) → r ≡ is_lt (actor_cmp row.0 t) → Decides r (AreBelow rows t)
last_test rows t row r rising last is =
    let some = last.0 in
    let long : suc (length rows - 1) ≡ length rows = omega arith in
    let read = ap (λ (s : Actor × ℕ). s.0) (last.1 row) in
    let one = less-decides row.0 t in (
      λ e. below-last rows t (length rows - 1) row rising long (subst (λ a. IsActorBelow a t) read (one.0 (sym is ∙ e))),
      λ below. is ∙ one.1 (subst (λ a. IsActorBelow a t) (sym read) (last-below rows t (length rows - 1) row long below)),
    )

-- ---- what is found

-- a target of which no row is, is not found
absent : (t : Actor) (rows : List (Actor × ℕ)) → AllByRecursion (λ row. same_actor t row.0 ≡ false) rows → found_in rows t ≡ None
absent t [] all = refl
absent t (row ∷ rows) all = rw all.0 (absent t rows all.1)

-- one above all of them is not found
pub above-absent : (rows : List (Actor × ℕ)) (t : Actor) → AreBelow rows t → found_in rows t ≡ None
above-absent rows t below = absent t rows (all-implied _ _ (λ row h. not_above t row.0 h) rows below)

-- nor is one below all of them
below-absent : (rows : List (Actor × ℕ)) (t : Actor) → AllByRecursion (λ row. IsActorBelow t row.0) rows → found_in rows t ≡ None
below-absent rows t above = absent t rows (all-implied _ _ (λ row h. not_below t row.0 h) rows above)

-- the first row's target is below that at a later place
first-apart : (row : Actor × ℕ) (rows : List (Actor × ℕ)) (t : Actor) (i : ℕ) → AllByRecursion (λ s. IsActorBelow row.0 s.0) rows → IsPlaceOf rows t i → same_actor t row.0 ≡ false
first-apart row rows t i above place =
    not_above t row.0 (subst (IsActorBelow row.0) (place.1 row) (all_at (λ s. IsActorBelow row.0 s.0) rows i row above place.0))

place_after : (row : Actor × ℕ) (rows : List (Actor × ℕ)) (t : Actor) (i : ℕ) → IsPlaceOf (row ∷ rows) t (suc i) → IsPlaceOf rows t i
place_after row rows t i place = (omega (arith, place.0), place.1)

-- a target that has a place is found there
pub found-at : (rows : List (Actor × ℕ)) (t : Actor) (i : ℕ) (d : Actor × ℕ) → AreRising rows → IsPlaceOf rows t i → found_in rows t ≡ Some (get_or rows i d).1
found-at [] t i d rising place = absurd (omega (arith, place.0))
found-at (row ∷ rows) t zero d rising place = rw ((same_actor-decides t row.0).1 (sym (place.1 row))) refl
found-at (row ∷ rows) t (suc i) d rising place =
    let later = place_after row rows t i place in
    rw (first-apart row rows t i rising.0 later) (found-at rows t i d rising.1 later)

-- ---- a search

-- no row that the list has is of the target
absent_by_place : (rows : List (Actor × ℕ)) (t : Actor) → ((k : ℕ) (d : Actor × ℕ) → k < length rows → same_actor t (get_or rows k d).0 ≡ false) → found_in rows t ≡ None
absent_by_place [] t apart = refl
absent_by_place (row ∷ rows) t apart = rw (apart 0 row (omega arith)) (absent_by_place rows t (λ k d lt. apart (suc k) d (omega arith)))

below_next : (rows : List (Actor × ℕ)) (k : ℕ) (d : Actor × ℕ) → AreRising rows → suc k < length rows → IsActorBelow (get_or rows k d).0 (get_or rows (suc k) d).0
below_next [] k d rising lt = absurd (omega (arith, lt))
below_next (row ∷ rows) zero d rising lt = all_at (λ s. IsActorBelow row.0 s.0) rows 0 d rising.0 (omega arith)
below_next (row ∷ rows) (suc k) d rising lt = below_next rows k d rising.1 (omega arith)

sorted : (rows : List (Actor × ℕ)) → AreRising rows → IsSortedBy (λ r s. is_lt (actor_cmp r.0 s.0)) rows
sorted rows rising k d le lt =
    let one_more : k + 1 ≡ suc k = omega arith in
    rw one_more (let r = get_or rows k d in let s = get_or rows (suc k) d in ap is_lt (actor_cmp-above s.0 r.0 (below_next rows k d rising (omega arith))))

-- what the comparison tells of two actors
told-equal : (a b : Actor) → actor_cmp a b ≡ Equal → a ≡ b
told-equal a b e = rw e at (actor_cmp-tells a b)

told-less : (a b : Actor) → actor_cmp a b ≡ Less → IsActorBelow a b
told-less a b e = rw e at (actor_cmp-tells a b)

told-greater : (a b : Actor) → actor_cmp a b ≡ Greater → IsActorBelow b a
told-greater a b e = rw e at (actor_cmp-tells a b)

-- a search by target finds its place, or that it has none
pub searched : (t : Actor) (rows : List (Actor × ℕ)) → AreRising rows → (r : Result ℕ ℕ) → IsSearchInRange r (length rows) → IsBinarySearchResult (λ row. actor_cmp row.0 t) rows r → IfSome (result_ok r) (IsPlaceOf rows t) × IfNone (result_ok r) (found_in rows t ≡ None)
searched t rows rising (Ok at) in_range found = ((in_range, λ d. told-equal (get_or rows at d).0 t (found d)), tt)
searched t rows rising (Err at) in_range parted =
    let parts = parted (searchable_from_sorted actor_cmp-total (λ row. row.0) rows t (sorted rows rising)) in (
      tt,
      absent_by_place rows t (λ k d lt. let row = get_or rows k d in elim (cases_lt k at) [
        | inl before ↦ not_above t row.0 (told-less row.0 t (parts.0 k d (omega arith) before))
        | inr from ↦ not_below t row.0 (told-greater row.0 t (parts.1 k d from lt))
      ]),
    )

-- ---- a write

-- a write of a count keeps the targets
all-set : (P : Actor → Type 0) (rows : List (Actor × ℕ)) (i : ℕ) (t : Actor) (n : ℕ) → IsPlaceOf rows t i → AllByRecursion (λ row. P row.0) rows → AllByRecursion (λ row. P row.0) (set rows i (t, n))
all-set P [] i t n place all = all
all-set P (row ∷ rows) zero t n place all = (subst P (place.1 row) all.0, all.1)
all-set P (row ∷ rows) (suc i) t n place all = (all.0, all-set P rows i t n (place_after row rows t i place) all.1)

pub rising-set : (rows : List (Actor × ℕ)) (i : ℕ) (t : Actor) (n : ℕ) → IsPlaceOf rows t i → AreRising rows → AreRising (set rows i (t, n))
rising-set [] i t n place rising = rising
rising-set (row ∷ rows) zero t n place rising =
    (subst (λ a. AllByRecursion (λ s. IsActorBelow a s.0) rows) (place.1 row) rising.0, rising.1)
rising-set (row ∷ rows) (suc i) t n place rising =
    let later = place_after row rows t i place in
    (all-set (IsActorBelow row.0) rows i t n later rising.0, rising-set rows i t n later rising.1)

-- the target's count is the written one
found-set : (rows : List (Actor × ℕ)) (i : ℕ) (t : Actor) (n : ℕ) → AreRising rows → IsPlaceOf rows t i → found_in (set rows i (t, n)) t ≡ Some n
found-set [] i t n rising place = absurd (omega (arith, place.0))
found-set (row ∷ rows) zero t n rising place = rw (same t) refl
found-set (row ∷ rows) (suc i) t n rising place =
    let later = place_after row rows t i place in
    rw (first-apart row rows t i rising.0 later) (found-set rows i t n rising.1 later)

-- and the others have theirs
pub found-set_others : (rows : List (Actor × ℕ)) (i : ℕ) (t : Actor) (n : ℕ) → IsPlaceOf rows t i → (a : Actor) → a ≢ t → found_in (set rows i (t, n)) a ≡ found_in rows a
found-set_others [] i t n place a differ = refl
found-set_others (row ∷ rows) zero t n place a differ =
    let apart = same_actor-apart a t differ in
    rw (apart, subst (λ b. same_actor a b ≡ false) (sym (place.1 row)) apart) refl
found-set_others (row ∷ rows) (suc i) t n place a differ =
    ap (cond (same_actor a row.0) (Some row.1)) (found-set_others rows i t n (place_after row rows t i place) a differ)

pub change-set : (rows : List (Actor × ℕ)) (i : ℕ) (t : Actor) (n : ℕ) → AreRising rows → IsPlaceOf rows t i → IsCountChange rows (set rows i (t, n)) t n
change-set rows i t n rising place = record {
  changed = ap (λ o. unwrap_or o 0) (found-set rows i t n rising place);
  others = λ a differ. ap (λ o. unwrap_or o 0) (found-set_others rows i t n place a differ);
}

-- ---- two lists, one after the other

-- a target is found in the first, or else in the second
found-after : (xs ys : List (Actor × ℕ)) (a : Actor) → found_in xs a ≡ None → found_in (xs ++ ys) a ≡ found_in ys a
found-after [] ys a none = refl
found-after (x ∷ xs) ys a none =
    let Case : Bool → Type 0 = λ b. cond b (Some x.1) (found_in xs a) ≡ None → cond b (Some x.1) (found_in (xs ++ ys) a) ≡ found_in ys a in
    (elim (same_actor a x.0) as Case [ true ↦ λ e. absurd (cc) | false ↦ λ e. found-after xs ys a e ]) none

found-before : (xs ys : List (Actor × ℕ)) (a : Actor) (n : ℕ) → found_in xs a ≡ Some n → found_in (xs ++ ys) a ≡ Some n
found-before [] ys a n some = absurd (cc)
found-before (x ∷ xs) ys a n some =
    let Case : Bool → Type 0 = λ b. cond b (Some x.1) (found_in xs a) ≡ Some n → cond b (Some x.1) (found_in (xs ++ ys) a) ≡ Some n in
    (elim (same_actor a x.0) as Case [ true ↦ λ e. e | false ↦ λ e. found-before xs ys a n e ]) some

-- where no target counts in both, the counts add up
pub count-both : (xs ys : List (Actor × ℕ)) (a : Actor) → (found_in xs a ≡ None) ⊎ (count_of ys a ≡ 0) → count_of (xs ++ ys) a ≡ count_of xs a + count_of ys a
count-both xs ys a (inl none) =
    let after = ap (λ o. unwrap_or o 0) (found-after xs ys a none) in
    let here = ap (λ o. unwrap_or o 0) none in
    omega arith
count-both xs ys a (inr zero_there) =
    let Case : Option ℕ → Type 0 = λ o. found_in xs a ≡ o → count_of (xs ++ ys) a ≡ count_of xs a + count_of ys a in
    (elim (found_in xs a) as Case [
      | None ↦ λ e. (let after = ap (λ o. unwrap_or o 0) (found-after xs ys a e) in let here = ap (λ o. unwrap_or o 0) e in omega arith)
      | Some n ↦ λ e. (let before = ap (λ o. unwrap_or o 0) (found-before xs ys a n e) in let here = ap (λ o. unwrap_or o 0) e in omega arith)
    ]) refl

-- ---- a push

pub rising-push : (rows : List (Actor × ℕ)) (t : Actor) (n : ℕ) → AreRising rows → AreBelow rows t → AreRising (rows ++ (t, n) ∷ [])
rising-push rows t n rising below = IsRising-push (λ r s. IsActorBelow r.0 s.0) rows (t, n) rising below

-- the other targets are found, or not, as before
pub found-push_others : (rows : List (Actor × ℕ)) (t : Actor) (n : ℕ) (a : Actor) → a ≢ t → found_in (rows ++ (t, n) ∷ []) a ≡ found_in rows a
found-push_others [] t n a differ = rw (same_actor-apart a t differ) refl
found-push_others (row ∷ rows) t n a differ = ap (cond (same_actor a row.0) (Some row.1)) (found-push_others rows t n a differ)

pub change-push : (rows : List (Actor × ℕ)) (t : Actor) (n : ℕ) → AreBelow rows t → IsCountChange rows (rows ++ (t, n) ∷ []) t n
change-push rows t n below = record {
  changed = ap (λ o. unwrap_or o 0) (found-after rows ((t, n) ∷ []) t (above-absent rows t below)) ∙ rw (same t) refl;
  others = λ a differ. ap (λ o. unwrap_or o 0) (found-push_others rows t n a differ);
}

-- ---- those that stand

pub rising-standing : (rows : List (Actor × ℕ)) → AreRising rows → AreRising (standing rows)
rising-standing rows rising = IsRising-filter (λ r s. IsActorBelow r.0 s.0) (λ row. not (row.1 == 0)) rows rising

pub below-standing : (rows : List (Actor × ℕ)) (t : Actor) → AreBelow rows t → AreBelow (standing rows) t
below-standing [] t below = tt
below-standing (row ∷ rows) t below =
    let rest = below-standing rows t below.1 in
    elim (row.1 == 0) as (λ b. AreBelow (cond (not b) (row ∷ standing rows) (standing rows)) t) [ true ↦ rest | false ↦ (below.0, rest) ]

-- a target that was not found is not
pub absent-standing : (rows : List (Actor × ℕ)) (a : Actor) → found_in rows a ≡ None → found_in (standing rows) a ≡ None
absent-standing [] a none = refl
absent-standing (row ∷ rows) a none =
    let Apart : Bool → Type 0 = λ b. cond b (Some row.1) (found_in rows a) ≡ None → (b ≡ false) × (found_in rows a ≡ None) in
    let apart = (elim (same_actor a row.0) as Apart [ true ↦ λ e. absurd (cc) | false ↦ λ e. (refl, e) ]) none in
    let rest = absent-standing rows a apart.1 in
    elim (row.1 == 0) as (λ b. found_in (cond (not b) (row ∷ standing rows) (standing rows)) a ≡ None) [
      | true ↦ rest
      | false ↦ rw apart.0 rest
    ]

-- the counts stay
pub count-standing : (rows : List (Actor × ℕ)) (a : Actor) → AreRising rows → count_of (standing rows) a ≡ count_of rows a
count-standing [] a rising = refl
count-standing (row ∷ rows) a rising =
    let rest = count-standing rows a rising.1 in
    let Case : Bool → Bool → Type 0 = λ zero_here here.
    count_of (cond (not zero_here) (row ∷ standing rows) (standing rows)) a ≡ unwrap_or (cond here (Some row.1) (found_in rows a)) 0 in
    (elim (row.1 == 0) as (λ b. row.1 == 0 ≡ b → Case b (same_actor a row.0)) [
      | true ↦ λ e. (elim (same_actor a row.0) as (λ b. same_actor a row.0 ≡ b → Case true b) [
        | true ↦ λ s. (
            let is : a ≡ row.0 = (same_actor-decides a row.0).0 s in
            let none = below-absent rows a (subst (λ b. AllByRecursion (λ r. IsActorBelow b r.0) rows) (sym is) rising.0) in
            rest ∙ ap (λ o. unwrap_or o 0) none ∙ sym ((Decides-eqb row.1 0).0 e)
            )
        | false ↦ λ s. rest
      ]) refl
      | false ↦ λ e. elim (same_actor a row.0) as (λ b. unwrap_or (cond b (Some row.1) (found_in (standing rows) a)) 0 ≡ unwrap_or (cond b (Some row.1) (found_in rows a)) 0) [
        | true ↦ refl
        | false ↦ rest
      ]
    ]) refl

-- those that stand all stand
pub standing-again : (rows : List (Actor × ℕ)) → standing (standing rows) ≡ standing rows
standing-again [] = refl
standing-again (row ∷ rows) =
    let rest = standing-again rows in
    let Case : Bool → Type 0 = λ b. row.1 == 0 ≡ b → standing (cond (not b) (row ∷ standing rows) (standing rows)) ≡ cond (not b) (row ∷ standing rows) (standing rows) in
    (elim (row.1 == 0) as Case [ true ↦ λ e. rest | false ↦ λ e. rw e (ap (λ s. row ∷ s) rest) ]) refl
