-- What a sweep comes to, and that it ends.
use Rattle.std.proofs.Common.{◌≡◌, ◌⊎◌, ◌<◌, ◌≤◌, ◌+◌, ◌-◌, ◌*◌, ℕ, Bool, true, false, cond, List, Option, None, Some, length, refl, sym, ◌∙◌, ap, subst, inl, inr, zero, suc, arith, get_or-set_other}
use Rattle.std.proofs.Math.ListN.{set, length-set}
use Rattle.std.proofs.lemmas.Bool.{cases_eq, false≢true, true_from_ne_false, true≢false}
use Rattle.std.proofs.lemmas.List.Sums.{count_by-le-length, sum_by-set}
use Rattle.std.specs.Option.{is_some}
use Rattle.place_marks.specs.Graph.{Graph, IsReached, IsStep}
use Rattle.place_marks.proofs.ReachLemmas.{reached-closed, reached-on, reached-start}
use Rattle.kept_marks.specs.PlaceSet.{count_of, has_place}
use Rattle.kept_marks.specs.Kept.{AddsTargets, IsEmpty, IsKept, IsRanked, IsSwept, IsUnsupported, IsWatched, KeepsWatch, Kept, check_work, is_supported, marked_count, settle_work, support_of}
use Rattle.kept_marks.proofs.PlaceSetLemmas.{count-out}
use Rattle.kept_marks.proofs.StepLemmas.{in-at, in-other, kept_of, on-at, on-other, the-support}

-- ---- what is kept, where nothing is left to look at

no-support : (o : Option ℕ) → is_some o ≡ false → o ≡ None
no-support None h = refl
no-support (Some b) h = absurd (true≢false h)

-- what is marked is reached: by the rank, along the supports
kept-reached : (g : Graph) (k : Kept) (rank : ℕ → ℕ) → IsKept g k → IsEmpty k.touched → IsEmpty k.queued → IsRanked k.supports rank → (n a : ℕ) → rank a < n → is_supported k.supports a ≡ true → IsReached g a
kept-reached g k rank kept clean settled ranked zero a less marked = absurd (omega arith)
kept-reached g k rank kept clean settled ranked (suc n) a less marked =
    let found = the-support (support_of k.supports a) marked in
    let b = found.0 in
    let inside = kept.supports a b found.1 in
    elim ((kept.stands a inside.0 (clean a) (settled a)).support b found.1) [
      | inl start ↦ reached-start g a inside.0 start.1
      | inr step ↦ (let lower = ranked a b found.1 step.0 in
          reached-on g b a (kept-reached g k rank kept clean settled ranked n b (omega arith) step.1) step.2)
    ]

-- what is reached is marked
reached-kept : (g : Graph) (k : Kept) → IsKept g k → IsEmpty k.touched → IsEmpty k.queued → (a : ℕ) → IsReached g a → (a < g.places) × (is_supported k.supports a ≡ true)
reached-kept g k kept clean settled = reached-closed g (λ a. (a < g.places) × (is_supported k.supports a ≡ true)) starts on
  where
    none : (a : ℕ) → a < g.places → is_supported k.supports a ≡ false → IsUnsupported g k.supports a
    none a inside free = (kept.stands a inside (clean a) (settled a)).none (no-support (support_of k.supports a) free)

    starts : (r : ℕ) → r < g.places → g.is_start r ≡ true → (r < g.places) × (is_supported k.supports r ≡ true)
    starts r inside start = (inside, true_from_ne_false (is_supported k.supports r) (λ free. false≢true (sym (none r inside free).start ∙ start)))

    on : (b a : ℕ) → (b < g.places) × (is_supported k.supports b ≡ true) → IsStep g b a → (a < g.places) × (is_supported k.supports a ≡ true)
    on b a there step =
        let inside = (kept.whole b a step).1 in
        (inside, true_from_ne_false (is_supported k.supports a) (λ free. false≢true (sym ((none a inside free).owners b there.0 step) ∙ there.1)))

pub swept : (g : Graph) (old new : Kept) → IsKept g new → IsEmpty new.touched → IsEmpty new.queued → KeepsWatch old new → IsSwept g old new
swept g old new kept clean settled watch =
    record {
      marked = λ a. (
        λ h. kept-reached g new kept.ranked.0 kept clean settled kept.ranked.1 (suc (kept.ranked.0 a)) a (omega arith) h,
        λ reached. (reached-kept g new kept clean settled a reached).1,
      );
      touched = clean;
      queued = settled;
      watched = λ a before. left a (watch a before);
    }
  where
    left : (a : ℕ) → IsWatched new a → (is_supported new.supports a ≡ true) ⊎ (has_place new.fallen a ≡ true)
    left a (inl marked) = inl marked
    left a (inr (inl touched)) = absurd (false≢true (sym (clean a) ∙ touched))
    left a (inr (inr (inl queued))) = absurd (false≢true (sym (settled a) ∙ queued))
    left a (inr (inr (inr fallen))) = inr fallen

-- ---- whatever is watched stays so

pub watch-unmarked : (s : List (Option ℕ)) (t t' q q' f : List Bool) (p : ℕ) → p < length q → t' ≡ set t p false → q' ≡ set q p true → KeepsWatch (kept_of s t q f) (kept_of s t' q' f)
watch-unmarked s t t' q q' f p in_queue out put a before = elim (cases_eq a p) [
  | inl same ↦ inr (inr (inl (ap (has_place q') same ∙ in-at q q' p true put in_queue)))
  | inr other ↦ elim before [
    | inl marked ↦ inl marked
    | inr rest ↦ elim rest [
      | inl touched ↦ inr (inl (in-other t t' p a false out other ∙ touched))
      | inr more ↦ elim more [
        | inl queued ↦ inr (inr (inl (in-other q q' p a true put other ∙ queued)))
        | inr fallen ↦ inr (inr (inr fallen))
      ]
    ]
  ]
]

pub watch-standing : (s : List (Option ℕ)) (t t' q f : List Bool) (p : ℕ) → is_supported s p ≡ true → t' ≡ set t p false → KeepsWatch (kept_of s t q f) (kept_of s t' q f)
watch-standing s t t' q f p marked out a before = elim (cases_eq a p) [
  | inl same ↦ inl (ap (is_supported s) same ∙ marked)
  | inr other ↦ elim before [
    | inl marked ↦ inl marked
    | inr rest ↦ elim rest [
      | inl touched ↦ inr (inl (in-other t t' p a false out other ∙ touched))
      | inr more ↦ inr (inr more)
    ]
  ]
]

pub watch-falling : (g : Graph) (s s' : List (Option ℕ)) (t t' q q' f : List Bool) (p : ℕ) → p < length q → s' ≡ set s p None → q' ≡ set q p true → AddsTargets g s' (set t p false) t' p (Some p) → KeepsWatch (kept_of s t q f) (kept_of s' t' q' f)
watch-falling g s s' t t' q q' f p in_queue unmark put adds a before = elim (cases_eq a p) [
  | inl same ↦ inr (inr (inl (ap (has_place q') same ∙ in-at q q' p true put in_queue)))
  | inr other ↦ elim before [
    | inl marked ↦ inl (ap is_some (on-other s s' p a None unmark other) ∙ marked)
    | inr rest ↦ elim rest [
      | inl touched ↦ inr (inl (adds.kept a (get_or-set_other t p a false false other ∙ touched)))
      | inr more ↦ elim more [
        | inl queued ↦ inr (inr (inl (in-other q q' p a true put other ∙ queued)))
        | inr fallen ↦ inr (inr (inr fallen))
      ]
    ]
  ]
]

pub watch-fallen : (s : List (Option ℕ)) (t q q' f f' : List Bool) (p : ℕ) → p < length f → q' ≡ set q p false → f' ≡ set f p true → KeepsWatch (kept_of s t q f) (kept_of s t q' f')
watch-fallen s t q q' f f' p in_fallen out put a before = elim (cases_eq a p) [
  | inl same ↦ inr (inr (inr (ap (has_place f') same ∙ in-at f f' p true put in_fallen)))
  | inr other ↦ elim before [
    | inl marked ↦ inl marked
    | inr rest ↦ elim rest [
      | inl touched ↦ inr (inl touched)
      | inr more ↦ elim more [
        | inl queued ↦ inr (inr (inl (in-other q q' p a false out other ∙ queued)))
        | inr fallen ↦ inr (inr (inr (in-other f f' p a true put other ∙ fallen)))
      ]
    ]
  ]
]

pub watch-marked : (g : Graph) (s s' : List (Option ℕ)) (t q q' f : List Bool) (p b : ℕ) → p < length s → s' ≡ set s p (Some b) → AddsTargets g s' (set q p false) q' p None → KeepsWatch (kept_of s t q f) (kept_of s' t q' f)
watch-marked g s s' t q q' f p b inside mark adds a before = elim (cases_eq a p) [
  | inl same ↦ inl (ap is_some (ap (support_of s') same ∙ on-at s s' p (Some b) mark inside))
  | inr other ↦ elim before [
    | inl marked ↦ inl (ap is_some (on-other s s' p a (Some b) mark other) ∙ marked)
    | inr rest ↦ elim rest [
      | inl touched ↦ inr (inl touched)
      | inr more ↦ elim more [
        | inl queued ↦ inr (inr (inl (adds.kept a (get_or-set_other q p a false false other ∙ queued))))
        | inr fallen ↦ inr (inr (inr fallen))
      ]
    ]
  ]
]

-- ---- the work that is left

-- each place that is looked at is taken out of its set, or has its mark changed, and then the set is full at most
work-less : (m m' room room' c c' : ℕ) → m ≡ m' + 1 → room' ≡ room → c' ≤ room' → m' * (room' + 1) + c' < m * (room + 1) + c
work-less m m' room room' c c' one same few = subst (λ n. m' * (room' + 1) + c' < n * (room + 1) + c) (sym one) (subst (λ k. m' * (room' + 1) + c' < (m' + 1) * (k + 1) + c) same (omega arith))

-- so too where the place is only taken out
work-out : (m : ℕ) (t t' : List Bool) (p : ℕ) → has_place t p ≡ true → t' ≡ set t p false → m * (length t' + 1) + count_of t' < m * (length t + 1) + count_of t
work-out m t t' p there out =
    plain (length t) (length t') (count_of t) (count_of t') (ap length out ∙ length-set t p false) (ap (λ fs. count_of fs + 1) out ∙ count-out t p there)
  where
    plain : (n n' c c' : ℕ) → n' ≡ n → c' + 1 ≡ c → m * (n' + 1) + c' < m * (n + 1) + c
    plain n n' c c' same one = subst (λ k. m * (k + 1) + c' < m * (n + 1) + c) (sym same) (omega arith)

-- a place less is marked, or one more
pub marked-out : (s s' : List (Option ℕ)) (p : ℕ) → p < length s → is_supported s p ≡ true → s' ≡ set s p None → marked_count s' + 1 ≡ marked_count s
marked-out s s' p inside marked is =
    plain (marked_count s') (marked_count s) (cond (is_supported s p) 1 0) (ap (λ v. cond v 1 0) marked) (ap (λ ss. marked_count ss + cond (is_supported s p) 1 0) is ∙ sum_by-set (λ o. cond (is_some o) 1 0) s p None None inside)
  where
    plain : (x y n : ℕ) → n ≡ 1 → x + n ≡ y + 0 → x + 1 ≡ y
    plain x y n one more = omega arith

pub marked-in : (s s' : List (Option ℕ)) (p b : ℕ) → p < length s → support_of s p ≡ None → s' ≡ set s p (Some b) → marked_count s' ≡ marked_count s + 1
marked-in s s' p b inside free is =
    plain (marked_count s') (marked_count s) (cond (is_supported s p) 1 0) (ap (λ o. cond (is_some o) 1 0) free) (ap (λ ss. marked_count ss + cond (is_supported s p) 1 0) is ∙ sum_by-set (λ o. cond (is_some o) 1 0) s p (Some b) None inside)
  where
    plain : (x y n : ℕ) → n ≡ 0 → x + n ≡ y + 1 → x ≡ y + 1
    plain x y n none more = omega arith

-- each look at a place leaves less to do
pub less-taken : (s : List (Option ℕ)) (t t' q q' f f' : List Bool) (p : ℕ) → has_place t p ≡ true → t' ≡ set t p false → check_work (kept_of s t' q' f') < check_work (kept_of s t q f)
less-taken s t t' q q' f f' p there out = work-out (marked_count s) t t' p there out

pub less-fallen : (s : List (Option ℕ)) (t q q' f f' : List Bool) (p : ℕ) → has_place q p ≡ true → q' ≡ set q p false → settle_work (kept_of s t q' f') < settle_work (kept_of s t q f)
less-fallen s t q q' f f' p there out = work-out (length s - marked_count s) q q' p there out

pub less-falling : (g : Graph) (s s' : List (Option ℕ)) (t t' q q' f : List Bool) (p : ℕ) (on : Option ℕ) → p < length s → is_supported s p ≡ true → s' ≡ set s p None → AddsTargets g s' (set t p false) t' p on → check_work (kept_of s' t' q' f) < check_work (kept_of s t q f)
less-falling g s s' t t' q q' f p on inside marked unmark adds =
    work-less (marked_count s) (marked_count s') (length t) (length t') (count_of t) (count_of t') (sym (marked-out s s' p inside marked unmark)) (adds.room ∙ length-set t p false) (count_by-le-length (λ v. v) t')

pub less-marked : (g : Graph) (s s' : List (Option ℕ)) (t q q' f : List Bool) (p b : ℕ) (on : Option ℕ) → p < length s → support_of s p ≡ None → s' ≡ set s p (Some b) → AddsTargets g s' (set q p false) q' p on → settle_work (kept_of s' t q' f) < settle_work (kept_of s t q f)
less-marked g s s' t q q' f p b on inside free mark adds =
    work-less (length s - marked_count s) (length s' - marked_count s') (length q) (length q') (count_of q) (count_of q') fewer (adds.room ∙ length-set q p false) (count_by-le-length (λ v. v) q')
  where
    fewer : length s - marked_count s ≡ length s' - marked_count s' + 1
    fewer =
        let more = marked-in s s' p b inside free mark in
        let long = ap length mark ∙ length-set s p (Some b) in
        let few = count_by-le-length is_some s' in
        omega arith
