-- One step of a sweep keeps what is kept.
use Rattle.std.proofs.Common.{◌≡◌, ◌≢◌, ◌<◌, ℕ, Bool, true, false, cond, List, Option, None, Some, length, get_or, refl, sym, ◌∙◌, ap, subst, inl, inr, suc, arith, get_or-set_other, get_or-set_same}
use Rattle.std.proofs.Math.ListN.{set, length-set}
use Rattle.std.proofs.lemmas.Bool.{cases_eq, eq-eqb, false_from_ne_true, false≢true, ne_eqb}
use Rattle.std.proofs.Math.Dec.{eqb}
use Rattle.std.proofs.lemmas.List.{get_or_default}
use Rattle.std.specs.Option.{is_some}
use Rattle.place_marks.specs.Graph.{Graph, IsStep}
use Rattle.kept_marks.specs.PlaceSet.{has_place}
use Rattle.kept_marks.proofs.PlaceSetLemmas.{place-inside}
use Rattle.kept_marks.specs.Kept.{AddsTargets, IsEmpty, IsKept, IsRanked, IsSupport, IsUnsupported, Kept, Stands, is_supported, support_of}

-- the parts together
abbrev pub kept_of : List (Option ℕ) → List Bool → List Bool → List Bool → Kept
kept_of supports touched queued fallen = record { supports = supports; touched = touched; queued = queued; fallen = fallen }

-- ---- reads after a write

pub in-at : (old new : List Bool) (p : ℕ) (v : Bool) → new ≡ set old p v → p < length old → has_place new p ≡ v
in-at old new p v is inside = ap (λ fs. has_place fs p) is ∙ get_or-set_same old p v false inside

pub in-other : (old new : List Bool) (p a : ℕ) (v : Bool) → new ≡ set old p v → a ≢ p → has_place new a ≡ has_place old a
in-other old new p a v is other = ap (λ fs. has_place fs a) is ∙ get_or-set_other old p a v false other

pub on-at : (old new : List (Option ℕ)) (p : ℕ) (v : Option ℕ) → new ≡ set old p v → p < length old → support_of new p ≡ v
on-at old new p v is inside = ap (λ ss. support_of ss p) is ∙ get_or-set_same old p v None inside

pub on-other : (old new : List (Option ℕ)) (p a : ℕ) (v : Option ℕ) → new ≡ set old p v → a ≢ p → support_of new a ≡ support_of old a
on-other old new p a v is other = ap (λ ss. support_of ss a) is ∙ get_or-set_other old p a v None other

-- a place that reads otherwise is another one
pub elsewhere : (flags : List Bool) (p a : ℕ) → has_place flags p ≡ true → has_place flags a ≡ false → a ≢ p
elsewhere flags p a there free same = false≢true (sym free ∙ ap (has_place flags) same ∙ there)

-- what is not in the larger set is not in the smaller one
pub shrink : (v w : Bool) → (v ≡ true → w ≡ true) → w ≡ false → v ≡ false
shrink v w grows free = false_from_ne_true v (λ h. false≢true (sym free ∙ grows h))

-- the support of a place that is marked
pub the-support : (o : Option ℕ) → is_some o ≡ true → (b : ℕ) × (o ≡ Some b)
the-support None h = absurd (false≢true h)
the-support (Some b) h = (b, refl)

-- ---- a touched place

-- one that is not marked goes to the queue
pub check-unmarked : (g : Graph) (s : List (Option ℕ)) (t t' q q' f : List Bool) (p : ℕ) → IsKept g (kept_of s t q f) → has_place t p ≡ true → support_of s p ≡ None → p < length q → p < length t → t' ≡ set t p false → q' ≡ set q p true → IsKept g (kept_of s t' q' f)
check-unmarked g s t t' q q' f p kept there free in_queue in_touched out put =
    record {
      whole = kept.whole;
      room = kept.room;
      ranked = kept.ranked;
      supports = kept.supports;
      touched = λ a h. kept.touched a (was a h);
      queued = λ a h. elim (cases_eq a p) [
        | inl same ↦ (subst (λ b. b < g.places) (sym same) (kept.touched p there), ap (support_of s) same ∙ free)
        | inr other ↦ kept.queued a (sym (in-other q q' p a true put other) ∙ h)
      ];
      stands = λ a inside no_touched no_queued.
          let other = elsewhere q' p a (in-at q q' p true put in_queue) no_queued in
          kept.stands a inside (sym (in-other t t' p a false out other) ∙ no_touched) (sym (in-other q q' p a true put other) ∙ no_queued);
    }
  where
    was : (a : ℕ) → has_place t' a ≡ true → has_place t a ≡ true
    was a h = elim (cases_eq a p) [
      | inl same ↦ ap (has_place t) same ∙ there
      | inr other ↦ sym (in-other t t' p a false out other) ∙ h
    ]

-- one that stands is only taken out
pub check-standing : (g : Graph) (s : List (Option ℕ)) (t t' q f : List Bool) (p : ℕ) → IsKept g (kept_of s t q f) → has_place t p ≡ true → t' ≡ set t p false → Stands g s p → IsKept g (kept_of s t' q f)
check-standing g s t t' q f p kept there out stands =
    record {
      whole = kept.whole;
      room = kept.room;
      ranked = kept.ranked;
      supports = kept.supports;
      touched = λ a h. elim (cases_eq a p) [
        | inl same ↦ subst (λ b. b < g.places) (sym same) (kept.touched p there)
        | inr other ↦ kept.touched a (sym (in-other t t' p a false out other) ∙ h)
      ];
      queued = kept.queued;
      stands = λ a inside no_touched no_queued. elim (cases_eq a p) [
        | inl same ↦ subst (Stands g s) (sym same) stands
        | inr other ↦ kept.stands a inside (sym (in-other t t' p a false out other) ∙ no_touched) no_queued
      ];
    }

-- one that does not stand loses its mark and goes to the queue, and what it supports is touched
pub check-falling : (g : Graph) (s s' : List (Option ℕ)) (t t' q q' f : List Bool) (p : ℕ) → IsKept g (kept_of s t q f) → has_place t p ≡ true → p < length q → s' ≡ set s p None → q' ≡ set q p true → AddsTargets g s' (set t p false) t' p (Some p) → IsKept g (kept_of s' t' q' f)
check-falling g s s' t t' q q' f p kept there in_queue unmark put adds =
    record {
      whole = kept.whole;
      room = (let long = ap length unmark ∙ length-set s p None in let room = kept.room in omega arith);
      ranked = (kept.ranked.0, λ a b h ne. kept.ranked.1 a b (was a b h) ne);
      supports = λ a b h. kept.supports a b (was a b h);
      touched = λ a h. elim (adds.others a h) [
        | inl earlier ↦ elim (cases_eq a p) [
          | inl same ↦ subst (λ b. b < g.places) (sym same) inside_p
          | inr other ↦ kept.touched a (sym (get_or-set_other t p a false false other) ∙ earlier)
        ]
        | inr here ↦ (kept.supports a p (was a p here.1)).0
      ];
      queued = λ a h. elim (cases_eq a p) [
        | inl same ↦ (subst (λ b. b < g.places) (sym same) inside_p, ap (support_of s') same ∙ free)
        | inr other ↦ (let before = kept.queued a (sym (in-other q q' p a true put other) ∙ h) in
            (before.0, on-other s s' p a None unmark other ∙ before.1))
      ];
      stands = λ a inside no_touched no_queued.
          let other = elsewhere q' p a (in-at q q' p true put in_queue) no_queued in
          let untouched : has_place t a ≡ false = shrink (has_place t a) (has_place t' a) (λ h. adds.kept a (get_or-set_other t p a false false other ∙ h)) no_touched in
          still a other no_touched (kept.stands a inside untouched (sym (in-other q q' p a true put other) ∙ no_queued));
    }
  where
    inside_p : p < g.places
    inside_p = kept.touched p there

    free : support_of s' p ≡ None
    free = on-at s s' p None unmark (let room = kept.room in let inside = kept.touched p there in omega arith)

    was : (a b : ℕ) → support_of s' a ≡ Some b → support_of s a ≡ Some b
    was a b h = elim (cases_eq a p) [
      | inl same ↦ absurd (cc (ap (support_of s') same ∙ free, h))
      | inr other ↦ sym (on-other s s' p a None unmark other) ∙ h
    ]

    -- another place that hangs on p is touched
    still : (a : ℕ) → a ≢ p → has_place t' a ≡ false → Stands g s a → Stands g s' a
    still a other no_touched stands =
        record {
          support = λ b h. elim (stands.support b (was a b h)) [
            | inl start ↦ inl start
            | inr step ↦ elim (cases_eq b p) [
              | inl same ↦ absurd (false≢true (sym no_touched ∙ adds.added a (subst (λ c. IsStep g c a) same step.2) (h ∙ ap Some same)))
              | inr apart ↦ inr (step.0, ap is_some (on-other s s' p b None unmark apart) ∙ step.1, step.2)
            ]
          ];
          none = λ h.
              let before = stands.none (sym (on-other s s' p a None unmark other) ∙ h) in
              record {
                start = before.start;
                owners = λ b there_b step. elim (cases_eq b p) [
                  | inl same ↦ ap is_some (ap (support_of s') same ∙ free)
                  | inr apart ↦ ap is_some (on-other s s' p b None unmark apart) ∙ before.owners b there_b step
                ];
              };
        }

-- ---- a queued place

-- one that nothing can support has fallen
pub settle-fallen : (g : Graph) (s : List (Option ℕ)) (t q q' f f' : List Bool) (p : ℕ) → IsKept g (kept_of s t q f) → has_place q p ≡ true → q' ≡ set q p false → IsUnsupported g s p → IsKept g (kept_of s t q' f')
settle-fallen g s t q q' f f' p kept there out none =
    record {
      whole = kept.whole;
      room = kept.room;
      ranked = kept.ranked;
      supports = kept.supports;
      touched = kept.touched;
      queued = λ a h. elim (cases_eq a p) [
        | inl same ↦ kept.queued a (ap (has_place q) same ∙ there)
        | inr other ↦ kept.queued a (sym (in-other q q' p a false out other) ∙ h)
      ];
      stands = λ a inside no_touched no_queued. elim (cases_eq a p) [
        | inl same ↦ subst (Stands g s) (sym same) (record { support = λ b h. absurd (cc ((kept.queued p there).1, h)); none = λ h. none })
        | inr other ↦ kept.stands a inside no_touched (sym (in-other q q' p a false out other) ∙ no_queued)
      ];
    }

-- the rank of one place is above that of another
rank_above : (ℕ → ℕ) → ℕ → ℕ → ℕ → ℕ
rank_above rank p b a = cond (eqb a p) (suc (rank b)) (rank a)

rank-at : (rank : ℕ → ℕ) (p b a : ℕ) → a ≡ p → rank_above rank p b a ≡ suc (rank b)
unfolding rank_above
rank-at rank p b a same = ap (λ v. cond v (suc (rank b)) (rank a)) (eq-eqb a p same)

rank-other : (rank : ℕ → ℕ) (p b a : ℕ) → a ≢ p → rank_above rank p b a ≡ rank a
unfolding rank_above
rank-other rank p b a other = ap (λ v. cond v (suc (rank b)) (rank a)) (ne_eqb a p other)

-- one that is supported is marked, and what is not marked and can now stand on it goes to the queue
pub settle-marked : (g : Graph) (s s' : List (Option ℕ)) (t q q' f : List Bool) (p b : ℕ) → IsKept g (kept_of s t q f) → IsEmpty t → has_place q p ≡ true → b < g.places → IsSupport g s p b → s' ≡ set s p (Some b) → AddsTargets g s' (set q p false) q' p None → IsKept g (kept_of s' t q' f)
settle-marked g s s' t q q' f p b kept clean there inside_b support mark adds =
    record {
      whole = kept.whole;
      room = (let long = ap length mark ∙ length-set s p (Some b) in let room = kept.room in omega arith);
      ranked = (rank_above kept.ranked.0 p b, ranked);
      supports = λ a c h. elim (cases_eq a p) [
        | inl same ↦ (let is : c ≡ b = cc (ap (support_of s') same ∙ marked, h) in (subst (λ x. x < g.places) (sym same) inside_p, subst (λ x. x < g.places) (sym is) inside_b))
        | inr other ↦ kept.supports a c (sym (on-other s s' p a (Some b) mark other) ∙ h)
      ];
      touched = kept.touched;
      queued = λ a h. elim (adds.others a h) [
        | inl earlier ↦ elim (cases_eq a p) [
          | inl same ↦ absurd (false≢true (sym (ap (has_place (set q p false)) same ∙ out) ∙ earlier))
          | inr other ↦ (let before = kept.queued a (sym (get_or-set_other q p a false false other) ∙ earlier) in
              (before.0, on-other s s' p a (Some b) mark other ∙ before.1))
        ]
        | inr here ↦ ((kept.whole p a here.0).1, here.1)
      ];
      stands = λ a inside no_touched no_queued. elim (cases_eq a p) [
        | inl same ↦ subst (Stands g s') (sym same) here
        | inr other ↦ (let unqueued : has_place q a ≡ false = shrink (has_place q a) (has_place q' a) (λ h. adds.kept a (get_or-set_other q p a false false other ∙ h)) no_queued in
            still a other no_queued (kept.stands a inside no_touched unqueued))
      ];
    }
  where
    inside_p : p < g.places
    inside_p = (kept.queued p there).0

    free : support_of s p ≡ None
    free = (kept.queued p there).1

    marked : support_of s' p ≡ Some b
    marked = on-at s s' p (Some b) mark (let room = kept.room in let inside = (kept.queued p there).0 in omega arith)

    out : has_place (set q p false) p ≡ false
    out = get_or-set_same q p false false (place-inside q p there)

    -- a place that supports another is not p, which was not marked
    not_p : (c : ℕ) → is_supported s c ≡ true → c ≢ p
    not_p c h same = false≢true (sym (ap is_some (ap (support_of s) same ∙ free)) ∙ h)

    ranked : IsRanked s' (rank_above kept.ranked.0 p b)
    ranked a c h ne = elim (cases_eq a p) [
      | inl same ↦ (let is : c ≡ b = cc (ap (support_of s') same ∙ marked, h) in
          let other : c ≢ p = (λ e. ne (e ∙ sym same)) in
          let low = rank-other kept.ranked.0 p b c other in
          let high = rank-at kept.ranked.0 p b a same in
          let as_b = ap kept.ranked.0 is in
          omega arith)
      | inr other ↦ (let before = sym (on-other s s' p a (Some b) mark other) ∙ h in
          let inside = (kept.supports a c before).0 in
          let unqueued : has_place q a ≡ false = false_from_ne_true (has_place q a) (λ queued. absurd (cc ((kept.queued a queued).1, before))) in
          let less = kept.ranked.1 a c before ne in
          elim ((kept.stands a inside (clean a) unqueued).support c before) [
            | inl start ↦ absurd (ne start.0)
            | inr step ↦ (let low = rank-other kept.ranked.0 p b c (not_p c step.1) in
                let high = rank-other kept.ranked.0 p b a other in
                omega arith)
          ])
    ]

    here : Stands g s' p
    here =
        record {
          support = λ c h. (let is : c ≡ b = cc (marked, h) in subst (IsSupport g s' p) (sym is) (elim support [
            | inl start ↦ inl start
            | inr step ↦ inr (step.0, ap is_some (on-other s s' p b (Some b) mark step.0) ∙ step.1, step.2)
          ]));
          none = λ h. absurd (cc (marked, h));
        }

    still : (a : ℕ) → a ≢ p → has_place q' a ≡ false → Stands g s a → Stands g s' a
    still a other no_queued stands =
        record {
          support = λ c h. elim (stands.support c (sym (on-other s s' p a (Some b) mark other) ∙ h)) [
            | inl start ↦ inl start
            | inr step ↦ inr (step.0, ap is_some (on-other s s' p c (Some b) mark (not_p c step.1)) ∙ step.1, step.2)
          ];
          none = λ h.
              let before = stands.none (sym (on-other s s' p a (Some b) mark other) ∙ h) in
              record {
                start = before.start;
                owners = λ c there_c step. elim (cases_eq c p) [
                  | inl same ↦ absurd (false≢true (sym no_queued ∙ adds.added a (subst (λ x. IsStep g x a) same step) h))
                  | inr apart ↦ ap is_some (on-other s s' p c (Some b) mark apart) ∙ before.owners c there_c step
                ];
              };
        }

-- a read of a place that is marked
pub read-marked : (s : List (Option ℕ)) (p : ℕ) (v : Option ℕ) → p < length s → v ≡ get_or s p v → is_some v ≡ true → is_supported s p ≡ true
read-marked s p v inside read marked = ap is_some (sym (read ∙ get_or_default s p v None inside)) ∙ marked

-- a place that is marked stands where its support can support it
pub stands-marked : (g : Graph) (s : List (Option ℕ)) (p : ℕ) → is_supported s p ≡ true → ((b : ℕ) → support_of s p ≡ Some b → IsSupport g s p b) → Stands g s p
stands-marked g s p marked support = record { support = support; none = λ h. absurd (false≢true (sym (ap is_some h) ∙ marked)) }

-- what the targets added, over equal lists
pub adds-as : (g : Graph) (s s' : List (Option ℕ)) (old old' new : List Bool) (p : ℕ) (on : Option ℕ) → s ≡ s' → old ≡ old' → AddsTargets g s old new p on → AddsTargets g s' old' new p on
adds-as g s s' old old' new p on same same_old adds =
    subst (λ ss. AddsTargets g ss old' new p on) same (subst (λ fs. AddsTargets g s fs new p on) same_old adds)
