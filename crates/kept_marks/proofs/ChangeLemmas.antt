-- What is kept stays right as the graph changes.
use Rattle.std.proofs.Common.{◌≡◌, ◌⊎◌, ◌<◌, ◌≤◌, ℕ, Bool, true, false, List, Option, None, Some, length, refl, sym, ◌∙◌, ap, subst, inl, inr, arith}
use Rattle.std.proofs.Math.ListN.{set}
use Rattle.std.proofs.lemmas.Bool.{cases_eq, cases_lt, false_from_ne_true, false≢true}
use Rattle.std.specs.Option.{is_some}
use Rattle.place_marks.specs.Graph.{Graph, IsGraph}
use Rattle.kept_marks.specs.PlaceSet.{has_place}
use Rattle.kept_marks.specs.Kept.{IsEmpty, IsKept, IsSame, IsSpared, IsTouched, KeepsWatch, Kept, Stands, is_supported, nothing_kept, support_of}
use Rattle.kept_marks.proofs.StepLemmas.{in-at, in-other, kept_of, shrink, the-support}

-- the same supports, by place
pub stands-same : (g : Graph) (s s' : List (Option ℕ)) (a : ℕ) → ((b : ℕ) → support_of s' b ≡ support_of s b) → Stands g s a → Stands g s' a
stands-same g s s' a same stands =
    record {
      support = λ b h. elim (stands.support b (sym (same a) ∙ h)) [
        | inl start ↦ inl start
        | inr step ↦ inr (step.0, ap is_some (same b) ∙ step.1, step.2)
      ];
      none = λ h.
          let before = stands.none (sym (same a) ∙ h) in
          record { start = before.start; owners = λ b there step. ap is_some (same b) ∙ before.owners b there step };
    }

-- a mark that the change spares stands over the new graph
stands-spared : (old new : Graph) (s : List (Option ℕ)) (a : ℕ) → ((b c : ℕ) → support_of s b ≡ Some c → b < old.places) → IsSpared old new s a → Stands old s a → Stands new s a
stands-spared old new s a within spared stands =
    record {
      support = λ b h. elim (stands.support b h) [
        | inl start ↦ inl (start.0, spared.start (h ∙ ap Some start.0) start.1)
        | inr step ↦ inr (step.0, step.1, spared.owner b h step.2)
      ];
      none = λ h.
          let before = stands.none h in
          record {
            start = spared.unmarked h before.start;
            owners = λ b there step. false_from_ne_true (is_supported s b) (λ marked.
                let found = the-support (support_of s b) marked in
                false≢true (sym (before.owners b (within b found.0 found.1) (spared.others b h marked step)) ∙ marked));
          };
    }

pub kept-touched : (old new : Graph) (before after : Kept) → IsKept old before → IsGraph new → IsTouched old new before after → IsKept new after
kept-touched old new before after kept whole change =
    record {
      whole = whole;
      room = change.room;
      ranked = (kept.ranked.0, λ a b h ne. kept.ranked.1 a b (sym (change.supports a) ∙ h) ne);
      supports = λ a b h. (let there = kept.supports a b (sym (change.supports a) ∙ h) in
          let first = there.0 in let second = there.1 in let more = change.places in (omega arith, omega arith));
      touched = change.within;
      queued = λ a h. (let there = kept.queued a (sym (change.queued a) ∙ h) in
          let first = there.0 in let more = change.places in (omega arith, change.supports a ∙ there.1));
      stands = λ a inside no_touched no_queued.
          let was = before_places a inside no_touched in
          stands-same new before.supports after.supports a change.supports
          (stands-spared old new before.supports a (λ b c h. (kept.supports b c h).0) (change.spared a was no_touched)
          (kept.stands a was (shrink (has_place before.touched a) (has_place after.touched a) (change.touched a) no_touched) (sym (change.queued a) ∙ no_queued)));
    }
  where
    before_places : (a : ℕ) → a < new.places → has_place after.touched a ≡ false → a < old.places
    before_places a inside free = elim (cases_lt a old.places) [
      | inl less ↦ less
      | inr more ↦ absurd (false≢true (sym free ∙ change.added a more inside))
    ]

pub nothing-kept : (g : Graph) → IsGraph g → g.places ≡ 0 → IsKept g nothing_kept
nothing-kept g whole none =
    record {
      whole = whole;
      room = omega arith;
      ranked = (λ a. 0, λ a b h. absurd (cc h));
      supports = λ a b h. absurd (cc h);
      touched = λ a h. absurd (false≢true h);
      queued = λ a h. absurd (false≢true h);
      stands = λ a inside. absurd (omega arith);
    }

-- the graph stays, and all else but the touched and the fallen is the same
spared-same : (g : Graph) (s : List (Option ℕ)) (a : ℕ) → IsSpared g g s a
spared-same g s a = record { start = λ h start. start; owner = λ b h step. step; unmarked = λ h free. free; others = λ b h marked step. step }

pub kept-same : (g : Graph) (before after : Kept) → IsKept g before → length before.supports ≤ length after.supports → IsSame before after → IsKept g after
kept-same g before after kept grown same =
    kept-touched g g before after kept kept.whole (record {
      places = omega arith;
      room = (let room = kept.room in omega arith);
      supports = same.supports;
      queued = same.queued;
      touched = λ a h. same.touched a ∙ h;
      within = λ a h. kept.touched a (sym (same.touched a) ∙ h);
      added = λ a past inside. absurd (omega arith);
      spared = λ a inside free. spared-same g before.supports a;
    })

pub kept-touch : (g : Graph) (s : List (Option ℕ)) (t t' q f : List Bool) (p : ℕ) → p < length t → t' ≡ set t p true → p < g.places → IsKept g (kept_of s t q f) → IsKept g (kept_of s t' q f)
kept-touch g s t t' q f p in_touched put inside kept =
    kept-touched g g (kept_of s t q f) (kept_of s t' q f) kept kept.whole (record {
      places = omega arith;
      room = kept.room;
      supports = λ a. refl;
      queued = λ a. refl;
      touched = λ a h. elim (cases_eq a p) [
        | inl same ↦ ap (has_place t') same ∙ in-at t t' p true put in_touched
        | inr other ↦ in-other t t' p a true put other ∙ h
      ];
      within = λ a h. elim (cases_eq a p) [
        | inl same ↦ subst (λ b. b < g.places) (sym same) inside
        | inr other ↦ kept.touched a (sym (in-other t t' p a true put other) ∙ h)
      ];
      added = λ a past less. absurd (omega arith);
      spared = λ a less free. spared-same g s a;
    })

pub kept-fallen : (g : Graph) (s : List (Option ℕ)) (t q f f' : List Bool) → IsKept g (kept_of s t q f) → IsKept g (kept_of s t q f')
kept-fallen g s t q f f' kept =
    record {
      whole = kept.whole;
      room = kept.room;
      ranked = kept.ranked;
      supports = kept.supports;
      touched = kept.touched;
      queued = kept.queued;
      stands = kept.stands;
    }

-- nothing is marked, and each place is touched
pub kept-restart : (g : Graph) (s s' : List (Option ℕ)) (t t' q f : List Bool) → IsGraph g → g.places ≤ length s' → ((a : ℕ) → support_of s' a ≡ None) → ((a : ℕ) → has_place t a ≡ true → a < g.places) → ((a : ℕ) → a < g.places → has_place t' a ≡ true) → ((a : ℕ) → has_place t' a ≡ true → (has_place t a ≡ true) ⊎ (a < g.places)) → IsEmpty q → IsKept g (kept_of s' t' q f)
kept-restart g s s' t t' q f whole room free within added others settled =
    record {
      whole = whole;
      room = room;
      ranked = (λ a. 0, λ a b h. absurd (cc (free a, h)));
      supports = λ a b h. absurd (cc (free a, h));
      touched = λ a h. elim (others a h) [ inl before ↦ within a before | inr inside ↦ inside ];
      queued = λ a h. absurd (false≢true (sym (settled a) ∙ h));
      stands = λ a inside no_touched. absurd (false≢true (sym no_touched ∙ added a inside));
    }

pub watch-restart : (g : Graph) (s s' : List (Option ℕ)) (t t' q f : List Bool) → ((a b : ℕ) → support_of s a ≡ Some b → a < g.places) → ((a : ℕ) → has_place t a ≡ true → has_place t' a ≡ true) → ((a : ℕ) → a < g.places → has_place t' a ≡ true) → KeepsWatch (kept_of s t q f) (kept_of s' t' q f)
watch-restart g s s' t t' q f within kept added a (inl marked) = (let found = the-support (support_of s a) marked in inr (inl (added a (within a found.0 found.1))))
watch-restart g s s' t t' q f within kept added a (inr (inl touched)) = inr (inl (kept a touched))
watch-restart g s s' t t' q f within kept added a (inr (inr rest)) = inr (inr rest)
