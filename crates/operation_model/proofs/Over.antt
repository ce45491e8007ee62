-- Where nothing was left to do, nothing is left from then on: the run stays over.
use Rattle.std.proofs.Common.{◌≡◌, ◌==◌, ◌&&◌, ◌||◌, ◌⊎◌, ◌<◌, ℕ, Bool, true, false, not, nat_lt, List, [], ◌∷◌, option_to_list, Some, None, refl, sym, ◌∙◌, ap, subst, arith, if◌then◌else◌, is_none, inl, inr}
use Rattle.std.proofs.lemmas.Bool.{and_parts, eqb-true, false≢true, ltb-true}
use Rattle.std.proofs.lemmas.Bool.Decides.{Decides-eqb}
use Rattle.crgc_ids.specs.Actor.{Actor, same_actor}
use Rattle.crgc_ids.specs.Members.{IsAmong}
use Rattle.history_model.specs.declared.events.Event.{Event}
use Rattle.history_model.specs.declared.events.Event.TheVariants as events
use Rattle.history_model.specs.Cluster.{newborn}
use Rattle.history_model.specs.Legal.{IsLegal, checks}
use Rattle.history_model.specs.Live.{NobodyIsBusy, NothingIsLive, busy_count, live_count}
use Rattle.history_model.specs.Messages.{waiting}
use Rattle.history_model.specs.Rows.{onto}
use Rattle.history_model.specs.State.{is_busy, is_root, is_up}
use Rattle.history_model.specs.Uses.{sent_by}
use Rattle.history_model.proofs.Basics.{first_broken-none, same_actor-equal}
use Rattle.history_model.proofs.LinksSums.{sum_by-positive}
use Rattle.history_model.proofs.LiveCounts.{busy_count-none, live_count-none}
use Rattle.history_model.proofs.StabilityMessages.{live-next}
use Rattle.history_model.proofs.States.{legal-send, some_waits, waiting-live}
use Rattle.script_reader.specs.Valid.{Scripted}
use Rattle.script_reader.specs.declared.script.Seed.{Seed as SeedRow}
use Rattle.run_model.specs.Doing.{cluster_of, row_of, seed_actors, seeded}
use Rattle.run_model.specs.Follows.{added, is_allowed, is_on_time, is_over, queued}
use Rattle.run_model.specs.Planned.{begun, crash_due, is_within_budget, planned, wakes_left, wakes_of}
use Rattle.run_model.specs.declared.round_laws.TheConstants.{FLUSHES_PER_PUBLISH}
use Rattle.run_model.proofs.Runs.{allowed-fits}
use Rattle.operation_model.specs.Answers.{MayFollow}
use Rattle.operation_model.proofs.Frames.{is_still, still}

-- ---- what it means

-- nobody is busy; and no turn may begin, or nothing is there to begin with
pub record IsOver (s : Scripted) (w : List Event) : Type 0 where
  pub idle : NobodyIsBusy w
  pub spent : (is_within_budget s w ≡ false) ⊎ (NothingIsLive w × (planned s w ≡ 0))

equal-true : (n m : ℕ) → n ≡ m → (n == m) ≡ true
equal-true n m e = (Decides-eqb n m).1 e

over-means : (s : Scripted) (w : List Event) → IsLegal (cluster_of s) w → is_over s w ≡ true → IsOver s w
over-means s w legal over =
    let cl = cluster_of s in
    let busy = busy_count cl w == 0 in
    let live = live_count cl w == 0 in
    let none = planned s w == 0 in
    let rest = and_parts (is_none (crash_due s w)) (busy && (not (is_within_budget s w) || (live && none))) over in
    let both = and_parts busy (not (is_within_budget s w) || (live && none)) rest.1 in
    record {
      idle = (busy_count-none cl w legal).0 (eqb-true (busy_count cl w) 0 both.0);
      spent = elim (is_within_budget s w) as (λ v. is_within_budget s w ≡ v → (not v || (live && none)) ≡ true → (is_within_budget s w ≡ false) ⊎ (NothingIsLive w × (planned s w ≡ 0))) [
        | false ↦ λ is _. inl is
        | true ↦ λ _ all. (let parts = and_parts live none all in inr ((live_count-none cl w legal).0 (eqb-true (live_count cl w) 0 parts.0), eqb-true (planned s w) 0 parts.1))
      ] refl both.1;
    }

means-over : (s : Scripted) (w : List Event) → IsLegal (cluster_of s) w → crash_due s w ≡ None → IsOver s w → is_over s w ≡ true
means-over s w legal none over =
    let cl = cluster_of s in
    rw (none, equal-true (busy_count cl w) 0 ((busy_count-none cl w legal).1 over.idle)) (elim over.spent [
      | inl is ↦ rw is refl
      | inr nothing_left ↦
          rw (equal-true (live_count cl w) 0 ((live_count-none cl w legal).1 nothing_left.0), equal-true (planned s w) 0 nothing_left.1)
          (elim (is_within_budget s w) as (λ v. (not v || true) ≡ true) [ true ↦ refl | false ↦ refl ])
    ])

-- ---- events that leave it so

-- nobody acts, and no node crashes
abbrev pub is_calm : Event → Bool
is_calm (events.Crash n) = false
is_calm e = is_still e

record IsCalm (s : Scripted) (e : Event) (w : List Event) : Type 0 where
  still_event : is_still e ≡ true
  none_due : crash_due s (e ∷ w) ≡ None
  same_begun : begun (e ∷ w) ≡ begun w
  same_planned : planned s (e ∷ w) ≡ planned s w
  same_up : (n : ℕ) → is_up n (e ∷ w) ≡ is_up n w
  sends_nothing : sent_by e ≡ []

calm : (s : Scripted) (e : Event) (w : List Event) → is_calm e ≡ true → IsCalm s e w
calm s (events.Seed n) w is = absurd (false≢true is)
calm s (events.Tie a b) w is = absurd (false≢true is)
calm s (events.Wake a) w is = absurd (false≢true is)
calm s (events.Take a) w is = absurd (false≢true is)
calm s (events.Spawn a) w is = absurd (false≢true is)
calm s (events.Send a t refs) w is = absurd (false≢true is)
calm s (events.Drop a t) w is = absurd (false≢true is)
calm s (events.Retire a) w is = absurd (false≢true is)
calm s (events.Rest a) w is = absurd (false≢true is)
calm s (events.Crash n) w is = absurd (false≢true is)
calm s e w is = record {
  still_event = refl;
  none_due = refl;
  same_begun = refl;
  same_planned = refl;
  same_up = λ n. refl;
  sends_nothing = refl;
}

calm-over : (s : Scripted) (e : Event) (w : List Event) → IsLegal (cluster_of s) (e ∷ w) → IsCalm s e w → IsOver s w → IsOver s (e ∷ w)
calm-over s e w legal c over =
    let same = still s e w c.still_event in
    record {
      idle = λ a up. same.busy a ∙ over.idle a (sym (c.same_up a.node) ∙ up);
      spent = elim over.spent [
        | inl spent ↦ inl (ap (λ n. nat_lt n s.turns) c.same_begun ∙ spent)
        | inr nothing_left ↦ inr (
          λ m live. elim (live-next (cluster_of s) e w legal m live) [
            | inl before ↦ nothing_left.0 m before
            | inr sent ↦ absurd (subst (IsAmong m) c.sends_nothing sent)
          ],
          c.same_planned ∙ nothing_left.1,
        )
      ];
    }

-- ---- no other event comes

-- a seed with a wake is one of the seeds
row-among : (seeds : List SeedRow) (h : List Event) (a : Actor) → 0 < wakes_of (row_of seeds h a) → IsAmong a (seeded seeds h)
row-among [] h a some = absurd (omega (arith, some))
row-among (x ∷ seeds) h a some =
    elim (same_actor (newborn x.node h) a) as (λ v. same_actor (newborn x.node h) a ≡ v → 0 < wakes_of (if v then Some x else row_of seeds (events.Seed x.node ∷ h) a) → IsAmong a (seeded (x ∷ seeds) h)) [
      | true ↦ λ same _. inl (sym (same_actor-equal (newborn x.node h) a same))
      | false ↦ λ _ later. inr (row-among seeds (events.Seed x.node ∷ h) a later)
    ] refl some

module _ (s : Scripted) (w : List Event) (legal : IsLegal (cluster_of s) w) (over : IsOver s w) where
  -- a planned wake counts
  wake-planned : (a : Actor) → 0 < wakes_left s a w → is_up a.node w ≡ true → is_root a w ≡ true → 0 < planned s w
  wake-planned a some up root =
      let weight : Actor → ℕ = λ x. if is_up x.node w && is_root x w then wakes_left s x w else 0 in
      let here : weight a ≡ wakes_left s a w = rw (up, root) refl in
      sum_by-positive weight a (seed_actors s) (row-among s.seeds [] a (omega (arith, some))) (omega (arith, some, here))

  no-wake : (a : Actor) → is_allowed s (events.Wake a) w ≡ true → ⊥
  no-wake a allowed =
      let facts = allowed-fits s (events.Wake a) w allowed in
      let both = and_parts (is_within_budget s w) (nat_lt 0 (wakes_left s a w)) facts.1 in
      let kept = first_broken-none (checks (cluster_of s) (events.Wake a) w) facts.2 in
      elim over.spent [
        | inl spent ↦ false≢true (sym spent ∙ both.0)
        | inr none ↦
            let some = wake-planned a (ltb-true 0 (wakes_left s a w) both.1) kept.1.0 kept.1.1.0 in
            let zero_left = none.1 in
            omega (arith, some, zero_left)
      ]

  no-take : (a : Actor) → is_allowed s (events.Take a) w ≡ true → ⊥
  no-take a allowed =
      let facts = allowed-fits s (events.Take a) w allowed in
      let kept = first_broken-none (checks (cluster_of s) (events.Take a) w) facts.2 in
      elim over.spent [
        | inl spent ↦ false≢true (sym spent ∙ facts.1)
        | inr none ↦
            let some = some_waits (waiting a w) kept.1.1.1.0 in
            let waits : IsAmong some.0 (waiting a w) = subst (IsAmong some.0) (sym some.2) (inl refl) in
            none.0 some.0 (waiting-live w a kept.1.0 some.0 waits).0
      ]

  no-busy : (a : Actor) → is_up a.node w ≡ true → is_busy a w ≡ true → ⊥
  no-busy a up busy = false≢true (sym (over.idle a up) ∙ busy)

  -- what is allowed next is calm
  pub only-calm : (e : Event) → crash_due s w ≡ None → is_allowed s e w ≡ true → is_calm e ≡ true
  only-calm (events.Seed n) none allowed = absurd (false≢true (allowed-fits s (events.Seed n) w allowed).1)
  only-calm (events.Tie a b) none allowed = absurd (false≢true (allowed-fits s (events.Tie a b) w allowed).1)
  only-calm (events.Wake a) none allowed = absurd (no-wake a allowed)
  only-calm (events.Take a) none allowed = absurd (no-take a allowed)
  only-calm (events.Spawn a) none allowed =
      let kept = first_broken-none (checks (cluster_of s) (events.Spawn a) w) (allowed-fits s (events.Spawn a) w allowed).2 in
      absurd (no-busy a kept.1.0 kept.1.1.0)
  only-calm (events.Send a t refs) none allowed =
      let rules = legal-send (cluster_of s) a t refs w ((allowed-fits s (events.Send a t refs) w allowed).2, legal) in
      absurd (no-busy a rules.up rules.busy)
  only-calm (events.Drop a t) none allowed =
      let kept = first_broken-none (checks (cluster_of s) (events.Drop a t) w) (allowed-fits s (events.Drop a t) w allowed).2 in
      absurd (no-busy a kept.1.1.0 kept.1.1.1.0)
  only-calm (events.Retire a) none allowed =
      let kept = first_broken-none (checks (cluster_of s) (events.Retire a) w) (allowed-fits s (events.Retire a) w allowed).2 in
      absurd (no-busy a kept.1.0 kept.1.1.1.0)
  only-calm (events.Rest a) none allowed =
      let kept = first_broken-none (checks (cluster_of s) (events.Rest a) w) (allowed-fits s (events.Rest a) w allowed).2 in
      absurd (no-busy a kept.1.0 kept.1.1.0)
  only-calm (events.Crash n) none allowed =
      absurd (false≢true (ap (is_on_time (events.Crash n)) (sym none) ∙ (allowed-fits s (events.Crash n) w allowed).0))
  only-calm e none allowed = refl

-- ---- an event, and what is added to it

flush-stays : (s : Scripted) (a : Actor) (w : List Event) (v : Bool) → IsLegal (cluster_of s) (events.Flush a ∷ w) → IsOver s (events.Flush a ∷ w) → MayFollow s (option_to_list (if v then Some (events.Publish a.node) else None)) (events.Flush a ∷ w)
    → is_over s (onto (events.Flush a ∷ w) (option_to_list (if v then Some (events.Publish a.node) else None))) ≡ true
flush-stays s a w false legal over follow = means-over s (events.Flush a ∷ w) legal refl over
flush-stays s a w true legal over follow =
    means-over s (events.Publish a.node ∷ events.Flush a ∷ w) (follow.0, legal) refl
    (calm-over s (events.Publish a.node) (events.Flush a ∷ w) (follow.0, legal) (calm s (events.Publish a.node) (events.Flush a ∷ w) refl) over)

added-stays : (s : Scripted) (e : Event) (w : List Event) → is_calm e ≡ true → IsLegal (cluster_of s) (e ∷ w) → crash_due s (e ∷ w) ≡ None → IsOver s (e ∷ w) → MayFollow s (option_to_list (added s e w)) (e ∷ w) → is_over s (onto (e ∷ w) (option_to_list (added s e w))) ≡ true
added-stays s (events.Flush a) w is legal none over follow = flush-stays s a w (queued a.node (events.Flush a ∷ w) == FLUSHES_PER_PUBLISH) legal over follow
added-stays s (events.Rest a) w is legal none over follow = absurd (false≢true is)
added-stays s e w is legal none over follow = means-over s (e ∷ w) legal none over

-- whatever is allowed leaves the run over
pub stays-over : (s : Scripted) (e : Event) (w : List Event) → IsLegal (cluster_of s) w → crash_due s w ≡ None → is_over s w ≡ true → is_allowed s e w ≡ true → MayFollow s (e ∷ option_to_list (added s e w)) w
    → is_over s (onto (e ∷ w) (option_to_list (added s e w))) ≡ true
stays-over s e w legal none over allowed follow =
    let means = over-means s w legal over in
    let is = only-calm s w legal means e none allowed in
    let c = calm s e w is in
    let more : IsLegal (cluster_of s) (e ∷ w) = (follow.0, legal) in
    added-stays s e w is more c.none_due (calm-over s e w more c means) follow.2
