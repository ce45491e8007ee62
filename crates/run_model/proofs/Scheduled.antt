-- The fixed schedule: it is legal, and it gives one history at most.
use Rattle.std.proofs.Common.{◌≡◌, ◌≤◌, ◌<◌, ◌==◌, ◌%◌, ℕ, zero, suc, Bool, true, false, cond, List, [], ◌∷◌, length, Option, Some, None, refl, sym, ◌∙◌, ap, subst, arith, inl, inr, ◌&&◌, if◌then◌else◌, nat_lt, not}
use Rattle.std.specs.List.{cons_option, filter_map, find, list_any}
use Rattle.std.specs.Option.{option_map}
use Rattle.std.proofs.lemmas.Bool.{and_parts, cases_lt, lt-ltb}
use Rattle.std.proofs.lemmas.Option.{none-some, same_Some}
use Rattle.crgc_ids.specs.Actor.{Actor}
use Rattle.crgc_ids.specs.Members.{IsAmong}
use Rattle.crgc_ids.specs.Nodes.{nodes_below}
use Rattle.history_model.specs.declared.events.Event.{Event}
use Rattle.history_model.specs.declared.events.Event.TheVariants.{Wake, Take, Rest, Admit, Lose, Repeat, Crash, Flush, Publish, Window, Remove, Hand, Sweep}
use Rattle.history_model.specs.Legal.{IsLegal, checks, refusal}
use Rattle.history_model.specs.Messages.{is_lose, is_repeat}
use Rattle.history_model.specs.State.{is_busy, is_up}
use Rattle.history_model.proofs.AccountsBirths.{born-on_node}
use Rattle.history_model.proofs.Basics.{legal-before, legal-kept, same_actor-refl}
use Rattle.history_model.proofs.Lists.{IsAmong-from_flat_map}
use Rattle.fault_plan.specs.Rows.{Planned, crash_of}
use Rattle.script_reader.specs.Valid.{Scripted}
use Rattle.run_model.specs.Doing.{beginning, cluster_of, doing}
use Rattle.run_model.specs.Planned.{carry, ended, ended_on, lowest_copy, has_row, is_within_budget, next_on_link, node_if, wakes_left, actors, is_possible}
use Rattle.run_model.specs.Follows.{Follows, IsClosing, IsUnfinished}
use Rattle.run_model.specs.Round.{round}
use Rattle.run_model.specs.Schedule.{IsDone, IsFixed, acts_of_turn, carries, crashed, ended_turn, next_turn, one_more, rounded, schedule, stays, whole_turn, woken_turn}
use Rattle.run_model.specs.declared.run_laws.TheConstants.{TURNS_PER_ROUND}
use Rattle.run_model.proofs.ActsLegal.{busy-born, none-broken}
use Rattle.run_model.proofs.Beginnings.{beginning-holds}
use Rattle.run_model.proofs.HeldNames.{IsDue}
use Rattle.run_model.proofs.RoundSteps.{IsKept, round-keeps}
use Rattle.run_model.proofs.Runs.{IsSound, run-sound, sound-next}
use Rattle.run_model.proofs.TurnsDone.{IsBusyIn, acts-done}
use Rattle.run_model.proofs.Possible.{possible-legal}

-- ---- it gives one history at most

-- once nothing is possible the history stays
pub done-stays : (s : Scripted) (k m : ℕ) → k ≤ m → IsDone s k → schedule s m ≡ schedule s k
done-stays s k zero le done = (let same : zero ≡ k = omega (arith, le) in ap (schedule s) same)
done-stays s k (suc m) le done =
    elim (cases_lt m k) [
      | inl last ↦ (let same : suc m ≡ k = omega (arith, le, last) in ap (schedule s) same)
      | inr before ↦ (
          let same = done-stays s k m before done in
          ap (λ h. stays (one_more s h) h) same ∙ ap (λ o. stays o (schedule s k)) done)
    ]

pub fixed-unique : (s : Scripted) (h g : List Event) → IsFixed s h → IsFixed s g → h ≡ g
fixed-unique s h g one other =
    let same : schedule s one.0 ≡ schedule s other.0 = elim (cases_lt one.0 other.0) [
      | inl less ↦ sym (done-stays s one.0 other.0 (omega (arith, less)) one.1)
      | inr more ↦ done-stays s other.0 one.0 more other.1
    ] in
    one.2 ∙ ap (round (cluster_of s)) same ∙ sym other.2

-- ---- it is sound

-- what is found passes the test, and is one of the list
found : {X : Type 0} (test : X → Bool) (xs : List X) (x : X) → find test xs ≡ Some x → (test x ≡ true) × IsAmong x xs
found test [] x e = absurd (none-some x e)
found test (y ∷ xs) x e =
    elim (test y) as (λ v. test y ≡ v → cond v (Some y) (find test xs) ≡ Some x → (test x ≡ true) × IsAmong x (y ∷ xs)) [
      | true ↦ λ passes here. (let same = same_Some y x here in (subst (λ z. test z ≡ true) same passes, inl (sym same)))
      | false ↦ λ _ later. (let rest = found test xs x later in (rest.0, inr rest.1))
    ] refl e

module _ {X Y : Type 0} (f : X → Option Y) (y : Y) where
  one-of : (x : X) (z : Y) (ys : List Y) → f x ≡ Some z → (IsAmong y ys → (x : X) × (f x ≡ Some y)) → IsAmong y (z ∷ ys) → (x : X) × (f x ≡ Some y)
  one-of x z ys first rest (inl same) = (x, first ∙ ap (λ w. Some w) (sym same))
  one-of x z ys first rest (inr later) = rest later

  among-filter_map : (xs : List X) → IsAmong y (filter_map f xs) → (x : X) × (f x ≡ Some y)
  among-filter_map [] among = absurd among
  among-filter_map (x ∷ xs) among =
      elim (f x) as (λ v. f x ≡ v → IsAmong y (cons_option v (filter_map f xs)) → (x : X) × (f x ≡ Some y)) [
        | None ↦ λ _ later. among-filter_map xs later
        | Some z ↦ λ first there. one-of x z (filter_map f xs) first (λ later. among-filter_map xs later) there
      ] refl among

-- what happens to a copy is no act
carry-due : (s : Scripted) (f d k : ℕ) (h g : List Event) → IsDue s (carry s f d k h) g
carry-due s f d k h g =
    let plan : Planned = s.plan in
    let repeats = has_row f d k plan.repeats && not (list_any (is_repeat f d k) h) in
    let loses = has_row f d k plan.losses && not (list_any (is_lose f d k) h) in
    elim repeats as (λ v. IsDue s (if v then Repeat f d k else if loses then Lose f d k else Admit f d k) g) [
      | true ↦ tt
      | false ↦ elim loses as (λ v. IsDue s (if v then Lose f d k else Admit f d k) g) [ true ↦ tt | false ↦ tt ]
    ]

carries-due : (s : Scripted) (e : Event) (h : List Event) → IsAmong e (carries s h) → IsDue s e h
carries-due s e h among =
    let source = IsAmong-from_flat_map (λ f. filter_map (λ d. next_on_link s f d h) (nodes_below s.nodes)) e (nodes_below s.nodes) among in
    let f = source.0 in
    let link = among-filter_map (λ d. next_on_link s f d h) e (nodes_below s.nodes) source.2 in
    let d = link.0 in
    elim (lowest_copy f d h) as (λ v. option_map (λ k. carry s f d k h) v ≡ Some e → IsDue s e h) [
      | None ↦ λ none. absurd (none-some e none)
      | Some k ↦ λ some. subst (λ x. IsDue s x h) (same_Some (carry s f d k h) e some) (carry-due s f d k h h)
    ] link.1

module _ (s : Scripted) where
  sound-kept : IsKept (cluster_of s) (IsSound s)
  sound-kept = record {
    remove = λ m n h none sound. sound-next s (Remove m n) h sound none tt;
    window = λ m n h none sound. sound-next s (Window m n) h sound none tt;
    flush = λ a h none sound. sound-next s (Flush a) h sound none tt;
    publish = λ m h none sound. sound-next s (Publish m) h sound none tt;
    hand = λ m o k h none sound. sound-next s (Hand m o k) h sound none tt;
  }

  pub round-sound : (h : List Event) → IsSound s h → IsSound s (round (cluster_of s) h)
  round-sound = round-keeps (IsSound s) (cluster_of s) sound-kept (λ m h none sound. sound-next s (Sweep m) h sound none tt)

  -- a turn begins
  pub take-busy : (a : Actor) (h : List Event) → IsSound s h → refusal (cluster_of s) (Take a) h ≡ None → IsBusyIn s a (Take a ∷ h)
  take-busy a h sound none =
      (sound-next s (Take a) h sound none tt, ap (λ v. if v then true else is_busy a h) (same_actor-refl a), (legal-kept (cluster_of s) (Take a) h (none, sound.0)).1.0)

  pub wake-busy : (a : Actor) (h : List Event) → IsSound s h → refusal (cluster_of s) (Wake a) h ≡ None → IsBusyIn s a (Wake a ∷ h)
  wake-busy a h sound none =
      (sound-next s (Wake a) h sound none tt, ap (λ v. if v then true else is_busy a h) (same_actor-refl a), (legal-kept (cluster_of s) (Wake a) h (none, sound.0)).1.0)

  -- and is done whole
  pub crash-sound : (a : Actor) (planned : Option ℕ) (turns : ℕ) (h : List Event) → IsSound s h → a.node < s.nodes → is_up a.node h ≡ true → IsSound s (crashed (node_if planned a.node turns) h)
  crash-sound a None turns h sound node up = sound
  crash-sound a (Some after) turns h sound node up =
      elim (after == turns) as (λ v. IsSound s (crashed (if v then Some a.node else None) h)) [
        | true ↦ sound-next s (Crash a.node) h sound (none-broken (checks (cluster_of s) (Crash a.node) h) (lt-ltb a.node s.nodes node, (up, tt))) tt
        | false ↦ sound
      ]

  rounded-sound : (turns : ℕ) (h : List Event) → IsSound s h → IsSound s (rounded s turns h)
  rounded-sound turns h sound =
      elim (turns % TURNS_PER_ROUND == 0) as (λ v. IsSound s (elim v as (λ _. List Event) [ true ↦ round (cluster_of s) h | false ↦ h ])) [ true ↦ round-sound h sound | false ↦ sound ]

  rest-sound : (a : Actor) (h : List Event) → IsBusyIn s a h → IsSound s (ended_turn s (Rest a ∷ h))
  rest-sound a h busy =
      let cl = cluster_of s in
      let plan : Planned = s.plan in
      let born = busy-born cl h busy.0.0 a busy.1 in
      let rest = sound-next s (Rest a) h busy.0 (none-broken (checks cl (Rest a) h) (born, (busy.2, (busy.1, tt)))) tt in
      rounded-sound (ended (Rest a ∷ h)) _ (crash-sound a (crash_of a.node plan.crashes) (ended_on a.node (Rest a ∷ h)) (Rest a ∷ h) rest (born-on_node cl h busy.0.0 a born) busy.2)

  whole-sound : (a : Actor) (h : List Event) → IsBusyIn s a h → IsSound s (whole_turn s a h)
  whole-sound a h busy =
      let d = doing s a h in
      let l = d.turn in
      rest-sound a _ (acts-done s a (acts_of_turn a l h) h (length l.instrs) busy (omega arith) refl)

  woken-sound : (h : List Event) → IsSound s h → IsSound s (stays (woken_turn s h) h)
  woken-sound h sound =
      let test = λ (a : Actor). nat_lt 0 (wakes_left s a h) && is_possible s (Wake a) h in
      elim (find test (actors s h)) as (λ v. find test (actors s h) ≡ v → IsSound s (stays (option_map (λ a. whole_turn s a (Wake a ∷ h)) v) h)) [
        | None ↦ λ _. sound
        | Some a ↦ λ some.
            let possible = (and_parts (nat_lt 0 (wakes_left s a h)) (is_possible s (Wake a) h) (found test (actors s h) a some).0).1 in
            whole-sound a (Wake a ∷ h) (wake-busy a h sound (possible-legal s (Wake a) h possible))
      ] refl

  turn-sound : (h : List Event) → IsSound s h → IsSound s (stays (next_turn s h) h)
  turn-sound h sound =
      let test = λ (a : Actor). is_possible s (Take a) h in
      elim (find test (actors s h)) as (λ v. find test (actors s h) ≡ v → IsSound s (stays (elim v as (λ _. Option (List Event)) [ Some a ↦ Some (whole_turn s a (Take a ∷ h)) | None ↦ woken_turn s h ]) h)) [
        | None ↦ λ _. woken-sound h sound
        | Some a ↦ λ some. whole-sound a (Take a ∷ h) (take-busy a h sound (possible-legal s (Take a) h (found test (actors s h) a some).0))
      ] refl

  more-sound : (h : List Event) → IsSound s h → IsSound s (stays (one_more s h) h)
  more-sound h sound =
      let test = λ (e : Event). is_possible s e h in
      let within = λ (v : Bool). elim v as (λ _. Option (List Event)) [ true ↦ next_turn s h | false ↦ None ] in
      elim (find test (carries s h)) as (λ v. find test (carries s h) ≡ v → IsSound s (stays (elim v as (λ _. Option (List Event)) [ Some e ↦ Some (e ∷ h) | None ↦ within (is_within_budget s h) ]) h)) [
        | None ↦ λ _. elim (is_within_budget s h) as (λ v. IsSound s (stays (within v) h)) [ true ↦ turn-sound h sound | false ↦ sound ]
        | Some e ↦ λ some.
            let there = found test (carries s h) e some in
            sound-next s e h sound (possible-legal s e h there.0) (carries-due s e h there.1)
      ] refl

  pub schedule-sound : IsLegal (cluster_of s) (beginning s) → (k : ℕ) → IsSound s (schedule s k)
  schedule-sound legal zero = (legal, beginning-holds s)
  schedule-sound legal (suc k) = more-sound (schedule s k) (schedule-sound legal k)

  pub fixed-sound : IsLegal (cluster_of s) (beginning s) → (h : List Event) → IsFixed s h → IsSound s h
  fixed-sound legal h fixed = subst (IsSound s) (sym fixed.2) (round-sound (schedule s fixed.0) (schedule-sound legal fixed.0))

-- ---- runs

closing-legal : (s : Scripted) (h : List Event) → IsLegal (cluster_of s) (beginning s) → IsClosing s h → IsLegal (cluster_of s) h
closing-legal s h legal closing =
    let p = closing.0 in
    let run = run-sound s p legal closing.3 in
    legal-before (cluster_of s) closing.2 h (subst (IsLegal (cluster_of s)) closing.6 (round-sound s p run).0)

pub unfinished-legal : (s : Scripted) (h : List Event) → IsLegal (cluster_of s) (beginning s) → IsUnfinished s h → IsLegal (cluster_of s) h
unfinished-legal s h legal (inl run) = (run-sound s h legal run).0
unfinished-legal s h legal (inr closing) = closing-legal s h legal closing

pub follows-legal : (s : Scripted) (h : List Event) → IsLegal (cluster_of s) (beginning s) → Follows s h → IsLegal (cluster_of s) h
follows-legal s h legal follows = subst (IsLegal (cluster_of s)) (sym follows.3) (round-sound s follows.0 (run-sound s follows.0 legal follows.1)).0
