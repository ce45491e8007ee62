-- Between two things of the fixed schedule no actor is in a turn.
use Rattle.std.proofs.Common.{◌≡◌, ◌%◌, ◌==◌, ◌&&◌, ℕ, zero, suc, Bool, true, false, not, if◌then◌else◌, List, [], ◌∷◌, map, option_to_list, Option, Some, None, refl, sym, ◌∙◌, ap, subst}
use Rattle.std.specs.List.{filter_map, find, list_any}
use Rattle.std.specs.Option.{option_map}
use Rattle.std.proofs.lemmas.Option.{none-some}
use Rattle.crgc_ids.specs.Actor.{Actor, same_actor}
use Rattle.crgc_ids.specs.Nodes.{nodes_below}
use Rattle.history_model.specs.declared.events.Event.{Event}
use Rattle.history_model.specs.declared.events.Event.TheVariants.{Admit, Lose, Repeat, Seed, Take, Wake}
use Rattle.history_model.specs.Cluster.{Cluster}
use Rattle.history_model.specs.Messages.{is_lose, is_repeat}
use Rattle.history_model.specs.Rows.{onto}
use Rattle.history_model.specs.State.{is_busy}
use Rattle.behaviour_lang.specs.declared.act.Act.{Act}
use Rattle.behaviour_lang.specs.declared.act.Act.TheVariants as acts
use Rattle.fault_plan.specs.Rows.{Planned}
use Rattle.script_reader.specs.Valid.{Scripted}
use Rattle.script_reader.specs.declared.script.Seed.{Seed as SeedRow}
use Rattle.script_reader.specs.declared.script.Tie.{Tie as TieRow}
use Rattle.run_model.specs.Doing.{beginning, cluster_of, doing, event_of, tie_of}
use Rattle.run_model.specs.Planned.{actors, carry, crash_due, ended, has_row, is_possible, is_within_budget, lowest_copy, next_on_link, next_wake}
use Rattle.run_model.specs.Round.{round}
use Rattle.run_model.specs.Schedule.{acts_of_turn, carries, crashed, next_turn, one_more, rounded, schedule, stays, turn_done, whole_turn, woken_turn}
use Rattle.run_model.specs.declared.run_laws.TheConstants.{TURNS_PER_ROUND}
use Rattle.run_model.proofs.RoundSteps.{IsKept, round-keeps}
use Rattle.run_model.proofs.TurnsDone.{act_events}
use Rattle.script_player.specs.declared.driver.Driver.{Driver}
use Rattle.script_player.specs.Making.{IsCarriedNext}
use Rattle.script_player.specs.Standing.{IsBetween}
use Rattle.script_player.proofs.Searching.{filter_map-joined, found-in, found-one}

-- no actor is in a turn
abbrev IsIdle : List Event → Type 0
IsIdle h = (a : Actor) → is_busy a h ≡ false

-- the event leaves every actor as busy as before
abbrev LeavesBusy : Event → Type 0
LeavesBusy e = (a : Actor) (h : List Event) → is_busy a (e ∷ h) ≡ is_busy a h

-- ---- at the beginning

seeds-idle : (rows : List SeedRow) (h : List Event) → IsIdle h → IsIdle (onto h (map (λ (x : SeedRow). Seed x.node) rows))
seeds-idle [] h idle = idle
seeds-idle (x ∷ rows) h idle = seeds-idle rows (Seed x.node ∷ h) idle

ties-idle : (s : Scripted) (rows : List TieRow) (h : List Event) → IsIdle h → IsIdle (onto h (map (tie_of s) rows))
ties-idle s [] h idle = idle
ties-idle s (t ∷ rows) h idle = ties-idle s rows (tie_of s t ∷ h) idle

beginning-idle : (s : Scripted) → IsIdle (beginning s)
beginning-idle s = ties-idle s s.ties (onto [] (map (λ (x : SeedRow). Seed x.node) s.seeds)) (seeds-idle s.seeds [] (λ a. refl))

-- ---- what is carried

carry-leaves : (s : Scripted) (f d k : ℕ) (h : List Event) → LeavesBusy (carry s f d k h)
carry-leaves s f d k h =
    let plan : Planned = s.plan in
    let repeats = has_row f d k plan.repeats && not (list_any (is_repeat f d k) h) in
    let loses = has_row f d k plan.losses && not (list_any (is_lose f d k) h) in
    elim repeats as (λ v. LeavesBusy (if v then Repeat f d k else if loses then Lose f d k else Admit f d k)) [
      | true ↦ λ a g. refl
      | false ↦ elim loses as (λ v. LeavesBusy (if v then Lose f d k else Admit f d k)) [ true ↦ λ a g. refl | false ↦ λ a g. refl ]
    ]

module _ (s : Scripted) (h : List Event) where
  abbrev may_come : Event → Bool
  may_come e = is_possible s e h

  link-leaves : (f d : ℕ) (e : Event) → find may_come (option_to_list (next_on_link s f d h)) ≡ Some e → LeavesBusy e
  link-leaves f d e =
      elim (lowest_copy f d h) as (λ v. find may_come (option_to_list (option_map (λ k. carry s f d k h) v)) ≡ Some e → LeavesBusy e) [
        | None ↦ λ none. absurd (none-some e none)
        | Some k ↦ λ found. subst LeavesBusy (found-one may_come (carry s f d k h) e found) (carry-leaves s f d k h)
      ]

  carried-leaves : (e : Event) → IsCarriedNext s e h → LeavesBusy e
  carried-leaves =
      found-in may_come (λ f. filter_map (λ d. next_on_link s f d h) (nodes_below s.nodes)) LeavesBusy
      (λ f e found. found-in may_come (λ d. option_to_list (next_on_link s f d h)) LeavesBusy (link-leaves f) (nodes_below s.nodes) e
      (ap (find may_come) (sym (filter_map-joined (λ d. next_on_link s f d h) (nodes_below s.nodes))) ∙ found))
      (nodes_below s.nodes)

-- ---- a whole turn

act-leaves : (a : Actor) (act : Act) → LeavesBusy (event_of a (Some act))
act-leaves a (acts.Spawn b) = λ c h. refl
act-leaves a (acts.Send to refs) = λ c h. refl
act-leaves a (acts.Drop target) = λ c h. refl
act-leaves a acts.Retire = λ c h. refl

acts-leave : (a b : Actor) (made : List Act) (h : List Event) → is_busy b (onto h (act_events a made)) ≡ is_busy b h
acts-leave a b [] h = refl
acts-leave a b (act ∷ made) h = acts-leave a b made (event_of a (Some act) ∷ h) ∙ act-leaves a act b h

-- the event begins a turn of a
abbrev Begins : Actor → Event → List Event → Type 0
Begins a e h = (b : Actor) → is_busy b (e ∷ h) ≡ (if same_actor a b then true else is_busy b h)

done-idle : (s : Scripted) (a : Actor) (e : Event) (h : List Event) → Begins a e h → IsIdle h → IsIdle (turn_done s a (e ∷ h))
done-idle s a e h begins idle b =
    let d = doing s a (e ∷ h) in
    let made = acts_of_turn a d.turn (e ∷ h) in
    elim (same_actor a b) as (λ v. same_actor a b ≡ v → (if v then false else is_busy b (onto (e ∷ h) (act_events a made))) ≡ false) [
      | true ↦ λ _. refl
      | false ↦ λ other. acts-leave a b made (e ∷ h) ∙ begins b ∙ ap (λ v. if v then true else is_busy b h) other ∙ idle b
    ] refl

crashed-idle : (due : Option ℕ) (h : List Event) → IsIdle h → IsIdle (crashed due h)
crashed-idle None h idle = idle
crashed-idle (Some n) h idle = idle

kept-idle : (cl : Cluster) → IsKept cl IsIdle
kept-idle cl = record {
  remove = λ _ _ _ _ idle. idle;
  window = λ _ _ _ _ idle. idle;
  flush = λ _ _ _ idle. idle;
  publish = λ _ _ _ idle. idle;
  hand = λ _ _ _ _ _ idle. idle;
}

rounded-idle : (s : Scripted) (turns : ℕ) (h : List Event) → IsIdle h → IsIdle (rounded s turns h)
rounded-idle s turns h idle =
    elim (turns % TURNS_PER_ROUND == 0) as (λ v. IsIdle (elim v as (λ _. List Event) [ true ↦ round (cluster_of s) h | false ↦ h ])) [
      | true ↦ round-keeps IsIdle (cluster_of s) (kept-idle (cluster_of s)) (λ _ _ _ idle. idle) h idle
      | false ↦ idle
    ]

whole-idle : (s : Scripted) (a : Actor) (e : Event) (h : List Event) → Begins a e h → IsIdle h → IsIdle (whole_turn s a (e ∷ h))
whole-idle s a e h begins idle =
    let done = turn_done s a (e ∷ h) in
    rounded-idle s (ended done) (crashed (crash_due s done) done) (crashed-idle (crash_due s done) done (done-idle s a e h begins idle))

-- ---- one thing more

module _ (s : Scripted) (h : List Event) (idle : IsIdle h) where
  woken-idle : IsIdle (stays (woken_turn s h) h)
  woken-idle =
      elim (next_wake s h) as (λ v. IsIdle (stays (option_map (λ a. whole_turn s a (Wake a ∷ h)) v) h)) [
        | None ↦ idle
        | Some a ↦ whole-idle s a (Wake a) h (λ b. refl) idle
      ]

  turn-idle : IsIdle (stays (next_turn s h) h)
  turn-idle =
      let taken = λ (v : Option Actor). elim v as (λ _. Option (List Event)) [ Some a ↦ Some (whole_turn s a (Take a ∷ h)) | None ↦ woken_turn s h ] in
      elim (find (λ a. is_possible s (Take a) h) (actors s h)) as (λ v. IsIdle (stays (taken v) h)) [
        | None ↦ woken-idle
        | Some a ↦ whole-idle s a (Take a) h (λ b. refl) idle
      ]

  more-idle : IsIdle (stays (one_more s h) h)
  more-idle =
      let test = λ (e : Event). is_possible s e h in
      let within = λ (v : Bool). elim v as (λ _. Option (List Event)) [ true ↦ next_turn s h | false ↦ None ] in
      let carried = λ (v : Option Event). elim v as (λ _. Option (List Event)) [ Some e ↦ Some (e ∷ h) | None ↦ within (is_within_budget s h) ] in
      elim (find test (carries s h)) as (λ v. find test (carries s h) ≡ v → IsIdle (stays (carried v) h)) [
        | None ↦ λ _. elim (is_within_budget s h) as (λ v. IsIdle (stays (within v) h)) [ true ↦ turn-idle | false ↦ idle ]
        | Some e ↦ λ next. λ a. carried-leaves s h e next a h ∙ idle a
      ] refl

schedule-idle : (s : Scripted) (k : ℕ) → IsIdle (schedule s k)
schedule-idle s zero = beginning-idle s
schedule-idle s (suc k) = more-idle s (schedule s k) (schedule-idle s k)

pub between-idle : (d : Driver) (a : Actor) → IsBetween d → is_busy a d.course.past ≡ false
between-idle d a (stands, (k, made)) = subst (λ h. is_busy a h ≡ false) made (schedule-idle d.script.value k a)
