-- What comes next in the fixed schedule, and how a whole turn is put together.
use Rattle.std.proofs.Common.{◌≡◌, ◌%◌, ◌==◌, ◌<◌, ◌≤◌, ℕ, suc, Bool, true, false, List, [], ◌∷◌, length, Option, Some, None, refl, sym, ◌∙◌, ap, arith}
use Rattle.std.specs.List.{find}
use Rattle.std.specs.Option.{option_map}
use Rattle.std.proofs.lemmas.List.{length-append}
use Rattle.crgc_ids.specs.Actor.{Actor}
use Rattle.history_model.specs.declared.events.Event.{Event}
use Rattle.history_model.specs.declared.events.Event.TheVariants.{Wake, Take, Rest, Crash}
use Rattle.history_model.specs.Cluster.{Cluster}
use Rattle.script_reader.specs.Valid.{Scripted}
use Rattle.run_model.specs.Doing.{cluster_of, doing}
use Rattle.run_model.specs.Planned.{actors, crash_due, ended, is_possible, is_within_budget, next_wake}
use Rattle.run_model.specs.Round.{round}
use Rattle.run_model.specs.Schedule.{IsWithinLimits, acts_of_turn, crashed, ended_turn, next_turn, one_more, rounded, schedule, stays, turn_done, whole_turn, woken_turn}
use Rattle.run_model.specs.declared.run_laws.TheConstants.{TURNS_PER_ROUND}
use Rattle.run_model.proofs.RoundQuiet.{round-more}
use Rattle.run_model.proofs.TurnsDone.{act_events}
use Rattle.true_config.proofs.Growing.{passes-none}
use Rattle.script_player.specs.Making.{IsCarriedNext, NothingCarried}
use Rattle.run_model.proofs.FirstLimits.{IsLonger, longer-again, onto-longer}

-- ---- one thing more

module _ (s : Scripted) (h : List Event) where
  -- within the budget a turn
  abbrev if_within : Bool → Option (List Event)
  if_within v = elim v as (λ _. Option (List Event)) [ true ↦ next_turn s h | false ↦ None ]

  -- what is carried, or else a turn
  abbrev if_carried : Option Event → Option (List Event)
  if_carried v = elim v as (λ _. Option (List Event)) [ Some e ↦ Some (e ∷ h) | None ↦ if_within (is_within_budget s h) ]

  -- a take, or else a wake
  abbrev if_taken : Option Actor → Option (List Event)
  if_taken v = elim v as (λ _. Option (List Event)) [ Some a ↦ Some (whole_turn s a (Take a ∷ h)) | None ↦ woken_turn s h ]

  pub one-carried : (e : Event) → IsCarriedNext s e h → one_more s h ≡ Some (e ∷ h)
  one-carried e next = ap if_carried next

  turned : NothingCarried s h → is_within_budget s h ≡ true → one_more s h ≡ next_turn s h
  turned carried within = ap if_carried carried ∙ ap if_within within

  pub one-taken : NothingCarried s h → is_within_budget s h ≡ true → (a : Actor) → find (λ a. is_possible s (Take a) h) (actors s h) ≡ Some a → one_more s h ≡ Some (whole_turn s a (Take a ∷ h))
  one-taken carried within a first = turned carried within ∙ ap if_taken first

  pub one-woken : NothingCarried s h → is_within_budget s h ≡ true → find (λ a. is_possible s (Take a) h) (actors s h) ≡ None → (a : Actor) → next_wake s h ≡ Some a → one_more s h ≡ Some (whole_turn s a (Wake a ∷ h))
  one-woken carried within none a next = turned carried within ∙ ap if_taken none ∙ ap (option_map (λ a. whole_turn s a (Wake a ∷ h))) next

  pub none-woken : NothingCarried s h → is_within_budget s h ≡ true → find (λ a. is_possible s (Take a) h) (actors s h) ≡ None → next_wake s h ≡ None → one_more s h ≡ None
  none-woken carried within none next = turned carried within ∙ ap if_taken none ∙ ap (option_map (λ a. whole_turn s a (Wake a ∷ h))) next

  -- the schedule makes it
  pub schedule-next : (k : ℕ) (g : List Event) → schedule s k ≡ h → one_more s h ≡ Some g → schedule s (suc k) ≡ g
  schedule-next k g made more = ap (λ x. stays (one_more s x) x) made ∙ ap (λ o. stays o h) more

-- ---- a whole turn

pub longer-length : (p h : List Event) → IsLonger p h → length p ≤ length h
longer-length p h (q, more) = (let sum = ap length more ∙ length-append q p in omega (arith, sum))

module _ (s : Scripted) where
  pub rounded-longer : (turns : ℕ) (h : List Event) → IsLonger h (rounded s turns h)
  rounded-longer turns h =
      elim (turns % TURNS_PER_ROUND == 0) as (λ v. IsLonger h (elim v as (λ _. List Event) [ true ↦ round (cluster_of s) h | false ↦ h ])) [
        | true ↦ (let more = round-more (cluster_of s) h in (more.0, more.1))
        | false ↦ ([], refl)
      ]

  crashed-longer : (due : Option ℕ) (h : List Event) → IsLonger h (crashed due h)
  crashed-longer None h = ([], refl)
  crashed-longer (Some n) h = (Crash n ∷ [], refl)

  pub ended-longer : (h : List Event) → IsLonger h (ended_turn s h)
  ended-longer h = longer-again h (crashed (crash_due s h) h) (ended_turn s h) (crashed-longer (crash_due s h) h) (rounded-longer (ended h) (crashed (crash_due s h) h))

  -- the whole turn goes on from its acts
  pub whole-longer : (a : Actor) (h : List Event) → IsLonger (turn_done s a h) (whole_turn s a h)
  whole-longer a h = ended-longer (turn_done s a h)

  -- and from its beginning
  pub whole-begun : (a : Actor) (e : Event) (h : List Event) → IsLonger (e ∷ h) (whole_turn s a (e ∷ h))
  whole-begun a e h =
      let d = doing s a (e ∷ h) in
      let acts = onto-longer (e ∷ h) (act_events a (acts_of_turn a d.turn (e ∷ h))) in
      let done : IsLonger (e ∷ h) (turn_done s a (e ∷ h)) = (Rest a ∷ acts.0, ap (λ x. Rest a ∷ x) acts.1) in
      longer-again (e ∷ h) (turn_done s a (e ∷ h)) (whole_turn s a (e ∷ h)) done (whole-longer a (e ∷ h))

  pub whole-more : (a : Actor) (e : Event) (h : List Event) → length h < length (whole_turn s a (e ∷ h))
  whole-more a e h = (let all = longer-length (e ∷ h) (whole_turn s a (e ∷ h)) (whole-begun a e h) in omega (arith, all))

  -- a crash ends no turn
  ended-crashed : (due : Option ℕ) (h : List Event) → ended (crashed due h) ≡ ended h
  ended-crashed None h = refl
  ended-crashed (Some n) h = refl

  -- after the crash, the round is that of the history with it
  pub ended-is : (h : List Event) → ended_turn s h ≡ rounded s (ended (crashed (crash_due s h) h)) (crashed (crash_due s h) h)
  ended-is h = ap (λ n. rounded s n (crashed (crash_due s h) h)) (sym (ended-crashed (crash_due s h) h))

-- ---- limits

-- a history that passes no limit has 1,000,000 events at most
pub within-short : (cl : Cluster) (h : List Event) → IsWithinLimits cl h → length h ≤ 1000000
within-short cl [] within = omega arith
within-short cl (e ∷ p) within = (let few = (passes-none cl e p within.0).events in omega (arith, few))
