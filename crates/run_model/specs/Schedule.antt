-- The fixed schedule: the one history that a script has where one turn is done after the other.
use Rattle.std.specs.Prelude.{ℕ, zero, suc, ◌≡◌, ◌⊎◌, ◌%◌, ◌==◌, true, false, List, [], ◌∷◌, ◌++◌, length, map, flat_map, Option, Some, None}
use Rattle.std.specs.List.{filter_map, find, range_with_len}
use Rattle.std.specs.Option.{option_map}
use Rattle.crgc_ids.specs.Actor.{Actor}
use Rattle.crgc_ids.specs.Nodes.{nodes_below}
use Rattle.crgc_ids.specs.declared.Which.{Which}
use Rattle.history_model.specs.declared.events.Event.{Event}
use Rattle.history_model.specs.declared.events.Event.TheVariants.{Wake, Take, Rest, Crash}
use Rattle.history_model.specs.Cluster.{Cluster, births}
use Rattle.history_model.specs.Rows.{onto}
use Rattle.journal_model.specs.Limits.{limit_passed}
use Rattle.behaviour_lang.specs.Steps.{Left, visible, whole}
use Rattle.behaviour_lang.specs.declared.act.Act.{Act}
use Rattle.script_reader.specs.Valid.{Scripted}
use Rattle.run_model.specs.Doing.{beginning, cluster_of, doing, due, event_of}
use Rattle.run_model.specs.Planned.{actors, crash_due, ended, is_possible, is_rest, is_within_budget, next_on_link, next_wake}
use Rattle.run_model.specs.Round.{round}
use Rattle.run_model.specs.declared.run_laws.TheConstants.{TURNS_PER_ROUND}

-- what is next on each link, by source and then by destination
abbrev pub carries : Scripted → List Event → List Event
carries s h = flat_map (λ f. filter_map (λ d. next_on_link s f d h) (nodes_below s.nodes)) (nodes_below s.nodes)

-- so many actors that are born next on a's node
abbrev pub children : Actor → ℕ → List Event → List Actor
children a k h = map (λ i. record { node = a.node; serial = i }) (range_with_len (births a.node h) k)

-- the acts of the whole turn that a has begun; each instruction has a child at hand
abbrev pub acts_of_turn : Actor → Left → List Event → List Act
acts_of_turn a l h = (let o = visible (whole l (children a (length l.instrs) h)) in o.0)

-- a does these acts, and rests
abbrev pub turn_done : Scripted → Actor → List Event → List Event
turn_done s a h = (let d = doing s a h in Rest a ∷ onto h (map (λ act. event_of a (Some act)) (acts_of_turn a d.turn h)))

-- the events q, newest first, are acts of a that were due, one after another, from h on
abbrev pub AreDue : Scripted → Actor → List Event → List Event → Type 0
AreDue s a [] h = Unit {0}
AreDue s a (e ∷ q) h = (e ≡ due s a (q ++ h)) × (is_rest e ≡ false) × AreDue s a q h

-- the crash that is due comes with the end of the turn, and a round after every 64th turn that ended
abbrev pub crashed : Option ℕ → List Event → List Event
crashed None h = h
crashed (Some n) h = Crash n ∷ h

abbrev pub rounded : Scripted → ℕ → List Event → List Event
rounded s turns h =
    elim (turns % TURNS_PER_ROUND == 0) as (λ _. List Event) [ true ↦ round (cluster_of s) h | false ↦ h ]

abbrev pub ended_turn : Scripted → List Event → List Event
ended_turn s h = rounded s (ended h) (crashed (crash_due s h) h)

-- a turn that has begun is done whole
abbrev pub whole_turn : Scripted → Actor → List Event → List Event
whole_turn s a h = ended_turn s (turn_done s a h)

-- the whole turn of the planned wake
abbrev pub woken_turn : Scripted → List Event → Option (List Event)
woken_turn s h = option_map (λ a. whole_turn s a (Wake a ∷ h)) (next_wake s h)

-- the whole turn of the lowest actor that may take a message, else that of the planned wake
abbrev pub next_turn : Scripted → List Event → Option (List Event)
next_turn s h =
    elim (find (λ a. is_possible s (Take a) h) (actors s h)) as (λ _. Option (List Event)) [
      | Some a ↦ Some (whole_turn s a (Take a ∷ h))
      | None ↦ woken_turn s h
    ]

-- one thing more: what is next on the lowest link where it is possible, else, within the budget, a turn
abbrev pub one_more : Scripted → List Event → Option (List Event)
one_more s h =
    elim (find (λ e. is_possible s e h) (carries s h)) as (λ _. Option (List Event)) [
      | Some e ↦ Some (e ∷ h)
      | None ↦ elim (is_within_budget s h) as (λ _. Option (List Event)) [ true ↦ next_turn s h | false ↦ None ]
    ]

-- where nothing is possible the history stays
abbrev pub stays : Option (List Event) → List Event → List Event
stays None h = h
stays (Some more) h = more

-- the history after so many things
abbrev pub schedule : Scripted → ℕ → List Event
schedule s zero = beginning s
schedule s (suc k) = stays (one_more s (schedule s k)) (schedule s k)

-- nothing is possible after so many things
abbrev pub IsDone : Scripted → ℕ → Type 0
IsDone s k = one_more s (schedule s k) ≡ None

-- the history that the fixed schedule gives: once nothing is possible, one more round closes it
abbrev pub IsFixed : Scripted → List Event → Type 0
IsFixed s h = (k : ℕ) × IsDone s k × (h ≡ round (cluster_of s) (schedule s k))

-- the fixed schedule makes the event e after the history p
abbrev pub Makes : Scripted → Event → List Event → Type 0
Makes s e p =
    (k : ℕ) × (later : List Event)
    × ((schedule s k ≡ later ++ e ∷ p) ⊎ (IsDone s k × (round (cluster_of s) (schedule s k) ≡ later ++ e ∷ p)))

-- no event of the history passes a limit
abbrev pub IsWithinLimits : Cluster → List Event → Type 0
IsWithinLimits cl [] = Unit {0}
IsWithinLimits cl (e ∷ p) = (limit_passed cl e p ≡ None) × IsWithinLimits cl p

-- the first limit that the fixed schedule passes, and the history before
abbrev pub IsFirstLimit : Scripted → List Event → Which → Type 0
IsFirstLimit s p w = (e : Event) × Makes s e p × IsWithinLimits (cluster_of s) p × (limit_passed (cluster_of s) e p ≡ Some w)
