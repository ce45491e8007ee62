-- What a script plans, and how much of it a history has used: turns, wakes, crashes, and copies lost and doubled; and what is
-- possible next.
use Rattle.std.specs.Prelude.{ℕ, ◌-◌, ◌==◌, ◌&&◌, Bool, true, false, not, if◌then◌else◌, nat_lt, List, [], ◌∷◌, length, Option, Some, None, flat_map, is_none}
use Rattle.std.specs.List.{find, list_any, range_with_len, sum_by}
use Rattle.std.specs.Option.{option_map}
use Rattle.crgc_ids.specs.Actor.{Actor, same_actor}
use Rattle.crgc_ids.specs.Nodes.{nodes_below}
use Rattle.history_model.specs.declared.events.Event.{Event}
use Rattle.history_model.specs.declared.events.Event.TheVariants.{Wake, Take, Rest, Admit, Lose, Repeat}
use Rattle.history_model.specs.Tally.{tally}
use Rattle.history_model.specs.Legal.{refusal}
use Rattle.history_model.specs.Live.{actors_of}
use Rattle.history_model.specs.Messages.{sent, copies, is_lose, is_repeat}
use Rattle.history_model.specs.State.{is_root, is_up}
use Rattle.fault_plan.specs.Rows.{Planned, crash_of, link_row, same_row}
use Rattle.fault_plan.specs.declared.links.LinkRow.{LinkRow}
use Rattle.script_reader.specs.Valid.{Scripted}
use Rattle.script_reader.specs.declared.script.Seed.{Seed as SeedRow}
use Rattle.run_model.specs.Doing.{cluster_of, row_of, seed_actors}

-- how many turns began, how many ended, and how many of these on node n
abbrev pub is_begin : Event → Bool
is_begin (Wake a) = true
is_begin (Take a) = true
is_begin e = false

abbrev pub begun : List Event → ℕ
begun h = tally is_begin h

abbrev pub is_rest : Event → Bool
is_rest (Rest a) = true
is_rest e = false

abbrev pub ended : List Event → ℕ
ended h = tally is_rest h

abbrev pub is_rest_on : ℕ → Event → Bool
is_rest_on n (Rest a) = a.node == n
is_rest_on n e = false

abbrev pub ended_on : ℕ → List Event → ℕ
ended_on n h = tally (is_rest_on n) h

-- a turn may still begin
abbrev pub is_within_budget : Scripted → List Event → Bool
is_within_budget s h = nat_lt (begun h) s.turns

-- how many of its planned wakes actor a has left
abbrev pub is_wake_of : Actor → Event → Bool
is_wake_of a (Wake b) = same_actor b a
is_wake_of a e = false

abbrev pub wakes_of : Option SeedRow → ℕ
wakes_of None = 0
wakes_of (Some x) = x.wakes

abbrev pub wakes_left : Scripted → Actor → List Event → ℕ
wakes_left s a h = wakes_of (row_of s.seeds [] a) - tally (is_wake_of a) h

-- how many wakes are left of roots on nodes that are up
abbrev pub planned : Scripted → List Event → ℕ
planned s h = sum_by (λ a. if is_up a.node h && is_root a h then wakes_left s a h else 0) (seed_actors s)

-- the node that is to crash now: the last event is the rest with which so many turns have ended there
abbrev pub node_if : Option ℕ → ℕ → ℕ → Option ℕ
node_if None n turns = None
node_if (Some after) n turns = if after == turns then Some n else None

abbrev pub crash_due : Scripted → List Event → Option ℕ
crash_due s (Rest a ∷ p) =
    let plan : Planned = s.plan in
    node_if (crash_of a.node plan.crashes) a.node (ended_on a.node (Rest a ∷ p))
crash_due s h = None

-- the lowest number with a copy on the link
abbrev pub lowest_copy : ℕ → ℕ → List Event → Option ℕ
lowest_copy f d h = find (λ k. nat_lt 0 (copies f d k h)) (range_with_len 0 (length (sent f d h)))

-- whether a row of the plan names the copy
abbrev pub has_row : ℕ → ℕ → ℕ → List LinkRow → Bool
has_row f d k rows = list_any (same_row (link_row f d k)) rows

-- what happens to the copy: it is repeated where the plan says so and no earlier event used that row, else lost likewise,
-- else admitted
abbrev pub carry : Scripted → ℕ → ℕ → ℕ → List Event → Event
carry s f d k h =
    let plan : Planned = s.plan in
    if has_row f d k plan.repeats && not (list_any (is_repeat f d k) h) then Repeat f d k
    else if has_row f d k plan.losses && not (list_any (is_lose f d k) h) then Lose f d k
    else Admit f d k

-- what happens next on the link
abbrev pub next_on_link : Scripted → ℕ → ℕ → List Event → Option Event
next_on_link s f d h = option_map (λ k. carry s f d k h) (lowest_copy f d h)

-- What is possible next.

-- no rule refuses the event
abbrev pub is_possible : Scripted → Event → List Event → Bool
is_possible s e h = is_none (refusal (cluster_of s) e h)

-- all actors, rising
abbrev pub actors : Scripted → List Event → List Actor
actors s h = flat_map (λ n. actors_of n h) (nodes_below s.nodes)

-- the lowest actor that has a wake left and may wake
abbrev pub next_wake : Scripted → List Event → Option Actor
next_wake s h = find (λ a. nat_lt 0 (wakes_left s a h) && is_possible s (Wake a) h) (actors s h)
