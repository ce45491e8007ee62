-- What is next, and how much is left.
use Rattle.std.specs.Prelude.{ℕ, ◌≡◌, ◌&&◌, true, if◌then◌else◌, List, slice_get, Some}
use Rattle.crgc_ids.specs.Actor.{Actor}
use Rattle.history_model.specs.declared.events.Event.{Event}
use Rattle.history_model.specs.State.{is_root, is_up}
use Rattle.history_model.specs.Streams.{Notice, stream}
use Rattle.run_model.specs.Doing.{cluster_of}
use Rattle.operation_model.specs.Hands.{Spells}
use Rattle.script_reader.specs.Valid.{Scripted}
use Rattle.run_model.specs.Planned.{has_row, wakes_left}
use Rattle.script_progress.specs.declared.carry.Carry.{Carry}
use Rattle.script_progress.specs.declared.carry.Carry.TheVariants.{Admit, Lose, Repeat}
use Rattle.script_progress.specs.Used.{carried}
use Rattle.world_object.specs.declared.parts.ClusterParts.{ClusterParts}

-- what happens to the copy of that number on the link
abbrev pub carry_of : ℕ → ℕ → Carry × ℕ → Event
carry_of f d next = carried next.0 f d next.1

-- how many wakes the actor has left, if it is a root on a node that is up
abbrev pub planned_of : Scripted → List Event → Actor → ℕ
planned_of s h a = if is_up a.node h && is_root a h then wakes_left s a h else 0

-- the bytes spell the bulletin with that number of the origin
abbrev pub SpellsNumber : Scripted → List Event → ℕ → ℕ → List ℕ → Type 0
SpellsNumber s h o k bytes = (m : Notice) × (slice_get (stream (cluster_of s) o h) k ≡ Some m) × Spells o bytes m

-- a row of the plan that is left says so of the copy
abbrev pub HasRow : ClusterParts → ℕ → ℕ → ℕ → Carry → Type 0
HasRow p f d k Repeat = has_row f d k p.progress.plan.repeats ≡ true
HasRow p f d k Lose = has_row f d k p.progress.plan.losses ≡ true
HasRow p f d k Admit = Unit {0}
