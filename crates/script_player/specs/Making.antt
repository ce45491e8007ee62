-- What is made of a history, and where it stops.
use Rattle.std.specs.Prelude.{ℕ, ◌≡◌, List, Some, None}
use Rattle.std.specs.List.{find}
use Rattle.history_model.specs.declared.events.Event.{Event}
use Rattle.history_model.specs.Cluster.{Cluster}
use Rattle.script_reader.specs.Valid.{Scripted}
use Rattle.cluster_course.specs.Halting.{StopsBefore}
use Rattle.run_model.specs.Planned.{is_possible}
use Rattle.run_model.specs.Schedule.{IsWithinLimits, carries, schedule}
use Rattle.script_player.specs.declared.fault.RunFault.{RunFault}
use Rattle.script_player.specs.declared.fault.RunFault.TheVariants.{Limit, NoMemory}

-- an event on the way to the whole history is the first that passes the limit; want of memory says nothing
abbrev pub HaltsOn : Cluster → List Event → RunFault → Type 0
HaltsOn cl whole (Limit which) = (past : List Event) × IsWithinLimits cl past × StopsBefore cl whole past which
HaltsOn cl whole NoMemory = Unit {0}

-- the schedule has made the history, and is between two things
abbrev pub IsScheduled : Scripted → List Event → Type 0
IsScheduled s h = (k : ℕ) × (schedule s k ≡ h)

-- nothing can be carried
abbrev pub NothingCarried : Scripted → List Event → Type 0
NothingCarried s h = find (λ e. is_possible s e h) (carries s h) ≡ None

-- the event is the first that can be carried
abbrev pub IsCarriedNext : Scripted → Event → List Event → Type 0
IsCarriedNext s e h = find (λ e. is_possible s e h) (carries s h) ≡ Some e
