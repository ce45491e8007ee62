-- Why a round is not finished.
use Rattle.std.specs.Prelude.{List, Result, Ok, Err}
use Rattle.history_model.specs.declared.events.Event.{Event}
use Rattle.history_model.specs.Cluster.{Cluster}
use Rattle.true_config.specs.declared.applied.Told.{Told}
use Rattle.cluster_course.specs.Halting.{StopsBefore}
use Rattle.cluster_course.specs.declared.halt.Halt.{Halt}
use Rattle.cluster_course.specs.declared.halt.Halt.TheVariants as hindrances
use Rattle.cluster_round.specs.declared.halt.RoundHalt.{RoundHalt}
use Rattle.cluster_round.specs.declared.halt.RoundHalt.TheVariants as halts

-- a part of a round, which would make the history target, halts at now: the next event would pass this limit; want of memory
-- says nothing
abbrev pub IsRoundHalt : RoundHalt → Cluster → List Event → List Event → Type 0
IsRoundHalt (halts.Limit which) cl target now = StopsBefore cl target now which
IsRoundHalt halts.NoMemory cl target now = Unit {0}

-- whether a part of a round that tries an event is done, where a refused event is left out, or why not
abbrev pub outcome_of : Result Told Halt → Result (Unit {0}) RoundHalt
outcome_of (Ok told) = Ok tt
outcome_of (Err (hindrances.Rule broken)) = Ok tt
outcome_of (Err (hindrances.Limit which)) = Err (halts.Limit which)
outcome_of (Err hindrances.NoMemory) = Err halts.NoMemory
