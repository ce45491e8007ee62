-- Why an event does not happen, and why a history is not finished.
use Rattle.std.specs.Prelude.{◌≡◌, List, ◌∷◌, ◌++◌, Some, None}
use Rattle.crgc_ids.specs.declared.Which.{Which}
use Rattle.history_model.specs.declared.events.Event.{Event}
use Rattle.history_model.specs.Cluster.{Cluster}
use Rattle.history_model.specs.Legal.{refusal}
use Rattle.history_model.specs.Story.{Story}
use Rattle.journal_model.specs.Limits.{limit_passed}
use Rattle.cluster_course.specs.declared.halt.Halt.{Halt}
use Rattle.cluster_course.specs.declared.halt.Halt.TheVariants as halts

-- the event halts there: it breaks this rule first, or else it would pass this limit; want of memory says nothing
abbrev pub IsHalt : Halt → Event → Story → Type 0
IsHalt (halts.Rule broken) e s = refusal s.cluster e s.past ≡ Some broken
IsHalt (halts.Limit which) e s = (refusal s.cluster e s.past ≡ None) × (limit_passed s.cluster e s.past ≡ Some which)
IsHalt halts.NoMemory e s = Unit {0}

-- on the way to the history target, now stands before an event that would pass the limit
abbrev pub StopsBefore : Cluster → List Event → List Event → Which → Type 0
StopsBefore cl target now which = (later : List Event) × (e : Event) × (target ≡ later ++ e ∷ now) × (limit_passed cl e now ≡ Some which)
