-- What the closing round comes to.
use Rattle.std.specs.Prelude.{◌≡◌, Bool, List, [], ◌∷◌}
use Rattle.history_model.specs.declared.events.Event.{Event}
use Rattle.history_model.specs.Story.{Story}
use Rattle.journal_model.specs.Verdicts.{report_text}
use Rattle.run_model.specs.Round.{round}
use Rattle.run_model.specs.Schedule.{IsWithinLimits}
use Rattle.cluster_course.specs.Halting.{StopsBefore}
use Rattle.true_config.specs.Applying.{CarriesFew}
use Rattle.script_workers.specs.declared.fault.WorkersFault.{WorkersFault}
use Rattle.script_workers.specs.declared.fault.WorkersFault.TheVariants as faults
use Rattle.script_workers.specs.declared.runs.Finished.{Finished}

-- each message carries at most 16 references
abbrev pub CarryFew : List Event → Type 0
CarryFew [] = Unit {0}
CarryFew (e ∷ p) = CarriesFew e × CarryFew p

-- the report is that of the history with one round more, which passed no limit
pub record IsClosed (before : Story) (brief : Bool) (f : Finished) : Type 0 where
  pub cluster : f.history.cluster ≡ before.cluster
  pub past : f.history.past ≡ round before.cluster before.past
  pub within : IsWithinLimits before.cluster (round before.cluster before.past)
  pub written : f.report.items ≡ report_text before.cluster (round before.cluster before.past) brief

-- why the history is not closed: an event on the way to the whole round would pass the limit; want of memory says nothing
abbrev pub IsHalfClosed : Story → WorkersFault → Type 0
IsHalfClosed before (faults.Limit limit h) = (h.cluster ≡ before.cluster) × StopsBefore before.cluster (round before.cluster before.past) h.past limit
IsHalfClosed before faults.NoMemory = Unit {0}
