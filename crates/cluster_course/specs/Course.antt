-- What is kept beside the history while it goes on, and what the world is asked.
use Rattle.std.specs.Prelude.{ℕ, ◌≡◌, Bool, true, List, [], ◌∷◌, Option, Result, Ok, Err, IfSome, reverse}
use Rattle.collector.specs.Collected.{Collected}
use Rattle.crgc_ids.specs.declared.NoMemory.{NoMemory}
use Rattle.history_model.specs.declared.events.Event.{Event}
use Rattle.history_model.specs.declared.events.Event.TheVariants.{Sweep}
use Rattle.history_model.specs.declared.records.Verdict.{Verdict}
use Rattle.history_model.specs.Cluster.{Cluster}
use Rattle.history_model.specs.Story.{Story}
use Rattle.history_model.specs.Sweeps.{IsVerdict}
use Rattle.journal_model.specs.Report.{stopped_total}
use Rattle.journal_model.specs.Verdicts.{AreVerdicts}
use Rattle.node_collectors.specs.Standing.{AreCollectorsAt}
use Rattle.run_model.specs.Schedule.{IsWithinLimits}
use Rattle.true_config.specs.declared.applied.Applied.{Applied}
use Rattle.true_config.specs.declared.applied.Applied.TheVariants.{Done, Illegal, Limit}
use Rattle.true_config.specs.declared.applied.Told.{Told}
use Rattle.cluster_course.specs.declared.halt.Halt.{Halt}
use Rattle.cluster_course.specs.declared.halt.Halt.TheVariants as halts

-- where the last event is a sweep, the first of the verdicts is that of it
abbrev pub IsLastFirst : Cluster → List Event → List Verdict → Type 0
IsLastFirst cl (Sweep m ∷ p) [] = ⊥
IsLastFirst cl (Sweep m ∷ p) (v ∷ vs) = IsVerdict cl m p v
IsLastFirst cl _ vs = Unit {0}

-- no event passed a limit; the collectors of the nodes, unless they were given up, the verdicts that are kept, all or the last one,
-- and the number of stops are those of the history
pub record IsCourse (s : Story) (cs : Option (List Collected)) (all : Bool) (vs : List Verdict) (stops : ℕ) : Type 0 where
  pub within : IsWithinLimits s.cluster s.past
  pub collectors : IfSome cs (AreCollectorsAt s.cluster s.past)
  pub last : IsLastFirst s.cluster s.past (reverse vs)
  pub verdicts : all ≡ true → AreVerdicts s.cluster s.past (reverse vs)
  pub stopped : stops ≡ stopped_total s.cluster s.past

-- what the event told, if the world did what it was asked, or why it did not
abbrev pub outcome_of : Result Applied NoMemory → Result Told Halt
outcome_of (Ok (Done told)) = Ok told
outcome_of (Ok (Illegal broken)) = Err (halts.Rule broken)
outcome_of (Ok (Limit which)) = Err (halts.Limit which)
outcome_of (Err e) = Err halts.NoMemory
