-- What workers make of a script before the closing round, and what the whole run comes to.
use Rattle.std.specs.Prelude.{◌≡◌, Bool, true, List, ℕ, Option, Some, None, reverse}
use Rattle.std.specs.List.{AllByRecursion}
use Rattle.crgc_ids.specs.declared.Which.{Which}
use Rattle.history_model.specs.Story.{Story}
use Rattle.journal_model.specs.Verdicts.{AreVerdicts, report_text}
use Rattle.script_reader.specs.Valid.{Scripted}
use Rattle.run_model.specs.Doing.{cluster_of}
use Rattle.run_model.specs.Follows.{CouldPass, Follows, IsRun, IsUnfinished, is_over}
use Rattle.run_model.specs.Schedule.{IsWithinLimits}
use Rattle.operation_model.specs.declared.replies.Halt.{Halt}
use Rattle.operation_model.specs.declared.replies.Halt.TheVariants.{Limit}
use Rattle.script_workers.specs.declared.fault.WorkersFault.{WorkersFault}
use Rattle.script_workers.specs.declared.fault.WorkersFault.TheVariants as faults
use Rattle.script_workers.specs.declared.runs.Worked.{Worked}
use Rattle.script_workers.specs.Returned.{StandsIfUp}

-- the halt at a limit, if there is one
abbrev pub halt_at_limit : Option Which → Option Halt
halt_at_limit None = None
halt_at_limit (Some w) = Some (Limit w)

-- the run is over; or the cluster halted at a limit, which the run could pass next
abbrev pub IsOverUnlessHalted : Scripted → Story → Option Which → Type 0
IsOverUnlessHalted s w None = is_over s w.past ≡ true
IsOverUnlessHalted s w (Some limit) = CouldPass s w.past limit

-- the world has a run of the script, within the limits
pub record IsWorked (s : Scripted) (w : Story) (halted : Option Which) : Type 0 where
  pub cluster : w.cluster ≡ cluster_of s
  pub run : IsRun s w.past
  pub within : IsWithinLimits (cluster_of s) w.past
  pub ends : IsOverUnlessHalted s w halted

-- the world is within its limits, the verdicts are those of its sweeps, the oldest first, and each collector that came back is its
-- node's at the world's history, where the node is up
pub record CanBeClosed (left : Worked) : Type 0 where
  pub within : IsWithinLimits left.world.cluster left.world.past
  pub verdicts : AreVerdicts left.world.cluster left.world.past (reverse left.verdicts.items)
  pub back : AllByRecursion (StandsIfUp left.world.cluster left.world.past) left.back.items

-- the text is the report of the history, which follows the script and passed no limit
pub record IsFinishedRun (s : Scripted) (brief : Bool) (text : List ℕ) (h : Story) : Type 0 where
  pub cluster : h.cluster ≡ cluster_of s
  pub follows : Follows s h.past
  pub within : IsWithinLimits (cluster_of s) h.past
  pub written : text ≡ report_text (cluster_of s) h.past brief

-- the history is an unfinished run of the script, which could pass the limit next
pub record IsHaltedRun (s : Scripted) (limit : Which) (h : Story) : Type 0 where
  pub cluster : h.cluster ≡ cluster_of s
  pub unfinished : IsUnfinished s h.past
  pub could_pass : CouldPass s h.past limit

-- why there is no report; want of memory says nothing
abbrev pub IsWorkersFault : Scripted → WorkersFault → Type 0
IsWorkersFault s (faults.Limit limit h) = IsHaltedRun s limit h
IsWorkersFault s faults.NoMemory = Unit {0}
