-- What a run of a script by the fixed schedule reports, or why it does not.
use Rattle.std.specs.Prelude.{ℕ, ◌≡◌, Bool, List}
use Rattle.history_model.specs.declared.events.Event.{Event}
use Rattle.journal_model.specs.Verdicts.{report_text}
use Rattle.script_reader.specs.Valid.{Scripted}
use Rattle.run_model.specs.Doing.{cluster_of}
use Rattle.run_model.specs.Schedule.{IsFirstLimit, IsFixed, IsWithinLimits}
use Rattle.cluster_course.specs.Collected.{IsRightlyCollected}
use Rattle.script_player.specs.declared.fault.RunFault.{RunFault}
use Rattle.script_player.specs.declared.fault.RunFault.TheVariants.{Limit, NoMemory}

-- the text is the report, in brief or in full, of the history that the fixed schedule gives, which passed no limit and is rightly
-- collected
abbrev pub ReportsFixed : Scripted → Bool → List ℕ → Type 0
ReportsFixed s brief text =
    (h : List Event) × IsFixed s h × IsWithinLimits (cluster_of s) h × IsRightlyCollected (cluster_of s) h
    × (text ≡ report_text (cluster_of s) h brief)

-- the limit is the first one that the fixed schedule passes; want of memory says nothing
abbrev pub IsRunFault : Scripted → RunFault → Type 0
IsRunFault s (Limit which) = (p : List Event) × IsFirstLimit s p which
IsRunFault s NoMemory = Unit {0}
