-- What `run` with worker threads comes to: the status, the text that is then to be written, and the history that is kept.
use Rattle.std.specs.Prelude.{ℕ, ◌≡◌, ◌≤◌, ◌⊎◌, Bool, List, Option, Some}
use Rattle.crgc_ids.specs.declared.Which.{Which}
use Rattle.crgc_ids.specs.declared.Which.TheVariants.{Input}
use Rattle.cluster_course.specs.Collected.{IsRightlyCollected}
use Rattle.command_words.specs.Commands.{Spells, WantsWorkers}
use Rattle.command_words.specs.declared.command.Command.TheVariants.{Run}
use Rattle.history_model.specs.Legal.{IsLegal}
use Rattle.history_model.specs.Story.{Story}
use Rattle.history_model.specs.declared.events.Event.{Event}
use Rattle.journal_model.specs.Verdicts.{report_text}
use Rattle.run_model.specs.Doing.{cluster_of}
use Rattle.run_model.specs.Follows.{CouldPass, Follows, IsUnfinished}
use Rattle.run_model.specs.Schedule.{IsWithinLimits}
use Rattle.script_reader.specs.Scripts.{IsFirstFault, StandsFor}
use Rattle.script_reader.specs.Valid.{Scripted}
use Rattle.cluster_top.specs.declared.status.Status.{Status}
use Rattle.cluster_top.specs.declared.status.Status.TheVariants.{Done, Usage, Script, ReadFault, WriteFault, Limit, Journal, NoMemory}
use Rattle.cluster_top.specs.FaultLines.{limit_line, memory_line, read_line, script_line}
use Rattle.cluster_top.specs.Input.{Failed, GaveAll, GaveSome, GaveTooMuch}
use Rattle.cluster_top.specs.Outcome.{IsOutcome, IsWritten}
use Rattle.cluster_top.specs.RunOutcome.{IsRightlyClosed}

-- the history of the script's cluster is kept
abbrev pub KeepsHistory : Scripted → List Event → Option Story → Type 0
KeepsHistory s h kept = kept ≡ Some (record { cluster = cluster_of s; past = h })

-- the text is the report of the history that is kept, which follows the script. It is legal, no event of it passes a limit, every
-- actor that is stopped in it is rightly stopped, and a round closes it
pub record IsWorkersReport (bytes : List ℕ) (brief : Bool) (text : List ℕ) (kept : Option Story) : Type 0 where
  pub script : Scripted
  pub told : StandsFor bytes script
  pub past : List Event
  pub is_kept : KeepsHistory script past kept
  pub follows : Follows script past
  pub legal : IsLegal (cluster_of script) past
  pub within : IsWithinLimits (cluster_of script) past
  pub collected : IsRightlyCollected (cluster_of script) past
  pub closed : IsRightlyClosed (cluster_of script) past
  pub written : text ≡ report_text (cluster_of script) past brief

-- the history that is kept is an unfinished run of the script, which could pass the limit next
pub record IsHaltedAt (bytes : List ℕ) (which : Which) (kept : Option Story) : Type 0 where
  pub script : Scripted
  pub told : StandsFor bytes script
  pub past : List Event
  pub is_kept : KeepsHistory script past kept
  pub unfinished : IsUnfinished script past
  pub could_pass : CouldPass script past which

-- what `run` with worker threads came to before anything was written, with the text that was then to be written
abbrev pub WorkersCameTo : {S : Type 0} → (left : S → Option (List ℕ)) (given : S → List ℕ) (ended : S → Bool)
    (faults : S → ℕ) (old new : S) → Bool → (kept kept' : Option Story) → Status → List ℕ → Type 0
WorkersCameTo left given ended faults old new brief kept kept' Done text =
    (bytes : List ℕ) × GaveAll left given ended faults old new bytes × IsWorkersReport bytes brief text kept'
WorkersCameTo left given ended faults old new brief kept kept' (Script fault) text =
    (bytes : List ℕ) × GaveAll left given ended faults old new bytes × IsFirstFault bytes fault × (text ≡ script_line fault) × (kept' ≡ kept)
WorkersCameTo left given ended faults old new brief kept kept' (Limit which) text =
    (bytes : List ℕ) × ((GaveTooMuch left given faults old new bytes × (which ≡ Input) × (kept' ≡ kept))
    ⊎ (GaveAll left given ended faults old new bytes × IsHaltedAt bytes which kept'))
    × (text ≡ limit_line which)
WorkersCameTo left given ended faults old new brief kept kept' ReadFault text =
    Failed left given faults old new × (text ≡ read_line) × (kept' ≡ kept)
WorkersCameTo left given ended faults old new brief kept kept' NoMemory text =
    GaveSome left given faults old new × (text ≡ memory_line) × (kept' ≡ kept)
WorkersCameTo left given ended faults old new brief kept kept' (Journal line cause) text = ⊥
WorkersCameTo left given ended faults old new brief kept kept' Usage text = ⊥
WorkersCameTo left given ended faults old new brief kept kept' (WriteFault written) text = ⊥

-- the call came to what worker threads make of the script, and wrote it
abbrev pub IsWorkersOutcome : {S K : Type 0} → (left : S → Option (List ℕ)) (given : S → List ℕ) (ended : S → Bool)
    (reads : S → ℕ) (held : K → Option (List ℕ)) (taken : K → List ℕ) (writes : K → ℕ)
    (brief : Bool) (source source' : S) (sink sink' : K) (kept kept' : Option Story) → Status → Type 0
IsWorkersOutcome left given ended reads held taken writes brief source source' sink sink' kept kept' status =
    (reason : Status) × (text : List ℕ) × WorkersCameTo left given ended reads source source' brief kept kept' reason text
    × IsWritten held taken writes sink sink' reason text status

-- the words ask for worker threads, and the call came to what these make; or they do not, and it came to what needs no threads
abbrev pub IsTopOutcome : {S K : Type 0} → (left : S → Option (List ℕ)) (given : S → List ℕ) (ended : S → Bool)
    (reads : S → ℕ) (held : K → Option (List ℕ)) (taken : K → List ℕ) (writes : K → ℕ)
    (words : List (List ℕ)) (source source' : S) (sink sink' : K) (kept kept' : Option Story) → Status → Type 0
IsTopOutcome left given ended reads held taken writes words source source' sink sink' kept kept' status =
    ((workers : ℕ) × (brief : Bool) × Spells words (Run workers brief) × (1 ≤ workers)
    × IsWorkersOutcome left given ended reads held taken writes brief source source' sink sink' kept kept' status)
    ⊎ ((¬ WantsWorkers words) × (kept' ≡ kept)
    × IsOutcome left given ended reads held taken writes words source source' sink sink' status)
