-- Why there is no report, as the code keeps it; only what is private cites it.
use Rattle.std.specs.Prelude.{ℕ, ◌≡◌, ◌⊎◌, Bool, List, Option, Some, Result, Err}
use Rattle.journal_model.specs.Journals.{Fault, limit}
use Rattle.journal_player.specs.Faults.{fault_of}
use Rattle.journal_player.specs.declared.fault.PlayFault.{PlayFault}
use Rattle.journal_player.specs.declared.fault.PlayFault.TheVariants as faults
use Rattle.crgc_ids.specs.declared.Which.TheVariants.{Input}
use Rattle.history_model.specs.Story.{Story}
use Rattle.history_model.specs.declared.events.Event.{Event}
use Rattle.run_model.specs.Schedule.{IsFirstLimit}
use Rattle.script_reader.specs.Scripts.{IsFirstFault}
use Rattle.script_reader.specs.Valid.{Scripted}
use Rattle.script_reader.specs.declared.fault.ScriptFault.{ScriptFault}
use Rattle.cluster_top.specs.declared.status.Status.{Status}
use Rattle.cluster_top.specs.declared.status.Status.TheVariants as ends
use Rattle.cluster_top.specs.declared.refusal.Refusal.{Refusal}
use Rattle.cluster_top.specs.declared.refusal.Refusal.TheVariants.{Usage, Script, ReadFault, Limit, Journal, NoMemory}
use Rattle.cluster_top.specs.FaultLines.{journal_line, limit_line, memory_line, read_line, script_line, usage_line}
use Rattle.cluster_top.specs.Input.{Failed, GaveSome, GaveTooMuch}
use Rattle.cluster_top.specs.RunOutcome.{PassesLimit}
use Rattle.cluster_top.specs.WorkersOutcome.{IsHaltedAt}
use Rattle.script_workers.specs.Ended.{IsFinishedRun, IsHaltedRun}

-- the status of a refusal
abbrev pub status_of : Refusal → Status
status_of Usage = ends.Usage
status_of (Script fault text) = ends.Script fault
status_of ReadFault = ends.ReadFault
status_of (Limit which) = ends.Limit which
status_of (Journal line cause text) = ends.Journal line cause
status_of NoMemory = ends.NoMemory

-- the line that is written for it
abbrev pub line_for : Refusal → List ℕ
line_for Usage = usage_line
line_for (Script fault text) = text
line_for ReadFault = read_line
line_for (Limit which) = limit_line which
line_for (Journal line cause text) = text
line_for NoMemory = memory_line

-- the refusal of a journal that is not played to its end
abbrev pub refusal_of : PlayFault → Refusal
refusal_of (faults.Journal line cause) = Journal line cause (journal_line line cause)
refusal_of (faults.Limit which) = Limit which
refusal_of faults.NoMemory = NoMemory

-- it is that, or there was no memory for its line
abbrev pub IsRefusalOf : PlayFault → Refusal → Type 0
IsRefusalOf fault refusal = (refusal ≡ refusal_of fault) ⊎ (refusal ≡ NoMemory)

-- the refusal of a script with this first fault, or there was no memory for its line
abbrev pub IsRefusalOfScript : ScriptFault → Refusal → Type 0
IsRefusalOfScript fault refusal = (refusal ≡ Script fault (script_line fault)) ⊎ (refusal ≡ NoMemory)

-- the refusal says what the bytes of a script tell: their first fault, or the first limit that the run passes
abbrev pub IsScriptRefusal : List ℕ → Refusal → Type 0
IsScriptRefusal bytes (Script fault text) = IsFirstFault bytes fault × (text ≡ script_line fault)
IsScriptRefusal bytes (Limit which) = PassesLimit bytes which
IsScriptRefusal bytes NoMemory = Unit {0}
IsScriptRefusal bytes _ = ⊥

-- the refusal says which limit the script's run passes first
abbrev pub IsRunRefusal : Scripted → Refusal → Type 0
IsRunRefusal script (Limit which) = (p : List Event) × IsFirstLimit script p which
IsRunRefusal script NoMemory = Unit {0}
IsRunRefusal script _ = ⊥

-- the text is the report of the history that workers made of the script, and it is kept
abbrev pub ReportsWorked : Scripted → Bool → List ℕ → Option Story → Type 0
ReportsWorked script brief text kept = (h : Story) × (kept ≡ Some h) × IsFinishedRun script brief text h

-- the refusal says which limit the run of the script by workers could pass next, and its history is kept
abbrev pub IsRunHalt : Scripted → (kept kept' : Option Story) → Refusal → Type 0
IsRunHalt script kept kept' (Limit which) = (h : Story) × (kept' ≡ Some h) × IsHaltedRun script which h
IsRunHalt script kept kept' NoMemory = kept' ≡ kept
IsRunHalt script kept kept' _ = ⊥

-- the refusal says what the bytes of a script tell where it is run by workers
abbrev pub IsWorkersRefusal : List ℕ → (kept kept' : Option Story) → Refusal → Type 0
IsWorkersRefusal bytes kept kept' (Script fault text) = IsFirstFault bytes fault × (text ≡ script_line fault) × (kept' ≡ kept)
IsWorkersRefusal bytes kept kept' (Limit which) = IsHaltedAt bytes which kept'
IsWorkersRefusal bytes kept kept' NoMemory = kept' ≡ kept
IsWorkersRefusal bytes kept kept' _ = ⊥

-- why the input of a call is not read to its end
abbrev pub IsInputRefusal : {S : Type 0} → (left : S → Option (List ℕ)) (given : S → List ℕ) (faults : S → ℕ) (old new : S) → Refusal → Type 0
IsInputRefusal left given faults old new ReadFault = Failed left given faults old new
IsInputRefusal left given faults old new (Limit which) = (which ≡ Input) × ((bytes : List ℕ) × GaveTooMuch left given faults old new bytes)
IsInputRefusal left given faults old new NoMemory = GaveSome left given faults old new
IsInputRefusal left given faults old new _ = ⊥

-- the refusal says what a journal tells: its first faulty line, or the limit that it passes; want of memory says nothing
abbrev pub IsToldBy : {R : Type 0} → Refusal → Result R (ℕ × Fault) → Type 0
IsToldBy Usage told = ⊥
IsToldBy (Script fault text) told = ⊥
IsToldBy ReadFault told = ⊥
IsToldBy (Limit which) told = (line : ℕ) × (told ≡ Err (line, limit which))
IsToldBy (Journal line cause text) told = (told ≡ Err (line, fault_of cause)) × (text ≡ journal_line line cause)
IsToldBy NoMemory told = Unit {0}
