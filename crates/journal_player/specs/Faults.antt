-- Why a journal is not played, as the code says it and as the definition says it.
use Rattle.std.specs.Prelude.{ℕ, ◌≡◌, Result, Err}
use Rattle.journal_model.specs.declared.lines.LineFault.{LineFault}
use Rattle.journal_model.specs.declared.lines.LineFault.TheVariants as lines
use Rattle.journal_model.specs.Journals.{Fault, header, spelling, after_end, rule, limit, differs}
use Rattle.cluster_course.specs.declared.halt.Halt.{Halt as Hindrance}
use Rattle.cluster_course.specs.declared.halt.Halt.TheVariants as hindrances
use Rattle.journal_player.specs.declared.fault.Cause.{Cause}
use Rattle.journal_player.specs.declared.fault.Cause.TheVariants.{Header, Word, Field, Extra, Differs, AfterEnd, Rule}
use Rattle.journal_player.specs.declared.fault.Halt.{Halt}
use Rattle.journal_player.specs.declared.fault.Halt.TheVariants as halts
use Rattle.journal_player.specs.declared.fault.PlayFault.{PlayFault}
use Rattle.journal_player.specs.declared.fault.PlayFault.TheVariants.{Journal, Limit, NoMemory as OutOfMemory}

-- the fault that a cause names
abbrev pub fault_of : Cause → Fault
fault_of Header = header
fault_of Word = spelling lines.Word
fault_of Field = spelling lines.Field
fault_of Extra = spelling lines.Extra
fault_of Differs = differs
fault_of AfterEnd = after_end
fault_of (Rule broken) = rule broken

-- the cause that names a fault of spelling
abbrev pub cause_of : LineFault → Cause
cause_of lines.Word = Word
cause_of lines.Field = Field
cause_of lines.Extra = Extra

-- why a line is not followed whose event is hindered so
abbrev pub halt_of : Hindrance → Halt
halt_of (hindrances.Rule broken) = halts.Cause (Rule broken)
halt_of (hindrances.Limit which) = halts.Limit which
halt_of hindrances.NoMemory = halts.NoMemory

-- what follows a line is the fault for which the code halts there; want of memory says nothing
abbrev pub IsHalt : {R : Type 0} → Halt → Result R Fault → Type 0
IsHalt (halts.Cause cause) next = next ≡ Err (fault_of cause)
IsHalt (halts.Limit which) next = next ≡ Err (limit which)
IsHalt halts.NoMemory next = Unit {0}

-- the fault with the line that it stands on
abbrev pub fault_at : ℕ → Halt → PlayFault
fault_at line (halts.Cause cause) = Journal line cause
fault_at line (halts.Limit which) = Limit which
fault_at line halts.NoMemory = OutOfMemory

-- what the lines tell is the fault that the code answers, and a fault of the journal is that of its line; want of memory says
-- nothing
abbrev pub IsPlayFault : {R : Type 0} → PlayFault → Result R (ℕ × Fault) → Type 0
IsPlayFault (Journal line cause) told = told ≡ Err (line, fault_of cause)
IsPlayFault (Limit which) told = (line : ℕ) × (told ≡ Err (line, limit which))
IsPlayFault OutOfMemory told = Unit {0}
