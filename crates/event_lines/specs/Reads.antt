-- What the code's readers answer, against the definitions.
use Rattle.std.specs.Prelude.{◌≡◌, Result, Ok, Err}
use Rattle.journal_model.specs.declared.lines.LineFault.{LineFault}
use Rattle.event_lines.specs.declared.fault.LineRead.{LineRead}
use Rattle.event_lines.specs.declared.fault.LineRead.TheVariants.{Fault, NoMemory}

-- what was answered, seen in this way, is what the definition reads, unless memory ran out
abbrev pub ReadsAs : {X Y : Type 0} → (X → Y) → Result X LineRead → Result Y LineFault → Type 0
ReadsAs view (Ok x) read = read ≡ Ok (view x)
ReadsAs view (Err (Fault fault)) read = read ≡ Err fault
ReadsAs view (Err NoMemory) read = Unit {0}

abbrev pub Reads : {X : Type 0} → Result X LineRead → Result X LineFault → Type 0
Reads answer read = ReadsAs (λ x. x) answer read
