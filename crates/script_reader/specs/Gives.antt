-- What the code's readers answer, against the definitions.
use Rattle.std.specs.Prelude.{◌≡◌, Result, Ok, Err}
use Rattle.script_reader.specs.declared.fault.Flaw.{Flaw}
use Rattle.script_reader.specs.declared.fault.Halt.{Halt}
use Rattle.script_reader.specs.declared.fault.Halt.TheVariants as halts
use Rattle.script_reader.specs.declared.fault.ScriptRead.{ScriptRead}
use Rattle.script_reader.specs.declared.fault.ScriptRead.TheVariants.{Fault, NoMemory}
use Rattle.script_reader.specs.Scripts.{told}

-- the fault is that of reading, unless memory ran out
abbrev pub Fails : {Y : Type 0} → Halt → Result Y Flaw → Type 0
Fails (halts.At f) read = read ≡ Err f
Fails halts.NoMemory read = Unit {0}

-- what was answered, seen in this way, is what reading gives, unless memory ran out
abbrev pub GivesAs : {X Y : Type 0} → (X → Y) → Result X Halt → Result Y Flaw → Type 0
GivesAs view (Ok x) read = read ≡ Ok (view x)
GivesAs view (Err e) read = Fails e read

abbrev pub Gives : {X : Type 0} → Result X Halt → Result X Flaw → Type 0
Gives r read = GivesAs (λ x. x) r read

-- a fault is told with the bytes of its word, unless memory ran out
abbrev pub Tells : Halt → ScriptRead → Type 0
Tells (halts.At flaw) (Fault f) = f ≡ told flaw
Tells (halts.At flaw) NoMemory = Unit {0}
Tells halts.NoMemory (Fault f) = ⊥
Tells halts.NoMemory NoMemory = Unit {0}
