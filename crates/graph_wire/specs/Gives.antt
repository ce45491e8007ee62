-- What the code's readers answer, against reading.
use Rattle.std.specs.Prelude.{◌≡◌, Result, Ok, Err, List, ◌++◌}
use Rattle.crgc_bytes.specs.Place.{Place}
use Rattle.wire_grammar.specs.declared.fault.WireFault.{WireFault}
use Rattle.wire_grammar.specs.Fields.{◌>>=◌}
use Rattle.graph_wire.specs.declared.fault.ReadFault.{ReadFault}
use Rattle.graph_wire.specs.declared.fault.ReadFault.TheVariants as faults

-- the fault is that of reading, unless memory ran out
abbrev pub Fails : {Y : Type 0} → ReadFault → Result Y WireFault → Type 0
Fails (faults.Wire f) read = read ≡ Err f
Fails faults.NoMemory read = Unit {0}

-- what was answered, and the place that was reached, are those of reading, unless memory ran out
abbrev pub Gives : {X : Type 0} → Place → Result X ReadFault → Result (X × Place) WireFault → Type 0
Gives q (Ok x) read = read ≡ Ok (x, q)
Gives q (Err e) read = Fails e read

-- rows that were read before, in front of those that are read
abbrev pub with_front : {X : Type 0} → List X → Result (List X × Place) WireFault → Result (List X × Place) WireFault
with_front front read = read >>= λ x. Ok (front ++ x.0, x.1)

-- what was answered is what reading gives, unless memory ran out
abbrev pub GivesPrefix : {X : Type 0} → Result X ReadFault → Result X WireFault → Type 0
GivesPrefix (Ok x) read = read ≡ Ok x
GivesPrefix (Err e) read = Fails e read
