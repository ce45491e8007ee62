-- How the numbers of behaviours are kept by their names; only what is private cites it.
use Rattle.std.specs.Prelude.{◌≡◌, ℕ, List, Option, Result, Ok, Err, Vec}
use Rattle.std.specs.BTreeMap.{BTreeMap, get_by}
use Rattle.std.specs.Cmp.Lexicographic.{slice_cmp}
use Rattle.std.specs.Ordering.{nat_cmp}
use Rattle.std.specs.declared.alloc.Global.{Global}
use Rattle.script_reader.specs.declared.fault.Flaw.{Flaw}
use Rattle.script_reader.specs.declared.fault.Halt.{Halt}
use Rattle.script_reader.specs.Gives.{Fails}
use Rattle.script_reader.specs.Numbered.{number_in}

-- the number that the map has for a name
abbrev pub finds : BTreeMap (Vec ℕ Global) ℕ → List ℕ → Option ℕ
finds numbers name = get_by (λ k. slice_cmp nat_cmp name k.items) numbers

-- the map has the number of each name
abbrev pub IsNumbering : BTreeMap (Vec ℕ Global) ℕ → List (List ℕ) → Type 0
IsNumbering numbers names = (name : List ℕ) → finds numbers name ≡ number_in names name

-- the names that differ are numbered, unless memory ran out; else the fault is that of reading them
abbrev pub GivesNumbering : Result (BTreeMap (Vec ℕ Global) ℕ) Halt → Result (List (List ℕ)) Flaw → Type 0
GivesNumbering (Ok numbers) read = (names : List (List ℕ)) × (read ≡ Ok names) × IsNumbering numbers names
GivesNumbering (Err e) read = Fails e read
