-- What contracts see of a source and a sink over memory.
use Rattle.std.specs.Prelude.{ℕ, Bool, true, false, if◌then◌else◌, List, [], ◌∷◌}
use Rattle.crgc_io.specs.Fault.{raised}

-- how many bytes a call moves at most, the numbers of the calls that are to fail, how many calls
-- there were, and how many of them failed
pub record Calls : Type 0 where
  pub piece : ℕ
  pub failing : List ℕ
  pub made : ℕ
  pub faults : ℕ

-- before the first call
abbrev pub calls_from : ℕ → List ℕ → Calls
calls_from piece failing = record { piece = piece; failing = failing; made = 0; faults = 0 }

-- the calls after one more, which failed or did not
abbrev pub after_call : Bool → Calls → Calls
after_call failed calls = record calls {
  made = raised calls.made;
  faults = if failed then raised calls.faults else calls.faults;
}

-- the bytes that reads gave, the bytes that are left, and the reads
pub record Reading : Type 0 where
  pub given : List ℕ
  pub left : List ℕ
  pub calls : Calls

-- the bytes that writes left, how many have room in all, and the writes
pub record Writing : Type 0 where
  pub held : List ℕ
  pub room : ℕ
  pub calls : Calls

-- whether no byte is left
abbrev pub has_nothing : List ℕ → Bool
has_nothing [] = true
has_nothing (b ∷ bs) = false
