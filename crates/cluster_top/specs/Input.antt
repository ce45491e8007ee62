-- What the source of a call gave in it.
use Rattle.std.specs.Prelude.{ℕ, ◌≡◌, ◌+◌, ◌≤◌, Bool, true, List, Option, length}
use Rattle.std.specs.Io.KnownBytes.{IsAtEnd}
use Rattle.crgc_io.specs.Fault.{CountRose}
use Rattle.crgc_io.specs.Taken.{Takes}
use Rattle.crgc_ids.specs.declared.limits.TheConstants.{MOST_BYTES}

-- it gave these bytes, which are all that it had left and no more than may be read; its last read was at the end, and no read failed
pub record GaveAll {S : Type 0} (left : S → Option (List ℕ)) (given : S → List ℕ) (ended : S → Bool)
    (faults : S → ℕ) (old new : S) (bytes : List ℕ) : Type 0 where
  pub taken : Takes left given old new bytes
  pub read_out : IsAtEnd (left new) × (ended new ≡ true)
  pub within : length bytes ≤ MOST_BYTES
  pub stands : faults new ≡ faults old

-- it gave these bytes, one more than may be read, and no read failed
pub record GaveTooMuch {S : Type 0} (left : S → Option (List ℕ)) (given : S → List ℕ) (faults : S → ℕ) (old new : S) (bytes : List ℕ)
    : Type 0 where
  pub taken : Takes left given old new bytes
  pub beyond : length bytes ≡ MOST_BYTES + 1
  pub stands : faults new ≡ faults old

-- it gave no more than may be read, and then a read failed
pub record Failed {S : Type 0} (left : S → Option (List ℕ)) (given : S → List ℕ) (faults : S → ℕ) (old new : S) : Type 0 where
  pub bytes : List ℕ
  pub taken : Takes left given old new bytes
  pub within : length bytes ≤ MOST_BYTES
  pub rose : CountRose (faults old) (faults new)

-- it gave some bytes, and no read failed
pub record GaveSome {S : Type 0} (left : S → Option (List ℕ)) (given : S → List ℕ) (faults : S → ℕ) (old new : S) : Type 0 where
  pub bytes : List ℕ
  pub taken : Takes left given old new bytes
  pub within : length bytes ≤ MOST_BYTES + 1
  pub stands : faults new ≡ faults old
