-- What reading does to the bytes of a source, and writing to those of a sink.
use Rattle.std.specs.Prelude.{◌≡◌, ℕ, ◌+◌, ◌≤◌, ◌++◌, List, Option, Result, MatchResult, take}
use Rattle.std.specs.Io.KnownBytes.{Consumes, Appends}
use Rattle.crgc_io.specs.Fault.{CountRose}
use Rattle.crgc_io.specs.declared.whole.ReadAll.{ReadAll}
use Rattle.crgc_io.specs.declared.whole.ReadAll.TheVariants.{ReadFault, TooLong, NoMemory}

-- a call that answered n moved the first n of these bytes, and they were recorded; at an error nothing was
abbrev pub Records : {E : Type 0} → (old new : List ℕ) → Result ℕ E → List ℕ → Type 0
Records old new answer bytes = MatchResult answer (λ n. new ≡ old ++ take n bytes) (λ _. new ≡ old)

-- bs went from the front of the bytes that the old source had left, where it tells these, to the end of the bytes that the
-- new one has given
pub record Takes {S : Type 0} (left : S → Option (List ℕ)) (given : S → List ℕ) (old new : S) (bs : List ℕ) : Type 0 where
  pub consumed : Consumes (left old) (left new) bs
  pub recorded : given new ≡ given old ++ bs

-- bs went to the end of the bytes that the old sink held, where it tells these, and of the bytes that it has taken
pub record Puts {K : Type 0} (held : K → Option (List ℕ)) (taken : K → List ℕ) (old new : K) (bs : List ℕ) : Type 0 where
  pub appended : Appends (held old) (held new) bs
  pub recorded : taken new ≡ taken old ++ bs

-- how many bytes were taken before this answer: one more than the limit where the input is too
-- long, at most the limit before a fault, and one or the other where memory is short
abbrev pub IsCountAt : ReadAll → ℕ → ℕ → Type 0
IsCountAt ReadFault limit count = count ≤ limit
IsCountAt TooLong limit count = count ≡ limit + 1
IsCountAt NoMemory limit count = count ≤ limit + 1

-- what the count of faults did before this answer: it rose at a fault, and stood otherwise
abbrev pub HasCounted : ReadAll → ℕ → ℕ → Type 0
HasCounted ReadFault old new = CountRose old new
HasCounted TooLong old new = new ≡ old
HasCounted NoMemory old new = new ≡ old
