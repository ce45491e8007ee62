-- A place in bytes: how many bytes stand before it, and the bytes from there on.
use Rattle.std.specs.Prelude.{ℕ, ◌+◌, ◌<◌, ◌≤◌, ◌≡◌, List, drop, length, slice_index, Option, Some, None}
use Rattle.byteorder.specs.Endian.{big_number}

pub record Place : Type 0 where
  pub offset : ℕ
  pub rest : List ℕ

-- the place k bytes further on
abbrev pub after : ℕ → Place → Place
after k p = record { offset = p.offset + k; rest = drop k p.rest }

-- Taking k bytes at the place `old` gives their number, the highest byte first, and leads to the place `new`. It gives
-- nothing exactly where fewer bytes are left, and then nothing moves.
abbrev pub Takes : ℕ → Place → Place → Option ℕ → Type 0
Takes k old new None = (length old.rest < k) × (new ≡ old)
Takes k old new (Some n) = (k ≤ length old.rest) × (n ≡ big_number k old.rest) × (new ≡ after k old)

-- each number of the list is a byte
abbrev pub IsBytes : List ℕ → Type 0
IsBytes xs = (i : ℕ) → slice_index xs i < 256
