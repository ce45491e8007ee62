-- Counts of faults.
use Rattle.std.specs.Prelude.{◌≡◌, ℕ, ◌+◌, ◌<◌, ◌⊎◌, min}

-- the count rose, or it stands at the last value of its type, where it stands still
abbrev pub CountRose : ℕ → ℕ → Type 0
CountRose old new = (old < new) ⊎ (new ≡ 18446744073709551615)

-- one more, up to the last value of the type
abbrev pub raised : ℕ → ℕ
raised count = min (count + 1) 18446744073709551615
