-- The makers of a generated script, from a number.
use Rattle.std.specs.Prelude.{ℕ, zero, suc, ◌+◌, ◌*◌, ◌/◌, ◌%◌, nat_lt, if◌then◌else◌, List, [], ◌∷◌}
use Rattle.workload_gen.specs.declared.makers.Maker.{Maker}

abbrev pub number_after : ℕ → ℕ
number_after x = (1103 * x + 12345) % 65536

-- the maker j of the number x: its node, its friend's node, and its share of the wakes
abbrev pub maker_of : ℕ → ℕ → ℕ → Maker
maker_of x size j = let node = (x / 16) % 4 in record {
  node = node;
  friend = (node + 1 + (x / 256) % 3) % 4;
  wakes = size / 16 + (if nat_lt j (size % 16) then 1 else 0);
}

-- n makers from the number j on, where x is the number before
unfoldable pub makers_from : ℕ → ℕ → ℕ → ℕ → List Maker
makers_from zero j x size = []
makers_from (suc n) j x size = maker_of (number_after x) size j ∷ makers_from n (j + 1) (number_after x) size

-- the 16 makers of a number below 65,536
unfoldable pub makers : ℕ → ℕ → List Maker
makers x size = makers_from 16 0 x size
