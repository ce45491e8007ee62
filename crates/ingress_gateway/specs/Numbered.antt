-- Sets of numbers that come nearly in order.
use Rattle.std.specs.Prelude.{◌&&◌, nat_le, nat_lt, ℕ, Bool, List}
use Rattle.std.specs.List.{list_any}

-- a set of numbers, as the runs of it: the first number of each, and the one after its last
pub record Numbered : Type 0 where
  pub runs : List (ℕ × ℕ)

abbrev pub has_number : Numbered → ℕ → Bool
has_number n k = list_any (λ r. nat_le r.0 k && nat_lt k r.1) n.runs
