-- How many items of a list pass a test.
use Rattle.std.specs.Prelude.{ℕ, ◌+◌, Bool, if◌then◌else◌, List, [], ◌∷◌}

abbrev pub tally : {X : Type 0} → (X → Bool) → List X → ℕ
tally test [] = 0
tally test (x ∷ xs) = if test x then tally test xs + 1 else tally test xs
