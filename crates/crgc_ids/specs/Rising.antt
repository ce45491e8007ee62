-- Lists whose rows rise strictly, in the order that `below` gives.
use Rattle.std.specs.Prelude.{List, [], ◌∷◌}
use Rattle.std.specs.List.{AllByRecursion}

-- each row is below all the later ones
abbrev pub IsRising : {X : Type 0} → (X → X → Type 0) → List X → Type 0
IsRising below [] = Unit {0}
IsRising below (x ∷ xs) = AllByRecursion (below x) xs × IsRising below xs
