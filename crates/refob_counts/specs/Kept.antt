-- What is kept of the targets after the first: nothing, one with its count, or a table of several.
use Rattle.std.specs.Prelude.{ℕ, List, [], ◌∷◌}
use Rattle.crgc_ids.specs.Actor.{Actor}
use Rattle.refob_counts.specs.declared.others.Kept.{Kept}
use Rattle.refob_counts.specs.declared.others.Kept.TheVariants.{Nothing, One, Several}

abbrev pub counts_in : Kept → List (Actor × ℕ)
counts_in Nothing = []
counts_in (One one) = one ∷ []
counts_in (Several table) = table.value
