-- What is true of a table of targets.
use Rattle.std.specs.Prelude.{◌≡◌, ◌⊎◌, ℕ, List, None}
use Rattle.crgc_ids.specs.Actor.{Actor}
use Rattle.refob_counts.specs.Counts.{count_of}
use Rattle.refob_counts.specs.Rising.{AreRising, found_in}

-- the targets of the vector rise, and no target stands in the vector and in the map
pub record IsTable (rising strays : List (Actor × ℕ)) : Type 0 where
  pub rises : AreRising rising
  pub apart : (a : Actor) → (found_in rising a ≡ None) ⊎ (count_of strays a ≡ 0)
