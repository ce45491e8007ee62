-- Links on which nothing can be carried.
use Rattle.std.specs.Prelude.{◌≡◌, ◌≢◌, ◌<◌, ◌⊎◌, ℕ, List, None}
use Rattle.history_model.specs.declared.events.Event.{Event}
use Rattle.traffic.specs.Readings.{IsHead}

-- nothing can be carried on the link from f to d
abbrev pub IsStill : ℕ → ℕ → List Event → Type 0
IsStill f d h = IsHead f d h None

-- the link from f to d comes before the one from s to t: links are ordered by source, then by destination
abbrev pub IsLinkBefore : ℕ → ℕ → ℕ → ℕ → Type 0
IsLinkBefore f d s t = (f < s) ⊎ ((f ≡ s) × (d < t))

-- nothing can be carried on the links before that from s to t, where there are so many nodes
abbrev pub AreStillBefore : ℕ → ℕ → ℕ → List Event → Type 0
AreStillBefore nodes s t h = (f d : ℕ) → IsLinkBefore f d s t → d < nodes → f ≢ d → IsStill f d h
