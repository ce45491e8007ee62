-- Targets and their counts in the order of the targets.
use Rattle.std.specs.Prelude.{◌≡◌, ◌==◌, ◌<◌, ◌⊎◌, ◌++◌, ◌∷◌, [], ℕ, List, Option, length, not, slice_index_or}
use Rattle.std.specs.List.{AllByRecursion, filter}
use Rattle.std.specs.Map.{lookup}
use Rattle.crgc_ids.specs.Actor.{Actor, IsActorBelow, same_actor}
use Rattle.crgc_ids.specs.Rising.{IsRising}

-- each target is below the later ones
abbrev pub AreRising : List (Actor × ℕ) → Type 0
AreRising rows = IsRising (λ r s. IsActorBelow r.0 s.0) rows

-- all are below this one
abbrev pub AreBelow : List (Actor × ℕ) → Actor → Type 0
AreBelow rows target = AllByRecursion (λ row. IsActorBelow row.0 target) rows

-- the count that a list has for the target, which may be 0
abbrev pub found_in : List (Actor × ℕ) → Actor → Option ℕ
found_in rows target = lookup (same_actor target) rows

-- the target stands at this place
abbrev pub IsPlaceOf : List (Actor × ℕ) → Actor → ℕ → Type 0
IsPlaceOf rows target place =
    (place < length rows) × ((d : Actor × ℕ) → (slice_index_or rows place d).0 ≡ target)

-- those with a count above 0
abbrev pub standing : List (Actor × ℕ) → List (Actor × ℕ)
standing rows = filter (λ row. not (row.1 == 0)) rows

-- the row comes last, and those with a count of 0 may have gone
abbrev pub IsPushed : List (Actor × ℕ) → List (Actor × ℕ) → Actor × ℕ → Type 0
IsPushed old new row = (new ≡ old ++ row ∷ []) ⊎ (new ≡ standing old ++ row ∷ [])
