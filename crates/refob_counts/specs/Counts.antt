-- Held references, as a list of targets and their counts.
use Rattle.std.specs.Prelude.{◌≡◌, ◌≢◌, ◌+◌, ◌∷◌, ℕ, Bool, true, List, Option, Some, None, count_by, unwrap_or}
use Rattle.std.specs.Map.{lookup}
use Rattle.crgc_ids.specs.Actor.{Actor, same_actor}

-- how many references to the target are held
abbrev pub count_of : List (Actor × ℕ) → Actor → ℕ
count_of counts target = unwrap_or (lookup (same_actor target) counts) 0

-- the target has this count now, and each other actor the count that it had
pub record IsCountChange (old new : List (Actor × ℕ)) (target : Actor) (count : ℕ) : Type 0 where
  pub changed : count_of new target ≡ count
  pub others : (a : Actor) → a ≢ target → count_of new a ≡ count_of old a

-- each actor has the count that it had
abbrev pub CountTheSame : List (Actor × ℕ) → List (Actor × ℕ) → Type 0
CountTheSame old new = (a : Actor) → count_of new a ≡ count_of old a

-- each actor has one more for each time that it is among these
abbrev pub IsGain : List (Actor × ℕ) → List (Actor × ℕ) → List Actor → Type 0
IsGain old new refs = (a : Actor) → count_of new a ≡ count_of old a + count_by (same_actor a) refs

-- the counts, where that of the first target, if there is one, stands beside the others
abbrev pub with_first : Option (Actor × ℕ) → List (Actor × ℕ) → List (Actor × ℕ)
with_first None others = others
with_first (Some first) others = first ∷ others

-- whether the place of the first target is that of this one, or of none
abbrev pub is_free_for : Option (Actor × ℕ) → Actor → Bool
is_free_for None target = true
is_free_for (Some first) target = same_actor first.0 target
