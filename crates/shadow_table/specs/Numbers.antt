-- A number for each actor, kept by node and serial.
use Rattle.std.specs.Prelude.{◌≡◌, ◌+◌, ◌<◌, ℕ, if◌then◌else◌, List, [], length, slice_index_or}
use Rattle.crgc_ids.specs.Actor.{Actor}
use Rattle.shadow_table.specs.Shadows.{is_named, place_in}

-- the actor's number; 0 where there is no room for it
abbrev pub number_of : List (List ℕ) → Actor → ℕ
number_of nodes a = slice_index_or (slice_index_or nodes a.node []) a.serial 0

-- there is room for the actor's number
abbrev pub HasRoomFor : List (List ℕ) → Actor → Type 0
HasRoomFor nodes a = a.serial < length (slice_index_or nodes a.node [])

-- the numbers of the named actors are their places and one, those of all others are 0
abbrev pub AreOfNames : List (List ℕ) → List Actor → Type 0
AreOfNames nodes names = (a : Actor) → number_of nodes a ≡ (if is_named names a then place_in names a + 1 else 0)
