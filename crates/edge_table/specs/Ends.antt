-- The edges of one place, by their numbers.
use Rattle.std.specs.Prelude.{◌≡◌, ◌==◌, ◌+◌, ◌<◌, ℕ, cond, List, [], ◌∷◌, length, slice_index_or}

-- the edges that lead from a place and those that lead to it, of each the place of its other end and its number, and for how many
-- more there is room
pub record PlaceEnds : Type 0 where
  pub from : List (ℕ × ℕ)
  pub to : List (ℕ × ℕ)
  pub from_room : ℕ
  pub to_room : ℕ

-- the ends of no place
abbrev pub no_ends : PlaceEnds
no_ends = record { from = []; to = []; from_room = 0; to_room = 0 }

-- the edges stay, whatever the room
pub record HasSameLists (old new : PlaceEnds) : Type 0 where
  pub from : new.from ≡ old.from
  pub to : new.to ≡ old.to

-- the edges of each place stay, whatever the room
pub record HaveSameLists (old new : List PlaceEnds) : Type 0 where
  pub long : length new ≡ length old
  pub from : (p : ℕ) → (slice_index_or new p no_ends).from ≡ (slice_index_or old p no_ends).from
  pub to : (p : ℕ) → (slice_index_or new p no_ends).to ≡ (slice_index_or old p no_ends).to

-- there is room for an edge from the one place to the other
pub record HasRoom (room : ℕ) (places : List PlaceEnds) (from to : ℕ) : Type 0 where
  pub edge : 0 < room
  pub leaves : 0 < (slice_index_or places from no_ends).from_room
  pub comes : 0 < (slice_index_or places to no_ends).to_room

-- where a place stands in a list of places, the first of which has number k
abbrev pub numbers_of : ℕ → ℕ → List ℕ → List ℕ
numbers_of place k [] = []
numbers_of place k (x ∷ xs) = cond (place == x) (k ∷ numbers_of place (k + 1) xs) (numbers_of place (k + 1) xs)
