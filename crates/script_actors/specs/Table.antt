-- What contracts see of the table of a script's actors, and how its calls change it.
use Rattle.std.specs.Prelude.{◌≡◌, ◌≢◌, ◌+◌, ◌<◌, ◌==◌, if◌then◌else◌, ℕ, List, [], get_or, length, slice_get, Option, Some, None}
use Rattle.crgc_ids.specs.Actor.{Actor}
use Rattle.script_actors.specs.declared.rows.Row.{Row}

-- the rows of each node's actors, by their serials
abbrev pub Table : Type 0
Table = List (List Row)

-- the rows of node n
abbrev pub rows_on : Table → ℕ → List Row
rows_on t n = get_or t n []

-- the row of an actor; None where it was not born
abbrev pub row_at : Table → Actor → Option Row
row_at t a = slice_get (rows_on t a.node) a.serial

-- the actor has a row
abbrev pub IsHere : Table → Actor → Type 0
IsHere t a = a.serial < length (rows_on t a.node)

-- the number of its behaviour, and its names: None while they are with its turn
abbrev pub behaviour_in : Option Row → ℕ
behaviour_in None = 0
behaviour_in (Some row) = row.behaviour

abbrev pub names_in : Option Row → Option (List (List ℕ × Actor))
names_in None = None
names_in (Some row) = row.names

abbrev pub behaviour_at : Table → Actor → ℕ
behaviour_at t a = behaviour_in (row_at t a)

abbrev pub names_at : Table → Actor → Option (List (List ℕ × Actor))
names_at t a = names_in (row_at t a)

-- a row, by its parts
abbrev pub row : ℕ → Option (List (List ℕ × Actor)) → Row
row behaviour names = record { behaviour = behaviour; names = names }

-- the actor that is born next on node n
abbrev pub next_on : Table → ℕ → Actor
next_on t n = record { node = n; serial = length (rows_on t n) }

-- the actor's row is this one now, and no other row changed
pub record SetsRow (old new : Table) (a : Actor) (row : Row) : Type 0 where
  pub nodes : length new ≡ length old
  pub counts : (n : ℕ) → length (rows_on new n) ≡ length (rows_on old n)
  pub is_row : row_at new a ≡ Some row
  pub others : (b : Actor) → b ≢ a → row_at new b ≡ row_at old b

-- the actor that was next on its node has this row now, and no other row changed
pub record AddsRow (old new : Table) (a : Actor) (row : Row) : Type 0 where
  pub nodes : length new ≡ length old
  pub counts : (n : ℕ) → length (rows_on new n) ≡ (if a.node == n then length (rows_on old n) + 1 else length (rows_on old n))
  pub is_row : row_at new a ≡ Some row
  pub others : (b : Actor) → b ≢ a → row_at new b ≡ row_at old b
