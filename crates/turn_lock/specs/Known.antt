-- A lock and what a pass knows, as contracts see them.
use Rattle.std.specs.Prelude.{ℕ, List, Option, Some}
use Rattle.atomic_table.specs.Seated.{TableId}
use Rattle.turn_lock.specs.declared.object.Entry.{Entry}

-- which lock it is
pub record Origin (S : Type 0) : Type 0 where
  pub table : TableId
  pub start : Option S

-- a lock, and the state with which it was made
pub record Made (S : Type 0) : Type 0 where
  pub origin : Origin S
  pub start : S

abbrev pub made : {S : Type 0} → TableId → S → Made S
made table start = record { origin = record { table = table; start = Some start }; start = start }

pub record Known (S P R : Type 0) : Type 0 where
  pub origin : Origin S
  pub number : ℕ
  -- how many passes were split from it: those of the numbers 1 to this
  pub split : ℕ
  -- the numbers of the passes that were joined into it
  pub joined : List ℕ
  -- the history that it has seen
  pub seen : List (Entry P R)
  -- the calls that it made
  pub own : List (Entry P R)
  -- the calls of the passes that were joined into it
  pub gathered : List (Entry P R)
