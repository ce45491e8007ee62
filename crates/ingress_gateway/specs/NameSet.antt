-- A set of actors, with reserved room for more.
use Rattle.std.specs.Prelude.{◌≡◌, ◌≤◌, ℕ, Bool, List, length}
use Rattle.std.specs.List.{list_any}
use Rattle.crgc_ids.specs.Actor.{Actor, same_actor}

-- the actors, each once, and for how many more room is reserved
pub record NameSet : Type 0 where
  pub actors : List Actor
  pub room : ℕ

abbrev pub has_name : NameSet → Actor → Bool
has_name names a = list_any (same_actor a) names.actors

-- the same actors, and no less room
pub record HasSameNames (old new : NameSet) : Type 0 where
  pub names : (a : Actor) → has_name new a ≡ has_name old a
  pub count : length new.actors ≡ length old.actors
  pub room : old.room ≤ new.room
