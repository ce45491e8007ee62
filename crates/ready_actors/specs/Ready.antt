-- Sets of actors, in order.
use Rattle.std.specs.Prelude.{◌≡◌, ◌⊎◌, ◌==◌, ◌&&◌, not, ℕ, Bool, true, List, Option, Some, None, ⊤}
use Rattle.std.specs.List.{list_any}
use Rattle.crgc_ids.specs.Actor.{Actor, IsActorBelow, same_actor}
use Rattle.ready_actors.specs.Flags.{IsFirstOf, IsNoneOf}

-- whether the actor is one of them
abbrev pub has_actor : List Actor → Actor → Bool
has_actor actors a = list_any (same_actor a) actors

-- the actor is above the one that is given, if one is
abbrev pub IsAbove : Option Actor → Actor → Type 0
IsAbove None a = ⊤
IsAbove (Some b) a = IsActorBelow b a

-- the second actor is the first one, or above it
abbrev pub IsFrom : Actor → Actor → Type 0
IsFrom b a = (b ≡ a) ⊎ IsActorBelow b a

-- it is the first of them on the node, from this serial on
pub record IsFirstOnFrom (actors : List Actor) (node from : ℕ) (first : Actor) : Type 0 where
  pub on_node : first.node ≡ node
  pub first_of : IsFirstOf (λ k. has_actor actors (record { node = node; serial = k })) from first.serial

-- none of them is on the node, from this serial on
abbrev pub IsNoneOnFrom : List Actor → ℕ → ℕ → Type 0
IsNoneOnFrom actors node from = IsNoneOf (λ k. has_actor actors (record { node = node; serial = k })) from

-- it is the lowest of them of which this is true
pub record IsLowestOf (actors : List Actor) (P : Actor → Type 0) (first : Actor) : Type 0 where
  pub there : has_actor actors first ≡ true
  pub one : P first
  pub lowest : (a : Actor) → has_actor actors a ≡ true → P a → IsFrom first a

-- it is true of none of them
abbrev pub IsOfNone : List Actor → (Actor → Type 0) → Type 0
IsOfNone actors P = (a : Actor) → has_actor actors a ≡ true → P a → ⊥

-- those on the node left, and the others stay
abbrev pub IsLeft : List Actor → List Actor → ℕ → Type 0
IsLeft old new n = (a : Actor) → has_actor new a ≡ (not (a.node == n) && has_actor old a)
