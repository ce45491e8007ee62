-- What a row of corrections counts: the messages to a target, without an owner, or the pairs of an owner and the target.
use Rattle.std.specs.Prelude.{◌≡◌, ◌⊎◌, Bool, true, false, Option, Some, None}
use Rattle.std.specs.Option.{option_cmp}
use Rattle.std.specs.Ordering.{ordering_then}
use Rattle.std.specs.declared.cmp.Ordering.{Ordering}
use Rattle.crgc_ids.specs.Actor.{Actor, IsActorBelow, same_actor}
use Rattle.row_sums.specs.Orders.{compare_actors}

-- no owner is below each owner
abbrev pub IsOwnerBelow : Option Actor → Option Actor → Type 0
IsOwnerBelow None None = ⊥
IsOwnerBelow None (Some b) = Unit {0}
IsOwnerBelow (Some a) None = ⊥
IsOwnerBelow (Some a) (Some b) = IsActorBelow a b

-- keys are ordered by owner, then by target
abbrev pub IsKeyBelow : Option Actor × Actor → Option Actor × Actor → Type 0
IsKeyBelow j k = IsOwnerBelow j.0 k.0 ⊎ ((j.0 ≡ k.0) × IsActorBelow j.1 k.1)

-- whether two owners are one, or there is none
abbrev pub same_owner : Option Actor → Option Actor → Bool
same_owner None None = true
same_owner None (Some b) = false
same_owner (Some a) None = false
same_owner (Some a) (Some b) = same_actor a b

-- keys are compared by owner, no owner first, then by target
abbrev pub compare_keys : Option Actor × Actor → Option Actor × Actor → Ordering
compare_keys j k = ordering_then (option_cmp compare_actors j.0 k.0) (compare_actors j.1 k.1)
