-- What contracts see of an actor: its node's number, and its serial on that node.
use Rattle.std.specs.Prelude.{ℕ, ◌≡◌, ◌+◌, ◌*◌, ◌<◌, ◌⊎◌, ◌==◌, ◌&&◌, ◌||◌, Bool, nat_lt}
use Rattle.std.specs.Ordering.{nat_cmp, ordering_then}
use Rattle.std.specs.declared.cmp.Ordering.{Ordering}
use Rattle.crgc_ids.specs.declared.limits.TheConstants.{MOST_ACTORS}

pub record Actor : Type 0 where
  pub node : ℕ
  pub serial : ℕ

-- a node's number is below 16, a serial below 262,144
abbrev pub IsActor : Actor → Type 0
IsActor a = (a.node < 16) × (a.serial < MOST_ACTORS)

-- actors are ordered by node, then by serial
abbrev pub IsActorBelow : Actor → Actor → Type 0
IsActorBelow a b = (a.node < b.node) ⊎ ((a.node ≡ b.node) × (a.serial < b.serial))

-- pairs of an owner and a target are ordered by owner, then by target
abbrev pub IsPairBelow : Actor → Actor → Actor → Actor → Type 0
IsPairBelow owner target owner' target' =
    IsActorBelow owner owner' ⊎ ((owner ≡ owner') × IsActorBelow target target')

-- whether two actors are one
abbrev pub same_actor : Actor → Actor → Bool
same_actor a b = (a.node == b.node) && (a.serial == b.serial)

-- whether the first actor is below the second
abbrev pub is_actor_below : Actor → Actor → Bool
is_actor_below a b = nat_lt a.node b.node || ((a.node == b.node) && nat_lt a.serial b.serial)

-- actors are compared by node, then by serial
abbrev pub actor_cmp : Actor → Actor → Ordering
actor_cmp a b = ordering_then (nat_cmp a.node b.node) (nat_cmp a.serial b.serial)

-- the two numbers as one
abbrev pub actor_number : Actor → ℕ
actor_number a = a.node * MOST_ACTORS + a.serial
