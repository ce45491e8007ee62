-- The orders of rows that count.
use Rattle.std.specs.Prelude.{◌≡◌, ◌<◌, ◌⊎◌}
use Rattle.crgc_ids.specs.Actor.{IsActorBelow}
use Rattle.crgc_ids.specs.declared.rising.ActorCount.{ActorCount}
use Rattle.crgc_ids.specs.declared.rising.PairCount.{PairCount}

-- rows that count actors are ordered by actor, then by count
abbrev pub IsCountBelow : ActorCount → ActorCount → Type 0
IsCountBelow r s = IsActorBelow r.actor s.actor ⊎ ((r.actor ≡ s.actor) × (r.count < s.count))

-- rows that count pairs are ordered by owner, then by target, then by count
abbrev pub IsPairCountBelow : PairCount → PairCount → Type 0
IsPairCountBelow r s =
    IsActorBelow r.owner s.owner
    ⊎ ((r.owner ≡ s.owner) × (IsActorBelow r.target s.target ⊎ ((r.target ≡ s.target) × (r.count < s.count))))
