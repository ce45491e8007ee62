-- Rows whose numbers are in range.
use Rattle.std.specs.Prelude.{◌<◌, ◌^◌}
use Rattle.crgc_ids.specs.Actor.{IsActor}
use Rattle.crgc_ids.specs.declared.rising.ActorCount.{ActorCount}
use Rattle.crgc_ids.specs.declared.rising.PairCount.{PairCount}

abbrev pub IsInRange : ActorCount → Type 0
IsInRange r = IsActor r.actor × (r.count < 2 ^ 32)

abbrev pub IsPairInRange : PairCount → Type 0
IsPairInRange r = IsActor r.owner × IsActor r.target × (r.count < 2 ^ 32)
