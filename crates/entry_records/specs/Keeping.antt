-- How rows keep what was noted, so that they can be added up without memory.
use Rattle.std.specs.Prelude.{◌≡◌, ◌<◌, ◌^◌, List}
use Rattle.std.specs.List.{AllByRecursion}
use Rattle.crgc_ids.specs.Actor.{Actor}
use Rattle.crgc_ids.specs.declared.rising.ActorCount.{ActorCount}
use Rattle.crgc_ids.specs.declared.rising.PairCount.{PairCount}
use Rattle.entry_records.specs.Unflushed.{actor_count, actors_in, pair_count, pairs_in}

-- each row counts its actor once, and no actor comes too often for a row
pub record KeepActors (rows : List ActorCount) : Type 0 where
  pub once : AllByRecursion (λ r. r.count ≡ 1) rows
  pub fit : (a : Actor) → actor_count a (actors_in rows) < 2 ^ 32

-- each row counts its pair once, and no pair comes too often for a row
pub record KeepPairs (rows : List PairCount) : Type 0 where
  pub once : AllByRecursion (λ r. r.count ≡ 1) rows
  pub fit : (b a : Actor) → pair_count b a (pairs_in rows) < 2 ^ 32

-- the rows of messages, of references made and of references given up
pub record KeepNotes (sent_rows : List ActorCount) (created_rows : List PairCount) (released_rows : List ActorCount) : Type 0 where
  pub sent : KeepActors sent_rows
  pub created : KeepPairs created_rows
  pub released : KeepActors released_rows
