-- How rows and names keep what was admitted.
use Rattle.std.specs.Prelude.{◌≡◌, ◌<◌, ◌^◌, List, length}
use Rattle.std.specs.List.{AllByRecursion, list_any}
use Rattle.crgc_ids.specs.Actor.{Actor, same_actor}
use Rattle.crgc_ids.specs.Members.{IsAmong}
use Rattle.crgc_ids.specs.declared.rising.ActorCount.{ActorCount}
use Rattle.crgc_ids.specs.declared.rising.PairCount.{PairCount}
use Rattle.ingress_gateway.specs.Pending.{carried_count, message_count, named_count, names_in, pairs, recipients}
use Rattle.ingress_gateway.specs.NameSet.{NameSet, has_name}

-- each row counts its key once, no key comes too often for a row, each owner is the recipient of a message, and the set has
-- the actors that the rows name
pub record IsKept (messages : List ActorCount) (carried : List PairCount) (names : NameSet) : Type 0 where
  pub one_message : AllByRecursion (λ r. r.count ≡ 1) messages
  pub one_reference : AllByRecursion (λ r. r.count ≡ 1) carried
  pub owners : AllByRecursion (λ r. IsAmong r.owner (recipients messages)) carried
  pub messages_fit : (a : Actor) → message_count a (recipients messages) < 2 ^ 32
  pub carried_fit : (b a : Actor) → carried_count b a (pairs carried) < 2 ^ 32
  pub named : (a : Actor) → has_name names a ≡ list_any (same_actor a) (names_in (recipients messages) (pairs carried))
  pub count : length names.actors ≡ named_count (recipients messages) (pairs carried)
