-- The rows of a bulletin, counted.
use Rattle.std.proofs.Common.{◌≡◌, ◌<◌, ◌^◌, List, Option, Some, None, subst, arith}
use Rattle.std.specs.List.{AllByRecursion}
use Rattle.crgc_ids.specs.Actor.{Actor, IsActorBelow, IsPairBelow, same_actor}
use Rattle.crgc_ids.specs.Rising.{IsRising}
use Rattle.crgc_ids.specs.declared.rising.ActorCount.{ActorCount}
use Rattle.crgc_ids.specs.declared.rising.PairCount.{PairCount}
use Rattle.crgc_ids.proofs.ActorLaws.{IsActorBelow-apart, same_actor-decides}
use Rattle.history_model.specs.declared.records.StateRow.{StateRow}
use Rattle.history_model.specs.Ledgers.{Ledger, RowsRise, pair_total}
use Rattle.delta_graph.specs.Sums.{CountsFit}
use Rattle.edge_table.specs.Table.{same_pair}
use Rattle.undo_log.specs.Noted.{noted_count}
use Rattle.shadow_rows.specs.Tabled.{AreCounts}
use Rattle.shadow_rows.proofs.FitLemmas.{pair-apart, rising-fits}
use Rattle.shadow_rows.proofs.PairLemmas.{same_pair-decides}

-- rows that rise, and whose counts are below 2^32, have room
pub counts-fit : (l : Ledger) → RowsRise l → AreCounts l.states l.sent l.created l.released → CountsFit l
counts-fit l up fits = record {
  received = rising-fits same_actor same_actor-decides IsActorBelow IsActorBelow-apart (λ (r : StateRow). r.actor) (λ (r : StateRow). r.received) (2 ^ 32) (omega arith) l.states up.states fits.of_states;
  sent = rising-fits same_actor same_actor-decides IsActorBelow IsActorBelow-apart (λ (r : ActorCount). r.actor) (λ (r : ActorCount). r.count) (2 ^ 32) (omega arith) l.sent up.sent fits.of_sent;
  created = λ b a. of_pairs l.created up.created fits.of_created (b, a);
  released = λ b a. of_pairs l.released up.released fits.of_released (b, a);
}
  where
    of_pairs : (rows : List PairCount) → IsRising (λ r s. IsPairBelow r.owner r.target s.owner s.target) rows → AllByRecursion (λ r. r.count < 4294967296) rows → (p : Actor × Actor) → pair_total p.0 p.1 rows < 2 ^ 32
    of_pairs rows up fits p = rising-fits {K = Actor × Actor} same_pair same_pair-decides (λ p q. IsPairBelow p.0 p.1 q.0 q.1) pair-apart (λ (r : PairCount). (r.owner, r.target)) (λ (r : PairCount). r.count) (2 ^ 32) (omega arith) rows up fits p

-- a count that is noted has room
pub noted-fits : (l : Ledger) → CountsFit l → (owner : Option Actor) (target : Actor) → noted_count owner target l.sent l.created < 4294967296
noted-fits l fits None target = fits.sent target
noted-fits l fits (Some owner) target = fits.created owner target

pub counts-same : (states states' : List StateRow) (sent sent' : List ActorCount) (created created' released released' : List PairCount) → states ≡ states' → sent ≡ sent' → created ≡ created' → released ≡ released' → AreCounts states sent created released → AreCounts states' sent' created' released'
counts-same states states' sent sent' created created' released released' e f g h counts = record {
  of_states = subst (AllByRecursion (λ r. r.received < 4294967296)) e counts.of_states;
  of_sent = subst (AllByRecursion (λ r. r.count < 4294967296)) f counts.of_sent;
  of_created = subst (AllByRecursion (λ r. r.count < 4294967296)) g counts.of_created;
  of_released = subst (AllByRecursion (λ r. r.count < 4294967296)) h counts.of_released;
}
