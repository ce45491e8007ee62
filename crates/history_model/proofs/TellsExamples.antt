-- What bulletins tell, computed on one worked history. Node 0 crashes after it admitted a message from 1.0 and sent one to 1.1,
-- the child of 1.0, which node 1 admitted. Node 1 publishes a Delta, and a Final when it removes node 0.
use Rattle.std.proofs.Common.{◌≡◌, ◌+◌, ◌&&◌, ℕ, Bool, true, false, cond, List, [], ◌∷◌, drop, refl, sym, ◌∙◌, ap, ap₂, arith}
use Rattle.std.specs.Prelude.{None, Option, Some, unwrap_or}
use Rattle.crgc_ids.specs.Actor.{Actor, same_actor}
use Rattle.crgc_ids.specs.Greatest.{greatest}
use Rattle.crgc_ids.specs.LostNodes.{lost_nodes}
use Rattle.crgc_ids.specs.declared.rising.ActorCount.{ActorCount}
use Rattle.crgc_ids.specs.declared.rising.PairCount.{PairCount}
use Rattle.history_model.specs.declared.events.Event.{Event}
use Rattle.history_model.specs.declared.events.Event.TheVariants.{Seed, Tie, Wake, Take, Spawn, Send, Drop, Rest, Flush, Publish, Admit, Crash, Remove, Hand}
use Rattle.history_model.specs.declared.records.Delta.{Delta}
use Rattle.history_model.specs.declared.records.StateRow.{StateRow}
use Rattle.history_model.specs.declared.records.Window.{Window}
use Rattle.history_model.specs.Cluster.{Cluster}
use Rattle.history_model.specs.Tally.{tally}
use Rattle.history_model.specs.Facts.{Fact, Flags, created, flagged, is_created, received, released, sent_to}
use Rattle.history_model.specs.Folds.{Fold, folded, is_lost, lost_of}
use Rattle.history_model.specs.Graph.{admitted_count, carried_count, created_count, known_actors, own_flags, received_count, released_count, rising_actors, told_count}
use Rattle.history_model.specs.Ledgers.{delta_ledger, ledger_names, pair_total, received_total, actor_total, row_flags, window_ledger}
use Rattle.history_model.specs.Live.{busy_count, is_ready, live_count}
use Rattle.history_model.specs.Streams.{delta, final_of, stream}
use Rattle.history_model.specs.Tells.{TellsDelta, TellsWindow}
use Rattle.history_model.proofs.Basics.{same_actor-sym}

abbrev cluster : Cluster
cluster = record { nodes = 2; version = 1 }

abbrev actor : ℕ → ℕ → Actor
actor n s = record { node = n; serial = s }

-- the history, the newest event first
abbrev history : List Event
history =
    Hand 1 1 1 ∷ Remove 1 0 ∷ Hand 1 1 0 ∷ Publish 1
    ∷ Flush (actor 1 1) ∷ Flush (actor 1 0) ∷ Crash 0 ∷ Rest (actor 1 1)
    ∷ Take (actor 1 1) ∷ Admit 0 1 0 ∷ Send (actor 0 0) (actor 1 1) [] ∷ Take (actor 0 0)
    ∷ Admit 1 0 0 ∷ Rest (actor 1 0) ∷ Drop (actor 1 0) (actor 1 1) ∷ Send (actor 1 0) (actor 0 0) (actor 1 1 ∷ [])
    ∷ Spawn (actor 1 0) ∷ Wake (actor 1 0) ∷ Tie (actor 1 0) (actor 0 0) ∷ Seed 1
    ∷ Seed 0 ∷ []

-- ---- what node 1 published, as facts and as records

abbrev flags : Bool → Bool → Flags
flags busy root = record { busy = busy; root = root }

abbrev published : List Fact
published =
    flagged (actor 1 0) (flags false true) ∷ created (actor 1 0) (actor 1 0) ∷ sent_to (actor 0 0) ∷ created (actor 0 0) (actor 1 1)
    ∷ released (actor 1 0) (actor 1 1) ∷ flagged (actor 1 1) (flags false false) ∷ created (actor 1 1) (actor 1 1)
    ∷ created (actor 1 0) (actor 1 1) ∷ received (actor 1 1) ∷ []

abbrev removed : List Fact
removed = sent_to (actor 1 1) ∷ []

stream-1 : stream cluster 1 history ≡ delta published ∷ final_of 0 removed ∷ []
stream-1 = refl

abbrev state : Actor → ℕ → Bool → Bool → StateRow
state a n busy root = record { actor = a; received = n; busy = busy; root = root }

abbrev count : Actor → ℕ → ActorCount
count a n = record { actor = a; count = n }

abbrev pair : Actor → Actor → ℕ → PairCount
pair b a n = record { owner = b; target = a; count = n }

abbrev first : Delta
first = record {
  node = 1;
  states = state (actor 1 0) 0 false true ∷ state (actor 1 1) 1 false false ∷ [];
  sent = count (actor 0 0) 1 ∷ [];
  created = pair (actor 0 0) (actor 1 1) 1 ∷ pair (actor 1 0) (actor 1 0) 1 ∷ pair (actor 1 0) (actor 1 1) 1 ∷ pair (actor 1 1) (actor 1 1) 1 ∷ [];
  released = pair (actor 1 0) (actor 1 1) 1 ∷ [];
}

abbrev second : Window
second = record { at = 1; from = 0; messages = count (actor 1 1) 1 ∷ []; carried = [] }

-- ---- the records tell the facts

-- a test that passes counts one
one : (v w : Bool) → v ≡ w → cond v 1 0 ≡ 0 + cond w 1 0
one v w e = ap (λ x. cond x 1 0) e ∙ alone w
  where
    alone : (x : Bool) → cond x 1 0 ≡ 0 + cond x 1 0
    alone true = refl
    alone false = refl

-- tests of actors and pairs may be turned around
turned : (x y b a : Actor) → (same_actor x b && same_actor y a) ≡ (same_actor b x && same_actor a y)
turned x y b a = ap₂ (λ v w. v && w) (same_actor-sym x b) (same_actor-sym y a)

-- a reference that was made counts one
made : (x y b a : Actor) (rest : List Fact) → tally (is_created b a) (created x y ∷ rest) ≡ cond (same_actor b x && same_actor a y) 1 0 + tally (is_created b a) rest
made x y b a rest = ap (λ v. cond v (tally (is_created b a) rest + 1) (tally (is_created b a) rest)) (turned x y b a) ∙ added (same_actor b x && same_actor a y) (tally (is_created b a) rest)
  where
    added : (v : Bool) (n : ℕ) → cond v (n + 1) n ≡ cond v 1 0 + n
    added true n = omega arith
    added false n = omega arith

-- the Delta's rows stand by actor and pair, the facts as they were noted
first-tells : TellsDelta 1 first published
first-tells = (
  refl,
  record {
    received = λ a. took (same_actor a (actor 1 0)) (same_actor a (actor 1 1)) (same_actor (actor 1 1) a) (same_actor-sym (actor 1 1) a);
    flags = λ a. ap₂ (λ v w. has v w) (same_actor-sym a (actor 1 0)) (same_actor-sym a (actor 1 1));
    sent = λ a. sym (one (same_actor (actor 0 0) a) (same_actor a (actor 0 0)) (same_actor-sym (actor 0 0) a));
    created = λ b a. sym (
        made (actor 1 0) (actor 1 0) b a (sent_to (actor 0 0) ∷ created (actor 0 0) (actor 1 1) ∷ rest)
        ∙ ap (λ n. counted b a (actor 1 0) (actor 1 0) + n) (made (actor 0 0) (actor 1 1) b a rest
        ∙ ap (λ n. counted b a (actor 0 0) (actor 1 1) + n) (made (actor 1 1) (actor 1 1) b a (created (actor 1 0) (actor 1 1) ∷ received (actor 1 1) ∷ [])
        ∙ ap (λ n. counted b a (actor 1 1) (actor 1 1) + n) (made (actor 1 0) (actor 1 1) b a (received (actor 1 1) ∷ []))))
        ∙ in-order (counted b a (actor 0 0) (actor 1 1)) (counted b a (actor 1 0) (actor 1 0)) (counted b a (actor 1 0) (actor 1 1)) (counted b a (actor 1 1) (actor 1 1))
        );
    released = λ b a. sym (one (same_actor (actor 1 0) b && same_actor (actor 1 1) a) (same_actor b (actor 1 0) && same_actor a (actor 1 1)) (turned (actor 1 0) (actor 1 1) b a));
  },
)
  where
    has : Bool → Bool → Option Flags
    has v w = cond v (Some (unwrap_or (cond w (Some (flags false false)) None) (flags false true))) (cond w (Some (flags false false)) None)

    rest : List Fact
    rest = released (actor 1 0) (actor 1 1) ∷ flagged (actor 1 1) (flags false false) ∷ created (actor 1 1) (actor 1 1) ∷ created (actor 1 0) (actor 1 1) ∷ received (actor 1 1) ∷ []

    counted : Actor → Actor → Actor → Actor → ℕ
    counted b a x y = cond (same_actor b x && same_actor a y) 1 0

    took : (v w u : Bool) → u ≡ w → (0 + cond v 0 0) + cond w 1 0 ≡ cond u 1 0
    took v w u e = ap (λ x. (0 + cond v 0 0) + cond x 1 0) (sym e) ∙ alone v u
      where
        alone : (x y : Bool) → (0 + cond x 0 0) + cond y 1 0 ≡ cond y 1 0
        alone true true = refl
        alone true false = refl
        alone false true = refl
        alone false false = refl

    in-order : (p q r s : ℕ) → q + (p + (s + (r + 0))) ≡ (((0 + p) + q) + r) + s
    in-order p q r s = omega arith

second-tells : TellsWindow 1 0 second removed
second-tells = (
  refl,
  refl,
  record {
    received = λ a. refl;
    flags = λ a. refl;
    sent = λ a. sym (one (same_actor (actor 1 1) a) (same_actor a (actor 1 1)) (same_actor-sym (actor 1 1) a));
    created = λ b a. refl;
    released = λ b a. refl;
  },
)

-- ---- what is counted

-- the counts of the records
records-count : (received_total (actor 1 1) first.states ≡ 1) × (actor_total (actor 0 0) first.sent ≡ 1) × (pair_total (actor 1 0) (actor 1 1) first.created ≡ 1)
    × (pair_total (actor 1 0) (actor 1 1) first.released ≡ 1) × (actor_total (actor 1 1) second.messages ≡ 1)
    × (row_flags (actor 1 0) first.states ≡ Some (flags false true)) × (row_flags (actor 0 0) first.states ≡ None)
records-count = (refl, refl, refl, refl, refl, refl, refl)

abbrev fold : Fold
fold = folded cluster 1 history

abbrev lost : ℕ → Bool
lost n = is_lost cluster fold n

-- node 0 is lost, so its message to 1.1 counts as node 1 admitted it: nobody told that it was sent
fold-counts : (lost_of cluster fold ≡ 0 ∷ []) × (received_count cluster fold (actor 1 1) ≡ 1)
    × (told_count cluster lost fold (actor 1 1) ≡ 0) × (admitted_count cluster lost fold (actor 1 1) ≡ 1)
    × (told_count cluster lost fold (actor 0 0) ≡ 1) × (created_count cluster lost fold (actor 1 0) (actor 1 1) ≡ 1)
    × (released_count cluster fold (actor 1 0) (actor 1 1) ≡ 1) × (carried_count cluster lost fold (actor 1 1) (actor 1 1) ≡ 0)
unfolding greatest lost_nodes
fold-counts = (refl, refl, refl, refl, refl, refl, refl, refl)

-- the known actors are those that the rows name, and their own flags those of their rows
fold-knows : (known_actors cluster fold ≡ actor 0 0 ∷ actor 1 0 ∷ actor 1 1 ∷ [])
    × (rising_actors (ledger_names (delta_ledger first)) ≡ known_actors cluster fold) × (ledger_names (window_ledger second) ≡ actor 1 1 ∷ [])
    × (own_flags fold (actor 1 1) ≡ Some (flags false false)) × (own_flags fold (actor 0 0) ≡ None)
fold-knows = (refl, refl, refl, refl, refl)

-- ---- what is live

-- the history without its last n events
abbrev without_last : ℕ → List Event
without_last n = drop n history

-- once 0.0 has sent, its message is live, and 1.1 is ready only when it is admitted; when it is taken and 1.1 rests, nothing is
-- live, and 0.0 is busy until its node crashes
live-then : (live_count cluster (without_last 10) ≡ 1) × (is_ready (actor 1 1) (without_last 10) ≡ false)
    × (live_count cluster (without_last 9) ≡ 1) × (is_ready (actor 1 1) (without_last 9) ≡ true)
    × (live_count cluster (without_last 7) ≡ 0) × (busy_count cluster (without_last 7) ≡ 1) × (busy_count cluster history ≡ 0)
live-then = (refl, refl, refl, refl, refl, refl, refl)
