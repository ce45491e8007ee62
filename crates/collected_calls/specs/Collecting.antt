-- How a node's collector stands to the calls of the pass that claimed its node.
use Rattle.std.specs.Prelude.{ℕ, ◌≡◌, ◌⊎◌, [], ◌∷◌, Bool, true, false, List, nat_lt, Some}
use Rattle.std.specs.Option.{is_some}
use Rattle.crgc_ids.specs.Actor.{Actor}
use Rattle.history_model.specs.Cluster.{Cluster}
use Rattle.history_model.specs.Folds.{Fold}
use Rattle.operation_model.specs.declared.replies.Reply.TheVariants as replies
use Rattle.operation_model.specs.Deeds.{Deed, handed, swept}
use Rattle.operation_model.specs.Hands.{given, has_claimed, own_stopped}
use Rattle.operation_model.specs.Turns.{Calls}
use Rattle.collector.specs.Collected.{Collected, IsFedBy, cut_of, has_number, node_count, was_stopped}
use Rattle.collector.specs.Taking.{IsOfStreams}

-- the streams have what the pass was given for node n, each under its number
abbrev pub HaveGiven : ℕ → Calls → Fold → Type 0
HaveGiven n own streams = (o k : ℕ) (bytes : List ℕ) → given n o k own ≡ Some bytes → IsOfStreams streams o k bytes

-- the collector is of the cluster, and the pass has claimed its node; exactly what the pass was given for that node is folded, and
-- nothing waits
pub record HasCollected (cl : Cluster) (own : Calls) (c : Collected) : Type 0 where
  pub nodes : node_count c ≡ cl.nodes
  pub claimed : has_claimed c.node own ≡ true
  pub folded : (o k : ℕ) → nat_lt k (cut_of c o) ≡ is_some (given c.node o k own)
  pub none_waits : (o k : ℕ) → has_number c o k ≡ nat_lt k (cut_of c o)
  pub fed : (streams : Fold) → HaveGiven c.node own streams → IsFedBy cl streams c

-- and it remembers as stopped exactly whom the pass's sweeps for that node stopped
pub record IsCollectorOf (cl : Cluster) (own : Calls) (c : Collected) : Type 0 where
  pub collected : HasCollected cl own c
  pub stopped : (a : Actor) → a.node ≡ c.node → was_stopped c a ≡ own_stopped own a

-- and it remembers as stopped whom those sweeps stopped, and maybe more
pub record RemembersMore (cl : Cluster) (own : Calls) (c : Collected) : Type 0 where
  pub collected : HasCollected cl own c
  pub stopped : (a : Actor) → a.node ≡ c.node → own_stopped own a ≡ true → was_stopped c a ≡ true

-- the deed gives a collector something, or is its sweep
abbrev pub is_collecting : Deed → Bool
is_collecting (handed n o k bytes) = true
is_collecting (swept v) = true
is_collecting d = false

-- one of the calls was answered that the node is down
abbrev pub WasToldDown : ℕ → Calls → Type 0
WasToldDown n [] = ⊥
WasToldDown n (e ∷ earlier) = (e.reply ≡ replies.Down n) ⊎ WasToldDown n earlier
