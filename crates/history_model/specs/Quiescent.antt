-- The truth that the collector is for: live messages, actors that nobody can use any more, and quiet points.
use Rattle.std.specs.Prelude.{ℕ, ◌≡◌, ◌<◌, ◌⊎◌, IsTrue, IsFalse, List, [], ◌∷◌, length, ◌≢◌}
use Rattle.crgc_ids.specs.Actor.{Actor}
use Rattle.history_model.specs.declared.events.Event.{Event}
use Rattle.history_model.specs.Tally.{tally}
use Rattle.history_model.specs.Cluster.{Cluster, is_born}
use Rattle.history_model.specs.Messages.{Message, sent, message_at, waiting, was_admitted, copies, is_closed, is_lose}
use Rattle.history_model.specs.Held.{held}
use Rattle.history_model.specs.State.{is_busy, is_root, is_up}
use Rattle.history_model.specs.Streams.{can_flush, queue, stream}
use Rattle.history_model.specs.Folds.{cut_at}
use Rattle.crgc_ids.specs.Members.{IsAmong}

-- the message is under way between two nodes: its link is not closed, it was not admitted, and a copy is on the link
abbrev pub IsOnLink : List Event → Message → Type 0
IsOnLink h m =
    (k : ℕ) × (message_at m.from.node m.to.node k h ≡ m ∷ [])
    × IsFalse (is_closed m.from.node m.to.node h)
    × IsFalse (was_admitted m.from.node m.to.node k h)
    × (0 < copies m.from.node m.to.node k h)
    × (m.from.node ≢ m.to.node)

-- the message may still be taken: its recipient's node is up, and it waits there or is under way
abbrev pub IsLive : List Event → Message → Type 0
IsLive h m = IsTrue (is_up m.to.node h) × (IsAmong m (waiting m.to h) ⊎ IsOnLink h m)

-- nobody outside the actors q can use any of them, and no member acts of itself
pub record IsQuietSet (cl : Cluster) (h : List Event) (q : List Actor) : Type 0 where
  pub born : (a : Actor) → IsAmong a q → IsTrue (is_born a h)
  pub idle : (a : Actor) → IsAmong a q → IsFalse (is_busy a h)
  pub no_root : (a : Actor) → IsAmong a q → IsFalse (is_root a h)
  pub no_mail : (m : Message) → IsLive h m → ¬ IsAmong m.to q
  pub not_carried : (m : Message) → IsLive h m → (a : Actor) → IsAmong a q → ¬ IsAmong a m.refs
  pub holders : (b a : Actor) → IsAmong a q → IsTrue (is_up b.node h) → 0 < held cl b a h → IsAmong b q

-- the actor stands in some such set
abbrev pub IsQuiescent : Cluster → List Event → Actor → Type 0
IsQuiescent cl h a = (q : List Actor) × IsAmong a q × IsQuietSet cl h q

-- each message sent between two different nodes that are up is admitted, or a copy of it is on the link
abbrev pub IsDelivered : List Event → Type 0
IsDelivered h =
    (s d k : ℕ) → s ≢ d → IsTrue (is_up s h) → IsTrue (is_up d h) → k < length (sent s d h)
    → IsTrue (was_admitted s d k h) ⊎ (0 < copies s d k h)

-- no copy was lost between two different nodes that are up
abbrev pub LosesNothing : List Event → Type 0
LosesNothing h = (s d k : ℕ) → s ≢ d → IsTrue (is_up s h) → IsTrue (is_up d h) → tally (is_lose s d k) h ≡ 0

-- nothing is left to tell at node m
pub record IsQuietPoint (cl : Cluster) (m : ℕ) (h : List Event) : Type 0 where
  pub up : IsTrue (is_up m h)
  pub closed : (n k : ℕ) → n < cl.nodes → k < cl.nodes → IsFalse (is_up n h) → IsTrue (is_up k h) → IsTrue (is_closed n k h)
  pub flushed : (a : Actor) → IsTrue (is_born a h) → IsTrue (is_up a.node h) → IsFalse (can_flush cl a h)
  pub published : (n : ℕ) → IsTrue (is_up n h) → queue cl n h ≡ []
  pub folded : (n : ℕ) → n < cl.nodes → IsTrue (is_up n h) → cut_at cl m h n ≡ length (stream cl n h)
  pub delivered : IsDelivered h
