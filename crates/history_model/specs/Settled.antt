-- What soundness needs of the nodes that are taken as lost. The lost nodes of a fold have it, and so may others.
use Rattle.std.specs.Prelude.{ℕ, ◌≡◌, ◌<◌, ◌==◌, ◌&&◌, Bool, IsTrue, IsFalse, if◌then◌else◌, List, [], ◌∷◌, ◌++◌, take, flat_map}
use Rattle.history_model.specs.declared.events.Event.{Event}
use Rattle.history_model.specs.declared.events.Event.TheVariants.{Admit}
use Rattle.history_model.specs.Cluster.{Cluster}
use Rattle.history_model.specs.Messages.{Message, admitted_by}
use Rattle.history_model.specs.State.{is_up}
use Rattle.history_model.specs.Facts.{message_facts}
use Rattle.history_model.specs.Streams.{stream}
use Rattle.history_model.specs.Graph.{link_facts}
use Rattle.history_model.specs.Quiescent.{IsOnLink}

-- the messages that d admitted from s, in order
abbrev pub admitted_on : ℕ → ℕ → List Event → List Message
admitted_on s d [] = []
admitted_on s d (Admit x y k ∷ p) =
    if (x == s) && (y == d) then admitted_on s d p ++ admitted_by (Admit x y k) p else admitted_on s d p
admitted_on s d (_ ∷ p) = admitted_on s d p

-- `lost` may stand in the place of the lost nodes where the first c bulletins of each stream are folded: its nodes
-- have crashed, nothing is under way from them to a node outside that is up, and what nodes outside admitted from them is
-- folded
pub record AreSettled (cl : Cluster) (c : ℕ → ℕ) (lost : ℕ → Bool) (h : List Event) : Type 0 where
  pub crashed : (n : ℕ) → IsTrue (lost n) → IsFalse (is_up n h)
  pub closed : (m : Message) → IsTrue (is_up m.to.node h) → IsOnLink h m → IsTrue (lost m.from.node) → IsTrue (lost m.to.node)
  pub told : (s d : ℕ) → d < cl.nodes → IsTrue (lost s) → IsFalse (lost d)
      → link_facts (λ x. x == s) (take (c d) (stream cl d h)) ≡ flat_map message_facts (admitted_on s d h)
