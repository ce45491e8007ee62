-- Whom and what an event is of: the actors that act in it or are used by it, and the messages that it moves. What it means
-- that nobody uses an actor any more, and that only live messages are taken.
use Rattle.std.specs.Prelude.{◌≡◌, ◌⊎◌, IsFalse, flat_map, List, [], ◌∷◌, ◌++◌, take}
use Rattle.crgc_ids.specs.Actor.{Actor}
use Rattle.crgc_ids.specs.Members.{IsAmong}
use Rattle.history_model.specs.declared.events.Event.{Event}
use Rattle.history_model.specs.declared.events.Event.TheVariants.{Seed, Tie, Wake, Take, Spawn, Send, Drop, Retire, Rest, Flush, Publish, Window, Admit, Lose, Repeat, Crash, Remove, Hand, Sweep}
use Rattle.history_model.specs.Cluster.{Cluster, newborn}
use Rattle.history_model.specs.Messages.{Message, admitted_by, waiting}
use Rattle.history_model.specs.Held.{held}
use Rattle.history_model.specs.Streams.{can_flush}
use Rattle.history_model.specs.Legal.{IsLegal}
use Rattle.history_model.specs.Quiescent.{IsLive}

-- the actors that the event is of: who is born, acts or is flushed, and to whom a reference is tied, used, carried or given
-- up. The last nine forms are of nodes, links and bulletins
abbrev pub actors_in : Event → List Event → List Actor
actors_in (Seed n) p = newborn n p ∷ []
actors_in (Tie o t) p = o ∷ t ∷ []
actors_in (Wake a) p = a ∷ []
actors_in (Take a) p = a ∷ []
actors_in (Spawn a) p = a ∷ newborn a.node p ∷ []
actors_in (Send f t refs) p = f ∷ t ∷ refs
actors_in (Drop a t) p = a ∷ t ∷ []
actors_in (Retire a) p = a ∷ []
actors_in (Rest a) p = a ∷ []
actors_in (Flush a) p = a ∷ []
actors_in (Publish n) p = []
actors_in (Window d s) p = []
actors_in (Admit s d k) p = []
actors_in (Lose s d k) p = []
actors_in (Repeat s d k) p = []
actors_in (Crash n) p = []
actors_in (Remove m n) p = []
actors_in (Hand m o k) p = []
actors_in (Sweep m) p = []

-- the message that the event sends; only a send sends one
abbrev pub sent_by : Event → List Message
sent_by (Send f t refs) = record { from = f; to = t; refs = refs } ∷ []
sent_by _ = []

-- the message that the event takes; only a take takes one
abbrev pub taken_by : Event → List Event → List Message
taken_by (Take a) p = take 1 (waiting a p)
taken_by _ p = []

-- the messages that the event sends, admits or takes
abbrev pub messages_in : Event → List Event → List Message
messages_in e p = sent_by e ++ (admitted_by e p ++ taken_by e p)

-- in every longer legal history, whatever an event sends, admits or takes was live at the moment h, or was sent since
abbrev pub OnlyLiveMove : Cluster → List Event → Type 0
OnlyLiveMove cl h =
    (e : Event) (q : List Event) → IsLegal cl (e ∷ (q ++ h)) → (m : Message) → IsAmong m (messages_in e (q ++ h))
    → IsLive h m ⊎ IsAmong m (flat_map sent_by (e ∷ q))

-- in every longer legal history: no event is of the actor but its flush, once at most; no message that is moved goes to it or
-- carries it; and each actor holds as many references to it as at the moment h
pub record IsUnused (cl : Cluster) (h : List Event) (a : Actor) : Type 0 where
  pub actors : (e : Event) (q : List Event) → IsLegal cl (e ∷ (q ++ h)) → IsAmong a (actors_in e (q ++ h)) → e ≡ Flush a
  pub flushed : (q : List Event) → IsLegal cl (q ++ (Flush a ∷ h)) → IsFalse (can_flush cl a (q ++ (Flush a ∷ h)))
  pub messages : (e : Event) (q : List Event) → IsLegal cl (e ∷ (q ++ h)) → (m : Message) → IsAmong m (messages_in e (q ++ h))
      → ¬ IsAmong a (m.to ∷ m.refs)
  pub references : (q : List Event) → IsLegal cl (q ++ h) → (b : Actor) → held cl b a (q ++ h) ≡ held cl b a h
