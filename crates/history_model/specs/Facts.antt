-- Facts: what events note in actors' logs, what entries, windows and bulletins carry. Adding up is `++`,
-- and every count of a bulletin is a tally.
use Rattle.std.specs.Prelude.{◌==◌, Bool, false, ◌&&◌, ◌||◌, if◌then◌else◌, List, [], ◌∷◌, map}
use Rattle.crgc_ids.specs.Actor.{Actor}
use Rattle.history_model.specs.declared.events.Event.{Event}
use Rattle.history_model.specs.declared.events.Event.TheVariants.{Seed, Tie, Take, Spawn, Send, Drop}
use Rattle.history_model.specs.Cluster.{Cluster, same_actor, newborn}
use Rattle.history_model.specs.Messages.{Message}

-- an actor's flags at a moment
pub record Flags : Type 0 where
  pub busy : Bool
  pub root : Bool

pub data Fact : Type 0 where
  -- the actor took a message
  received : Actor → Fact
  -- a message was sent to the actor
  sent_to : Actor → Fact
  -- a reference to the second was made for the first
  created : Actor → Actor → Fact
  -- the first gave up a reference to the second
  released : Actor → Actor → Fact
  -- the actor's flags when it was flushed
  flagged : Actor → Flags → Fact

abbrev pub is_received : Actor → Fact → Bool
is_received a (received b) = same_actor b a
is_received a _ = false

abbrev pub is_sent_to : Actor → Fact → Bool
is_sent_to a (sent_to b) = same_actor b a
is_sent_to a _ = false

abbrev pub is_created : Actor → Actor → Fact → Bool
is_created b a (created x y) = same_actor x b && same_actor y a
is_created b a _ = false

abbrev pub is_released : Actor → Actor → Fact → Bool
is_released b a (released x y) = same_actor x b && same_actor y a
is_released b a _ = false

abbrev pub is_flagged : Actor → Fact → Bool
is_flagged a (flagged b flags) = same_actor b a
is_flagged a _ = false

-- whether the fact names the actor
abbrev pub names : Actor → Fact → Bool
names a (received b) = same_actor b a
names a (sent_to b) = same_actor b a
names a (created x y) = same_actor x a || same_actor y a
names a (released x y) = same_actor x a || same_actor y a
names a (flagged b flags) = same_actor b a

-- what a message stands for, where it is sent and where it is admitted
abbrev pub message_facts : Message → List Fact
message_facts m = sent_to m.to ∷ map (created m.to) m.refs

-- a fact, and the actor in whose log it is noted
pub record Note : Type 0 where
  pub by : Actor
  pub fact : Fact

abbrev pub note_by : Actor → Fact → Note
note_by a f = record { by = a; fact = f }

-- what the event notes; each reference that a birth or a tie gives is noted by its target. In the other forms nobody sends
-- or takes a message, gets a reference or gives one up
abbrev pub notes : Cluster → Event → List Event → List Note
notes cl (Seed n) p = note_by (newborn n p) (created (newborn n p) (newborn n p)) ∷ []
notes cl (Tie o t) p = note_by t (created o t) ∷ []
notes cl (Take a) p = note_by a (received a) ∷ []
notes cl (Spawn a) p =
    note_by (newborn a.node p) (created (newborn a.node p) (newborn a.node p))
    ∷ note_by (newborn a.node p) (created a (newborn a.node p))
    ∷ (if cl.version == 2 then note_by a (created (newborn a.node p) a) ∷ [] else [])
notes cl (Send f t refs) p = map (note_by f) (message_facts (record { from = f; to = t; refs = refs }))
notes cl (Drop a t) p = note_by a (released a t) ∷ []
notes cl _ p = []
