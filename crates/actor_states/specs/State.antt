-- What contracts see of one actor's state, and how its calls change it.
use Rattle.std.specs.Prelude.{◌≡◌, ◌+◌, ◌<◌, ◌^◌, if◌then◌else◌, ℕ, Bool, false, true, List, [], ◌∷◌, Option, None, Some, count_by}
use Rattle.crgc_ids.specs.Actor.{Actor, same_actor}
use Rattle.history_model.specs.Facts.{Fact, Flags, created, message_facts, received, released}
use Rattle.refob_counts.specs.Counts.{CountTheSame, IsGain, count_of}
use Rattle.entry_records.specs.Log.{Log, blank_log, flushed_log, log_with, may_flush, newborn_log, without_last_message}
use Rattle.entry_records.specs.Unflushed.{actor_count, pair_count}

-- whether it is busy, and a root; the actor whose child it is; what it holds; its log; and whether it was stopped
pub record State : Type 0 where
  pub busy : Bool
  pub root : Bool
  pub parent : Option Actor
  pub held : List (Actor × ℕ)
  pub log : Log
  pub stopped : Bool

-- the state of an actor that was not born
abbrev pub blank_state : Actor → State
blank_state a = record { busy = false; root = false; parent = None; held = []; log = blank_log a; stopped = false }

abbrev pub flags_of : State → Flags
flags_of s = record { busy = s.busy; root = s.root }

-- a flush of the actor is due: its log or its flags have something to tell
abbrev pub has_news : State → Bool
has_news s = may_flush s.log (flags_of s)

-- whether the parent, if there is one, is this actor
abbrev pub is_this : Option Actor → Actor → Bool
is_this None a = false
is_this (Some b) a = same_actor b a

-- the state with these facts more in its log
abbrev pub noting : List Fact → State → State
noting facts s = record s { log = log_with facts s.log }

-- nothing differs but what is held
abbrev pub DifferInHeld : State → State → Type 0
DifferInHeld old new = new ≡ record old { held = new.held }

-- nothing differs: each actor is held as often
abbrev pub IsAlike : State → State → Type 0
IsAlike old new = DifferInHeld old new × CountTheSame old.held new.held

-- these references are held more, and nothing else differs
abbrev pub Gains : State → State → List Actor → Type 0
Gains old new refs = DifferInHeld old new × IsGain old.held new.held refs

-- it is busy with a message, whose references it now holds, and has noted it
abbrev pub Takes : List Actor → State → State → Type 0
Takes refs old new = Gains (record (noting (received old.log.actor ∷ []) old) { busy = true }) new refs

-- a newborn is idle, and its log has what its birth notes; it holds these references
pub record IsNewborn (s : State) (a : Actor) (root : Bool) (parent : Option Actor) (refs : List Actor) : Type 0 where
  pub state : s ≡ record (blank_state a) { root = root; parent = parent; held = s.held; log = newborn_log a parent }
  pub held : (t : Actor) → count_of s.held t ≡ count_by (same_actor t) refs

-- what a child holds when it is born: itself, and its parent where it is supervised
abbrev pub child_refs : Actor → Actor → Bool → List Actor
child_refs child parent supervised = if supervised then child ∷ parent ∷ [] else child ∷ []

-- a child of the parent: it is no root
abbrev pub IsChild : State → Actor → Actor → Bool → Type 0
IsChild s child parent supervised = IsNewborn s child false (Some parent) (child_refs child parent supervised)

-- a seed: it is a root without a parent, and holds itself
abbrev pub IsSeed : State → Actor → Type 0
IsSeed s a = IsNewborn s a true None (a ∷ [])

-- one reference to the target is held less, and it noted that
abbrev pub Drops : Actor → State → State → Type 0
Drops target old new = Gains new (noting (released old.log.actor target ∷ []) old) (target ∷ [])

-- it noted a message with these references that it sent
abbrev pub Sends : Actor → List Actor → State → State → Type 0
Sends to refs old new = new ≡ noting (message_facts (record { from = old.log.actor; to = to; refs = refs })) old

-- the state without the last message that it noted as sent, which carried so many references
abbrev pub unsent : ℕ → State → State
unsent refs s = record s { log = without_last_message refs s.log }

-- its log is blank, and has the flags of this flush
abbrev pub Flushes : State → State → Type 0
Flushes old new = new ≡ record old { log = flushed_log old.log (flags_of old) }

-- what its parent notes then
abbrev pub parent_facts : Actor → Actor → Bool → List Fact
parent_facts child parent supervised = if supervised then created child parent ∷ [] else []

-- a parent of a newborn holds it, and notes that it holds its parent, where it is supervised
abbrev pub Begets : State → State → Actor → Actor → Bool → Type 0
Begets old new child parent supervised =
    (new ≡ record (noting (parent_facts child parent supervised) old) { held = new.held })
    × IsGain old.held new.held (child ∷ [])

-- none of its counts is so high that k more do not fit 32 bits
pub record HasRoom (s : State) (k : ℕ) : Type 0 where
  pub held : (a : Actor) → count_of s.held a + k < 2 ^ 32
  pub received : s.log.noted.received + k < 2 ^ 32
  pub sent : (a : Actor) → actor_count a s.log.noted.sent + k < 2 ^ 32
  pub created : (b a : Actor) → pair_count b a s.log.noted.created + k < 2 ^ 32
  pub released : (a : Actor) → actor_count a s.log.noted.released + k < 2 ^ 32
