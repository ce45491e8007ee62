-- What contracts see of an actor's log.
use Rattle.std.specs.Prelude.{◌≡◌, ◌||◌, ℕ, Bool, not, List, [], ◌∷◌, Option, Some, None}
use Rattle.crgc_ids.specs.Actor.{Actor}
use Rattle.history_model.specs.declared.events.Event.{Event}
use Rattle.history_model.specs.declared.records.Entry.{Entry}
use Rattle.history_model.specs.Cluster.{Cluster}
use Rattle.history_model.specs.Facts.{Fact, Flags, created, flagged, received, released, sent_to}
use Rattle.history_model.specs.Ledgers.{CountAlike, IsInOrder, entry_ledger, fact_counts}
use Rattle.history_model.specs.Streams.{are_flags, flushed_flags, is_blank, log}
use Rattle.history_model.specs.Tells.{TellsEntry}
use Rattle.entry_records.specs.Unflushed.{Unflushed, facts_noted, nothing_unflushed, with_facts, without_last_sent}

-- whose log it is, what was noted since the last flush, and the flags of that flush: None where the actor was never flushed
pub record Log : Type 0 where
  pub actor : Actor
  pub noted : Unflushed
  pub flushed : Option Flags

-- the facts that were noted since the last flush
abbrev pub log_facts : Log → List Fact
log_facts l = facts_noted l.actor l.noted

-- the log with these facts more
abbrev pub log_with : List Fact → Log → Log
log_with facts l = record l { noted = with_facts facts l.noted }

-- the log without the last message that it noted as sent, which carried so many references
abbrev pub without_last_message : ℕ → Log → Log
without_last_message refs l = record l { noted = without_last_sent refs l.noted }

-- a log that was never flushed, in which nothing is noted
abbrev pub blank_log : Actor → Log
blank_log a = record { actor = a; noted = nothing_unflushed; flushed = None }

-- the facts of a birth: a seed notes the reference to itself, a child also its parent's reference to it
abbrev pub birth_facts : Actor → Option Actor → List Fact
birth_facts a None = created a a ∷ []
birth_facts a (Some parent) = created a a ∷ created parent a ∷ []

abbrev pub newborn_log : Actor → Option Actor → Log
newborn_log a parent = log_with (birth_facts a parent) (blank_log a)

-- the log may be flushed: something is noted, or it was never flushed, or the flags differ from those of its last flush
abbrev pub may_flush : Log → Flags → Bool
may_flush l flags = not (is_blank (log_facts l)) || not (are_flags l.flushed flags)

-- the log after a flush with these flags
abbrev pub flushed_log : Log → Flags → Log
flushed_log l flags = record (blank_log l.actor) { flushed = Some flags }

-- the entry of a flush with these flags: it tells them and what was noted, its rows rise, and none counts 0. There is one
pub record IsEntryOf (l : Log) (flags : Flags) (e : Entry) : Type 0 where
  pub tells : TellsEntry l.actor e (flagged l.actor flags ∷ log_facts l)
  pub ordered : IsInOrder (entry_ledger e)

-- the log counts what the facts say
abbrev pub IsLogOf : List Fact → Log → Type 0
IsLogOf facts l = CountAlike (fact_counts (log_facts l)) (fact_counts facts)

-- ---- the log of a history

-- the actor may note the fact in its log: that a message was taken or a reference given up is noted by whoever did so
abbrev pub MayNote : Actor → Fact → Type 0
MayNote a (received b) = b ≡ a
MayNote a (sent_to b) = Unit {0}
MayNote a (created b c) = Unit {0}
MayNote a (released b c) = b ≡ a
MayNote a (flagged b flags) = ⊥

-- the log is that of its actor in the history: it counts what the actor noted since its last flush, and has the flags of
-- that flush
pub record IsLogAt (cl : Cluster) (h : List Event) (l : Log) : Type 0 where
  pub facts : IsLogOf (log cl l.actor h) l
  pub flushed : l.flushed ≡ flushed_flags l.actor h
