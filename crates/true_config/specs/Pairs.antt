-- Two events at once: what they are, and the steps of a flush with its publish.
use Rattle.std.specs.Prelude.{◌≡◌, List, ◌∷◌, Option}
use Rattle.crgc_ids.specs.Actor.{Actor}
use Rattle.crgc_ids.specs.declared.Which.{Which}
use Rattle.history_model.specs.declared.events.Event.{Event}
use Rattle.history_model.specs.declared.events.Event.TheVariants.{Crash, Flush, Publish, Rest}
use Rattle.history_model.specs.declared.records.Entry.{Entry}
use Rattle.history_model.specs.Cluster.{Cluster}
use Rattle.journal_model.specs.Limits.{limit_passed}
use Rattle.entry_records.specs.Log.{IsEntryOf}
use Rattle.actor_states.specs.State.{State, flags_of}
use Rattle.bulletin_streams.specs.Standing.{AreStreamsOf}
use Rattle.bulletin_streams.specs.StreamState.{AreAlike, ChangesAt, Queues, StreamState}

-- the second event is the crash of the node of the actor that rests, or the publish of the node of the one that is flushed
abbrev pub ArePaired : Event → Event → Type 0
ArePaired (Rest a) second = second ≡ Crash a.node
ArePaired (Flush a) second = second ≡ Publish a.node
ArePaired _ second = ⊥

-- once there was room for it, the entry of the actor's flush came last into its node's queue
pub record QueuesCopy (old new : List StreamState) (s : State) : Type 0 where
  pub roomy : List StreamState
  pub entry : Entry
  pub alike : AreAlike old roomy
  pub entered : IsEntryOf s.log (flags_of s) entry
  pub queued : ChangesAt roomy new entry.actor.node (λ s t. Queues s t entry)

-- where the streams stand for the history with the flush, it is the limit that the publish would pass
abbrev pub PassesAsFlushed : List StreamState → List Event → Actor → Option Which → Type 0
PassesAsFlushed streams h a x = (cl : Cluster) → AreStreamsOf cl (Flush a ∷ h) streams → x ≡ limit_passed cl (Publish a.node) (Flush a ∷ h)
