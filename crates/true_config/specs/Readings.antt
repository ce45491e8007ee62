-- What is read of the actors of a world, in the words of its history.
use Rattle.std.specs.Prelude.{◌≡◌, ℕ, List, Option, Some, None}
use Rattle.crgc_ids.specs.Actor.{Actor}
use Rattle.history_model.specs.declared.events.Event.{Event}
use Rattle.history_model.specs.declared.events.Event.TheVariants.{Flush}
use Rattle.history_model.specs.Cluster.{Cluster}
use Rattle.history_model.specs.declared.records.Bulletin.{Bulletin}
use Rattle.history_model.specs.Legal.{refusal}
use Rattle.history_model.specs.Tells.{IsOrdered}
use Rattle.bulletin_streams.specs.Spelling.{IsSpelling}
use Rattle.bulletin_streams.specs.Standing.{TellsNumber}
use Rattle.ready_actors.specs.Ready.{IsAbove, IsFrom}

-- the actor is of node n and above the one that is given, and no rule refuses its flush
abbrev pub MayFlush : Cluster → ℕ → List Event → Option Actor → Actor → Type 0
MayFlush cl n h after a = (a.node ≡ n) × (refusal cl (Flush a) h ≡ None) × IsAbove after a

-- the lowest such actor; None where there is none
abbrev pub IsNextFlush : Cluster → ℕ → List Event → Option Actor → Option Actor → Type 0
IsNextFlush cl n h after None = (a : Actor) → MayFlush cl n h after a → ⊥
IsNextFlush cl n h after (Some first) = MayFlush cl n h after first × ((a : Actor) → MayFlush cl n h after a → IsFrom first a)

-- the bytes spell the bulletin with this number of node o's stream
pub record IsSpelledAt (cl : Cluster) (h : List Event) (o k : ℕ) (bytes : List ℕ) : Type 0 where
  pub bulletin : Bulletin
  pub told : TellsNumber cl h o k bulletin
  pub ordered : IsOrdered bulletin
  pub spells : IsSpelling bulletin bytes
