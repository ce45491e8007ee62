-- The limits of a history.
use Rattle.std.specs.Prelude.{ℕ, Bool, false, if◌then◌else◌, nat_lt, nat_le, List, length, Option, Some, None, flat_map}
use Rattle.crgc_ids.specs.declared.Which.{Which}
use Rattle.crgc_ids.specs.declared.Which.TheVariants.{Events, Actors, Delta}
use Rattle.history_model.specs.declared.events.Event.{Event}
use Rattle.history_model.specs.declared.events.Event.TheVariants.{Seed, Spawn, Publish, Window, Remove}
use Rattle.history_model.specs.Cluster.{Cluster, births}
use Rattle.history_model.specs.Facts.{Fact}
use Rattle.history_model.specs.Streams.{queue, window}
use Rattle.history_model.specs.Graph.{named_by, rising_actors}
use Rattle.crgc_ids.specs.declared.limits.TheConstants.{MOST_ACTORS, MOST_EVENTS, MOST_NAMED}

-- how many different actors the facts name
abbrev pub named_count : List Fact → ℕ
named_count facts = length (rising_actors (flat_map named_by facts))

-- the event gives birth to an actor beyond the greatest serial
abbrev pub passes_actors : Event → List Event → Bool
passes_actors (Seed n) h = nat_le MOST_ACTORS (births n h)
passes_actors (Spawn a) h = nat_le MOST_ACTORS (births a.node h)
passes_actors _ h = false

-- the bulletin that the event makes would name more than 200,000 actors
abbrev pub passes_delta : Cluster → Event → List Event → Bool
passes_delta cl (Publish n) h = nat_lt MOST_NAMED (named_count (queue cl n h))
passes_delta cl (Window d s) h = nat_lt MOST_NAMED (named_count (window s d h))
passes_delta cl (Remove d s) h = nat_lt MOST_NAMED (named_count (window s d h))
passes_delta cl _ h = false

-- the limit that the event would pass
abbrev pub limit_passed : Cluster → Event → List Event → Option Which
limit_passed cl e h =
    if passes_actors e h then Some Actors
    else if passes_delta cl e h then Some Delta
    else if nat_le MOST_EVENTS (length h) then Some Events
    else None
