-- What the world keeps of its parts.
use Rattle.std.specs.Prelude.{List}
use Rattle.history_model.specs.declared.events.Event.{Event}
use Rattle.history_model.specs.Cluster.{Cluster}
use Rattle.traffic.specs.Standing.{IsTrafficOf}
use Rattle.traffic.specs.TrafficState.{TrafficState}
use Rattle.roster.specs.Standing.{IsRosterOf}
use Rattle.roster.specs.Table.{Table}
use Rattle.bulletin_streams.specs.Standing.{AreStreamsOf, IsWithinLimits}
use Rattle.bulletin_streams.specs.StreamState.{StreamState}

-- the history is legal and within the limits, and each part is as it says
pub record IsWorldOf (cl : Cluster) (h : List Event) (t : TrafficState) (r : Table) (told : List StreamState) : Type 0 where
  pub within : IsWithinLimits cl h
  pub traffic : IsTrafficOf cl h t
  pub roster : IsRosterOf cl h r
  pub streams : AreStreamsOf cl h told
