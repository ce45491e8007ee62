use Rattle.std.proofs.Common.{◌≡◌, take}
use Rattle.collector.specs.Sweeping.{AreStopsOf, stopped_actors}
use Rattle.collector.proofs.stops.stops_of.Given as goal

abbrev pub invariant-loop-actor : goal.invariant-loop-actor
invariant-loop-actor l = AreStopsOf l.graph (take l.actor-index l.actors) l.stops × (stopped_actors l.stops ≡ take l.actor-index l.actors)
