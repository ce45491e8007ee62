use Rattle.std.proofs.Common.{◌≡◌, take}
use Rattle.shadow_graph.specs.Owners.{owners_at}
use Rattle.shadow_graph.specs.Places.{actor_of, owners_of}
use Rattle.shadow_graph.proofs.graph.ShadowGraph.owners_by_place.Given as goal

abbrev pub invariant-loop-index : goal.invariant-loop-index
invariant-loop-index l = l.owners.items ≡ owners_at l.self (actor_of l.self l.place) (take l.index (owners_of l.self l.place))
