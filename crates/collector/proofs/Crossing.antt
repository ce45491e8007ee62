-- A collector may go to another thread.
use denote.Param.Send.{IsSend, sendable}
use Rattle.std.proofs.Crossing.{crosses, frees}
use Rattle.std.proofs.MapsCrossing.{crosses as maps}
use Rattle.std.proofs.MapsCrossingOver.{crosses as sets}
use Rattle.gossip_core.specs.contracts.gossip.GossipCore as GossipCore
use Rattle.pseudoroot_trace.proofs.Crossing.{marks_send, traced_send}
use Rattle.collector.specs.contracts.collector.Collector as Collector

gossip_send : IsSend GossipCore.the_row
gossip_send = search (crosses, maps, sets, frees, sendable) depth 60 fits 100000

pub collector_send : IsSend Collector.the_row
collector_send = search (crosses, sendable, gossip_send, traced_send, marks_send) depth 60 fits 100000
