-- A graph with its marks may go to another thread, and so may the marks of a sweep; several threads may read a graph.
use denote.Param.Send.{IsSend, IsSync, sendable}
use Rattle.std.proofs.Crossing.{crosses, frees}
use Rattle.std.proofs.MapsCrossing.{crosses as maps}
use Rattle.std.proofs.MapsCrossingOver.{crosses as sets}
use Rattle.edge_table.specs.contracts.table.EdgeTable as EdgeTable
use Rattle.shadow_graph.proofs.Crossing.{graph_send}
use Rattle.shadow_graph.specs.contracts.graph.ShadowGraph as ShadowGraph
use Rattle.kept_marks.specs.contracts.kept.KeptMarks as KeptMarks
use Rattle.pseudoroot_trace.specs.contracts.marks.Marks as Marks
use Rattle.pseudoroot_trace.specs.contracts.traced.TracedGraph as TracedGraph

kept_send : IsSend KeptMarks.the_row
kept_send = search (crosses, sendable) depth 60 fits 100000

pub traced_send : IsSend TracedGraph.the_row
traced_send = search (crosses, sendable, graph_send, kept_send) depth 60 fits 100000

pub marks_send : IsSend Marks.the_row
marks_send = search (crosses, maps, sets, frees, sendable) depth 60 fits 100000

table_sync : IsSync EdgeTable.the_row
table_sync = search (crosses, maps, sets, frees, sendable) depth 60 fits 100000

pub graph_sync : IsSync ShadowGraph.the_row
graph_sync = search (crosses, maps, sets, frees, sendable, table_sync) depth 60 fits 100000
