-- A shadow graph may go to another thread.
use denote.Param.Send.{IsSend, sendable}
use Rattle.std.proofs.Crossing.{crosses}
use Rattle.edge_table.proofs.Crossing as edges
use Rattle.shadow_table.proofs.Crossing as shadows
use Rattle.undo_log.proofs.Crossing as logs
use Rattle.shadow_graph.specs.contracts.graph.ShadowGraph as ShadowGraph

pub graph_send : IsSend ShadowGraph.the_row
graph_send = search (crosses, sendable, edges.table_send, shadows.table_send, logs.log_send) depth 60 fits 100000
