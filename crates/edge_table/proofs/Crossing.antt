-- A table of edges may go to another thread.
use denote.Param.Send.{IsSend, sendable}
use Rattle.std.proofs.Crossing.{crosses, frees}
use Rattle.std.proofs.MapsCrossing.{crosses as maps}
use Rattle.std.proofs.MapsCrossingOver.{crosses as sets}
use Rattle.edge_table.specs.contracts.ends.Ends as Ends
use Rattle.edge_table.specs.contracts.table.EdgeTable as EdgeTable
use Rattle.edge_table.specs.contracts.edge_list.EdgeList as EdgeList
use Rattle.edge_table.specs.contracts.far_edges.FarEdges as FarEdges
use Rattle.edge_table.specs.contracts.pages.Page as Page
use Rattle.edge_table.specs.contracts.pages.Pages as Pages
use Rattle.edge_table.specs.contracts.partition.Partition as Partition
use Rattle.edge_table.specs.contracts.positive.PositiveEdges as PositiveEdges

ends_send : IsSend Ends.the_row
ends_send = search (crosses, sendable) depth 60 fits 100000

far_send : IsSend FarEdges.the_row
far_send = search (crosses, maps, sets, frees, sendable) depth 60 fits 100000

edges_send : IsSend EdgeList.the_row
edges_send = search (crosses, frees, sendable) depth 60 fits 100000

partition_send : IsSend Partition.the_row
partition_send = search (crosses, frees, sendable) depth 60 fits 100000

page_send : IsSend Page.the_row
page_send = search (crosses, sendable, partition_send) depth 60 fits 100000

pages_send : IsSend Pages.the_row
pages_send = search (crosses, sendable, page_send) depth 60 fits 100000

positive_send : IsSend PositiveEdges.the_row
positive_send = search (crosses, sendable, pages_send) depth 60 fits 100000

pub table_send : IsSend EdgeTable.the_row
table_send = search (crosses, sendable, ends_send, far_send, edges_send, positive_send) depth 60 fits 100000
