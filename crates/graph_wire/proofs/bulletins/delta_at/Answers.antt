use Rattle.std.proofs.Common.{◌-◌, ◌*◌, Some, None, arith}
use Rattle.graph_wire.proofs.Ends.{delta-ends, table-room}
use Rattle.graph_wire.proofs.bulletins.delta_at.Goals as goal

pub overflow_sub-first : goal.overflow_sub-first
overflow_sub-first c =
    let room = table-room c.args.wide c.node_at.new.cursor c.table_at.new.cursor c.in_ok-table.table.items c.in_ok-table.ensures.gives in
    omega arith

pub returns-in-Some : goal.returns-in-Some
returns-in-Some c =
    let room = table-room c.args.wide c.node_at.new.cursor c.table_at.new.cursor c.in_ok-table.table.items c.in_ok-table.ensures.gives in
    rw c.fault.ensures (delta-ends c.args.wide c.args.cursor.now c.node_at.new.cursor c.table_at.new.cursor c.states_at.new.cursor c.counts_at.new.cursor c.pairs_at.new.cursor c.pairs_at-2.new.cursor (record { node = c.in_ok-node.node; states = c.in_ok-states.states; sent = c.in_ok-sent.sent; created = c.in_ok-created.created; released = c.in_ok-released.released }) c.in_ok-table.table.items c.as_mut_slice-actors.result.now c.states_at.new.table c.counts_at.new.table c.pairs_at.new.table c.pairs_at-2.new.table (c.offset.result - 5 * c.len.result) (Some c.in-Some.offset) c.in_ok-node.ensures c.in_ok-table.ensures.gives c.in_ok-table.ensures.fresh c.as_mut_slice-actors.ensures.value c.in_ok-states.ensures.gives c.in_ok-states.ensures.marks c.in_ok-sent.ensures.gives c.in_ok-sent.ensures.marks c.in_ok-created.ensures.gives c.in_ok-created.ensures.marks c.in_ok-released.ensures.gives c.in_ok-released.ensures.marks (omega arith) c.in-Some.ensures)

pub returns-in-None : goal.returns-in-None
returns-in-None c =
    let room = table-room c.args.wide c.node_at.new.cursor c.table_at.new.cursor c.in_ok-table.table.items c.in_ok-table.ensures.gives in
    delta-ends c.args.wide c.args.cursor.now c.node_at.new.cursor c.table_at.new.cursor c.states_at.new.cursor c.counts_at.new.cursor c.pairs_at.new.cursor c.pairs_at-2.new.cursor (record { node = c.in_ok-node.node; states = c.in_ok-states.states; sent = c.in_ok-sent.sent; created = c.in_ok-created.created; released = c.in_ok-released.released }) c.in_ok-table.table.items c.as_mut_slice-actors.result.now c.states_at.new.table c.counts_at.new.table c.pairs_at.new.table c.pairs_at-2.new.table (c.offset.result - 5 * c.len.result) None c.in_ok-node.ensures c.in_ok-table.ensures.gives c.in_ok-table.ensures.fresh c.as_mut_slice-actors.ensures.value c.in_ok-states.ensures.gives c.in_ok-states.ensures.marks c.in_ok-sent.ensures.gives c.in_ok-sent.ensures.marks c.in_ok-created.ensures.gives c.in_ok-created.ensures.marks c.in_ok-released.ensures.gives c.in_ok-released.ensures.marks (omega arith) c.in-None.ensures
