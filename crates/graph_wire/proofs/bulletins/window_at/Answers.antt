use Rattle.std.proofs.Common.{◌-◌, ◌*◌, Some, None, arith}
use Rattle.graph_wire.proofs.Ends.{window-ends, table-room}
use Rattle.graph_wire.proofs.bulletins.window_at.Goals as goal

pub overflow_sub-first : goal.overflow_sub-first
overflow_sub-first c =
    let room = table-room c.args.wide c.link_at.new.cursor c.table_at.new.cursor c.in_ok-table.table.items c.in_ok-table.ensures.gives in
    omega arith

pub returns-in-Some : goal.returns-in-Some
returns-in-Some c =
    let room = table-room c.args.wide c.link_at.new.cursor c.table_at.new.cursor c.in_ok-table.table.items c.in_ok-table.ensures.gives in
    rw c.fault.ensures (window-ends c.args.wide c.args.cursor.now c.link_at.new.cursor c.table_at.new.cursor c.counts_at.new.cursor c.pairs_at.new.cursor (record { at = c.in_ok-at.at; from = c.in_ok-at.from; messages = c.in_ok-messages.messages; carried = c.in_ok-carried.carried }) c.in_ok-table.table.items c.as_mut_slice-actors.result.now c.counts_at.new.table c.pairs_at.new.table (c.offset.result - 5 * c.len.result) (Some c.in-Some.offset) c.in_ok-at.ensures c.in_ok-table.ensures.gives c.in_ok-table.ensures.fresh c.as_mut_slice-actors.ensures.value c.in_ok-messages.ensures.gives c.in_ok-messages.ensures.marks c.in_ok-carried.ensures.gives c.in_ok-carried.ensures.marks (omega arith) c.in-Some.ensures)

pub returns-in-None : goal.returns-in-None
returns-in-None c =
    let room = table-room c.args.wide c.link_at.new.cursor c.table_at.new.cursor c.in_ok-table.table.items c.in_ok-table.ensures.gives in
    window-ends c.args.wide c.args.cursor.now c.link_at.new.cursor c.table_at.new.cursor c.counts_at.new.cursor c.pairs_at.new.cursor (record { at = c.in_ok-at.at; from = c.in_ok-at.from; messages = c.in_ok-messages.messages; carried = c.in_ok-carried.carried }) c.in_ok-table.table.items c.as_mut_slice-actors.result.now c.counts_at.new.table c.pairs_at.new.table (c.offset.result - 5 * c.len.result) None c.in_ok-at.ensures c.in_ok-table.ensures.gives c.in_ok-table.ensures.fresh c.as_mut_slice-actors.ensures.value c.in_ok-messages.ensures.gives c.in_ok-messages.ensures.marks c.in_ok-carried.ensures.gives c.in_ok-carried.ensures.marks (omega arith) c.in-None.ensures
