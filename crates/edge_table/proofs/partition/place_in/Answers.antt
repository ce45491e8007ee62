use Rattle.std.proofs.Common.{◌+◌, ◌-◌, ◌/◌, arith}
use Rattle.edge_table.specs.Partition.{numbers_in}
use Rattle.edge_table.proofs.PartitionLemmas.{among-place, nth-number, numbers-long, place-from, place-to}
use Rattle.edge_table.proofs.partition.place_in.Goals as goal

pub loop-low-init : goal.loop-low-init
loop-low-init c =
    let ends = c.args.ends.now in
    let stands = among-place c.args.number (numbers_in ends) 0 c.requires.among in
    let inside = stands.1 in
    let long = numbers-long ends in
    (stands.0, omega arith, omega arith, omega arith, stands.2)

pub loop-low-preserved-then-ends-middle : goal.loop-low-preserved-then-ends-middle
loop-low-preserved-then-ends-middle c =
    let ends = c.args.ends.now in
    let at = c.loop-low.invariant in
    let middle = c.loop-low.low + (c.loop-low.high - c.loop-low.low) / 2 in
    let long = numbers-long ends in
    let low = at.1 in
    let high = at.2 in
    let within = at.3 in
    let is = at.4 in
    let read = nth-number ends middle in
    let less = c.if-ends-middle.true in
    let test = c.loop-low-test.true in
    let past = place-from (numbers_in ends) c.requires.rising middle at.0 (omega arith) (omega arith) in
    (at.0, past, high, within, is)

pub loop-low-preserved : goal.loop-low-preserved
loop-low-preserved c =
    let ends = c.args.ends.now in
    let at = c.loop-low.invariant in
    let middle = c.loop-low.low + (c.loop-low.high - c.loop-low.low) / 2 in
    let long = numbers-long ends in
    let low = at.1 in
    let high = at.2 in
    let within = at.3 in
    let is = at.4 in
    let read = nth-number ends middle in
    let less = c.if-ends-middle.false in
    let test = c.loop-low-test.true in
    let past = place-to (numbers_in ends) c.requires.rising middle at.0 (omega arith) (omega arith) in
    (at.0, low, past, omega arith, is)
