use Rattle.std.proofs.Common.{arith}
use Rattle.script_player.proofs.TurnWays.{node-there, short-room}
use Rattle.script_player.proofs.driver.Driver.rest.Goals as goal

pub ends-requires-clause-node : goal.ends-requires-clause-node
ends-requires-clause-node c =
    let there = node-there c.args.self.now c.args.actor c.requires.stands c.requires.under in
    let many = c.requires.stands.progress.nodes in
    let same = c.node.ensures in
    omega (arith, there, many, same)

pub ends-requires-clause-room : goal.ends-requires-clause-room
ends-requires-clause-room c =
    let d = c.args.self.now in
    c.counts_have_room.ensures d.script.value d.course.past d.progress c.node.result c.requires.stands.progress (short-room d c.requires.stands)
