use Rattle.std.proofs.Common.{reverse}
use Rattle.quiet_check.proofs.LogFacts.{noted_at_send, noted_at_spawn}
use Rattle.quiet_check.proofs.logs.is_noted.Goals as goal

pub returns-in-Send : goal.returns-in-Send
returns-in-Send c =
    let a = c.args in
    let sent = noted_at_send a.cluster a.actor c.in-Send.from c.in-Send.to c.in-Send.refs (reverse a.earlier.now) in
    cc

pub returns-in-Spawn : goal.returns-in-Spawn
returns-in-Spawn c =
    let a = c.args in
    let born = noted_at_spawn a.cluster a.actor c.in-Spawn.parent (reverse a.earlier.now) in
    cc
