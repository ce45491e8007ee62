use Rattle.std.proofs.Common.{reverse}
use Rattle.quiet_check.proofs.Gifts.{gifts_of_spawn}
use Rattle.quiet_check.proofs.held.spawn_gifts.Goals as goal

pub returns-clause-value : goal.returns-clause-value
returns-clause-value c =
    let a = c.args in
    let spawn = gifts_of_spawn a.cluster a.parent a.owner a.target (reverse a.earlier.now) in
    cc
