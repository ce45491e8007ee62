use Rattle.std.proofs.Common.{sym, ◌∙◌}
use Rattle.script_player.proofs.Standings.{child-here}
use Rattle.script_player.proofs.driver.Driver.spawn.Goals as goal

pub born-requires-clause-node : goal.born-requires-clause-node
born-requires-clause-node c =
    child-here c.args.self.now c.args.actor c.child_in-child.result c.requires.stands c.requires.under (sym c.child_in-child.ensures ∙ c.in_ok-told.ensures.told)
