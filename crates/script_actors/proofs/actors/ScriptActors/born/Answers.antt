use Rattle.std.proofs.lemmas.Result.{on_ok_weaker}
use Rattle.script_actors.proofs.Standings.{born-stands}
use Rattle.script_actors.proofs.actors.ScriptActors.born.Goals as goal

pub returns-clause-born : goal.returns-clause-born
returns-clause-born c =
    on_ok_weaker c.add.result
    (λ adds s h parent stands on busy due below.
    born-stands s h parent c.args.child c.args.behaviour c.args.self.now c.add.new.self c.in_ok-names.names stands on c.requires.next busy adds c.in_ok-names.ensures due below)
    c.add.ensures.ok
