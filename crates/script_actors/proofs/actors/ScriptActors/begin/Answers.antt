use Rattle.std.proofs.Common.{◌∙◌}
use Rattle.script_actors.proofs.Beginnings.{begun-stands}
use Rattle.script_actors.proofs.actors.ScriptActors.begin.Goals as goal

pub returns : goal.returns
returns c = (let tied = c.in_ok-add_ties.ensures in let seeded = c.in_ok-seeds.ensures in begun-stands c.args.script.now c.add_ties.new.self (tied.nodes ∙ seeded.nodes) tied.tied)
