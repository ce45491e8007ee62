use Rattle.std.proofs.Common.{◌∙◌, slice_set, subst, sym}
use Rattle.script_actors.specs.Table.{IsHere, SetsRow}
use Rattle.script_actors.proofs.TableLemmas.{here-below, sets-row}
use Rattle.script_actors.proofs.actors.ScriptActors.replace.Goals as goal

pub returns-clause-after : goal.returns-clause-after
returns-clause-after c =
    let rows = c.self.inside.nodes.items in
    let here = subst (λ t. IsHere t c.args.actor) (sym c.self.view_is) c.requires in
    subst (λ t. SetsRow t (slice_set rows c.get.result c.replace.new.self) c.args.actor c.args.new) c.self.view_is
    (sets-row rows c.args.actor c.get.result c.index_mut.result.now c.replace.new.self (c.get.ensures.number ∙ c.node.ensures) (here-below rows c.args.actor here)
    c.index_mut.ensures.value c.serial.result c.args.new c.serial.ensures.number here c.replace.ensures.after)
