use Rattle.std.proofs.Common.{◌≡◌, ◌∙◌, subst, sym}
use Rattle.script_actors.specs.Table.{AddsRow, IsHere}
use Rattle.script_actors.proofs.TableLemmas.{here-below, takes-back}
use Rattle.script_actors.proofs.actors.ScriptActors.take_back.Goals as goal

pub returns : goal.returns
returns c = λ before row next adds.
    let rows = c.self.inside.nodes.items in
    let here = subst (λ t. IsHere t c.args.actor) (sym c.self.view_is) c.requires in
    takes-back before rows c.args.actor row c.get.result c.index_mut.result.now c.take_last.new.self (c.get.ensures.number ∙ c.node.ensures)
    (here-below rows c.args.actor here) c.index_mut.ensures.value c.take_last.ensures next (subst (λ t. AddsRow before t c.args.actor row) (sym c.self.view_is) adds)
