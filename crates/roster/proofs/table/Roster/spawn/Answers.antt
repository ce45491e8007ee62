use Rattle.std.proofs.Common.{◌==◌, length, sym, ◌∙◌, ap, subst, arith}
use Rattle.std.proofs.lemmas.Result.{on_err_weaker, on_ok_weaker}
use Rattle.actor_states.specs.State.{HasRoom}
use Rattle.node_actors.specs.Node.{NodeState, Spawns, state_in}
use Rattle.roster.specs.Table.{Table}
use Rattle.roster.proofs.TableLemmas.{here-below, lift-alike, lift-spawns, node-found, number-found}
use Rattle.roster.proofs.table.Roster.spawn.Goals as goal

pub spawn-requires-clause-fits : goal.spawn-requires-clause-fits
spawn-requires-clause-fits c =
    let old = c.self.inside in
    let place = c.get.ensures.number ∙ c.node.ensures in
    let below = here-below c.args.self.now c.args.parent c.requires.here.born in
    let found = node-found old.version old.nodes.items c.args.self.now c.get.result c.args.parent.node c.index_mut.result.now c.self.view_is place below c.index_mut.ensures.value in
    subst (λ (n : NodeState). HasRoom (state_in n c.args.parent.serial) 1) (sym found) c.requires.fits

pub returns-clause-ok : goal.returns-clause-ok
returns-clause-ok c =
    let old = c.self.inside in
    let place = c.get.ensures.number ∙ c.node.ensures in
    let below = here-below c.args.self.now c.args.parent c.requires.here.born in
    let long = ap (λ (t : Table). length t.nodes) c.self.view_is in
    let number = number-found old.nodes.items c.get.result c.args.parent.node c.index_mut.result.now c.self.invariant place (omega (arith, below, place)) c.index_mut.ensures.value in
    on_ok_weaker c.spawn.result (λ spawns. lift-spawns old.version old.nodes.items c.args.self.now c.get.result c.args.parent c.index_mut.result.now c.spawn.new.self c.self.view_is place below c.index_mut.ensures.value number (subst (λ v. Spawns c.index_mut.result.now c.spawn.new.self c.args.parent (v == 2)) (ap (λ (t : Table). t.version) c.self.view_is) spawns)) c.spawn.ensures.ok

pub returns-clause-err : goal.returns-clause-err
returns-clause-err c =
    let old = c.self.inside in
    let place = c.get.ensures.number ∙ c.node.ensures in
    let below = here-below c.args.self.now c.args.parent c.requires.here.born in
    on_err_weaker c.spawn.result (λ alike. lift-alike old.version old.nodes.items c.args.self.now c.get.result c.args.parent.node c.index_mut.result.now c.spawn.new.self c.self.view_is place below c.index_mut.ensures.value alike) c.spawn.ensures.err
