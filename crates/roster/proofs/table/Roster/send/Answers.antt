use Rattle.std.proofs.Common.{◌+◌, length, refl, sym, ◌∙◌, subst}
use Rattle.std.proofs.lemmas.Result.{on_ok_weaker}
use Rattle.actor_states.specs.State.{HasRoom, Sends}
use Rattle.node_actors.specs.Node.{NodeState, state_in}
use Rattle.roster.proofs.TableLemmas.{here-below, lift-changes, node-found}
use Rattle.roster.proofs.table.Roster.send.Goals as goal

pub send-requires-clause-fits : goal.send-requires-clause-fits
send-requires-clause-fits c =
    let old = c.self.inside in
    let place = c.get.ensures.number ∙ c.node.ensures in
    let below = here-below c.args.self.now c.args.actor c.requires.here.born in
    let found = node-found old.version old.nodes.items c.args.self.now c.get.result c.args.actor.node c.index_mut.result.now c.self.view_is place below c.index_mut.ensures.value in
    subst (λ (n : NodeState). HasRoom (state_in n c.args.actor.serial) (1 + length c.args.refs.now)) (sym found) c.requires.fits

pub returns-clause-ok : goal.returns-clause-ok
returns-clause-ok c =
    let old = c.self.inside in
    let place = c.get.ensures.number ∙ c.node.ensures in
    let below = here-below c.args.self.now c.args.actor c.requires.here.born in
    on_ok_weaker c.send.result (λ changes. lift-changes old.version old.nodes.items c.args.self.now c.get.result c.args.actor.node c.index_mut.result.now c.send.new.self c.self.view_is place below c.index_mut.ensures.value c.args.actor (Sends c.args.to c.args.refs.now) refl changes) c.send.ensures.ok
