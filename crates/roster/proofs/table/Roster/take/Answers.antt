use Rattle.std.proofs.Common.{◌+◌, length, refl, sym, ◌∙◌, subst}
use Rattle.std.proofs.lemmas.Result.{on_err_weaker, on_ok_weaker}
use Rattle.actor_states.specs.State.{HasRoom, Takes}
use Rattle.node_actors.specs.Node.{NodeState, state_in}
use Rattle.roster.proofs.TableLemmas.{here-below, lift-alike, lift-changes, node-found}
use Rattle.roster.proofs.table.Roster.take.Goals as goal

pub take-requires-clause-fits : goal.take-requires-clause-fits
take-requires-clause-fits c =
    let old = c.self.inside in
    let place = c.get.ensures.number ∙ c.node.ensures in
    let below = here-below c.args.self.now c.args.actor c.requires.here.born in
    let found = node-found old.version old.nodes.items c.args.self.now c.get.result c.args.actor.node c.index_mut.result.now c.self.view_is place below c.index_mut.ensures.value in
    subst (λ (n : NodeState). HasRoom (state_in n c.args.actor.serial) (1 + length c.args.refs.now)) (sym found) c.requires.fits

pub returns-clause-ok : goal.returns-clause-ok
returns-clause-ok c =
    let old = c.self.inside in
    let place = c.get.ensures.number ∙ c.node.ensures in
    let below = here-below c.args.self.now c.args.actor c.requires.here.born in
    on_ok_weaker c.take.result (λ changes. lift-changes old.version old.nodes.items c.args.self.now c.get.result c.args.actor.node c.index_mut.result.now c.take.new.self c.self.view_is place below c.index_mut.ensures.value c.args.actor (Takes c.args.refs.now) refl changes) c.take.ensures.ok

pub returns-clause-err : goal.returns-clause-err
returns-clause-err c =
    let old = c.self.inside in
    let place = c.get.ensures.number ∙ c.node.ensures in
    let below = here-below c.args.self.now c.args.actor c.requires.here.born in
    on_err_weaker c.take.result (λ alike. lift-alike old.version old.nodes.items c.args.self.now c.get.result c.args.actor.node c.index_mut.result.now c.take.new.self c.self.view_is place below c.index_mut.ensures.value alike) c.take.ensures.err
