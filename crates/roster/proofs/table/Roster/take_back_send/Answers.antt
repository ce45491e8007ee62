use Rattle.std.proofs.Common.{◌≡◌, ◌<◌, length, refl, sym, ◌∙◌, ap, subst, arith}
use Rattle.actor_states.specs.State.{State, unsent}
use Rattle.node_actors.specs.Node.{NodeState, state_in}
use Rattle.roster.specs.Table.{Table}
use Rattle.roster.proofs.TableLemmas.{here-below, lift-changes, node-found, numbered-set}
use Rattle.roster.proofs.table.Roster.take_back_send.Goals as goal

pub take_back_send-requires-clause-sent : goal.take_back_send-requires-clause-sent
take_back_send-requires-clause-sent c =
    let old = c.self.inside in
    let place = c.get.ensures.number ∙ c.node.ensures in
    let below = here-below c.args.self.now c.args.actor c.requires.here.born in
    let found = node-found old.version old.nodes.items c.args.self.now c.get.result c.args.actor.node c.index_mut.result.now c.self.view_is place below c.index_mut.ensures.value in
    subst (λ (n : NodeState). 0 < length (state_in n c.args.actor.serial).log.noted.sent) (sym found) c.requires.sent

pub invariant_of-self : goal.invariant_of-self
invariant_of-self c =
    let old = c.self.inside in
    let place = c.get.ensures.number ∙ c.node.ensures in
    let below = here-below c.args.self.now c.args.actor c.requires.here.born in
    let long = ap (λ (t : Table). length t.nodes) c.self.view_is in
    numbered-set old.nodes.items c.get.result c.index_mut.result.now c.take_back_send.new.self c.self.invariant (omega (arith, below, place)) c.index_mut.ensures.value c.take_back_send.ensures.node.0

pub returns : goal.returns
returns c =
    let old = c.self.inside in
    let place = c.get.ensures.number ∙ c.node.ensures in
    let below = here-below c.args.self.now c.args.actor c.requires.here.born in
    lift-changes old.version old.nodes.items c.args.self.now c.get.result c.args.actor.node c.index_mut.result.now c.take_back_send.new.self c.self.view_is place below c.index_mut.ensures.value c.args.actor (λ (s : State) t. t ≡ unsent c.args.refs s) refl c.take_back_send.ensures
