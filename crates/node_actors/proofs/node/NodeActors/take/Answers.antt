use Rattle.actor_states.specs.State.{Takes}
use Rattle.node_actors.proofs.KeepingLemmas.{changes-in}
use Rattle.node_actors.proofs.node.NodeActors.take.Goals as goal

pub returns-clause-ok : goal.returns-clause-ok
returns-clause-ok c =
    let old = c.self.inside in
    changes-in old.node old.up old.actors.items c.args.self.now c.serial-place.result c.args.actor.serial c.index_mut.result.now c.take-taken.new.self (Takes c.args.refs.now) c.self.view_is c.serial-place.ensures.number c.requires.there.born c.index_mut.ensures.value c.in_ok-taken.ensures.ok
