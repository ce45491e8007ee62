use Rattle.std.proofs.Common.{ap, sym}
use Rattle.actor_states.specs.State.{State, has_news}
use Rattle.node_actors.proofs.KeepingLemmas.{born-below, kept-quiet}
use Rattle.node_actors.proofs.node.NodeActors.lose.Goals as goal

pub invariant_of-self : goal.invariant_of-self
invariant_of-self c =
    let old = c.self.inside in
    let s = c.index_mut.result.now in
    let t = c.lose.new.self in
    let below = born-below old.node old.up old.actors.items c.args.self.now c.serial.result c.args.actor.serial c.self.view_is c.serial.ensures.number c.requires.there.born in
    let same = sym c.lose.ensures.0 in
    kept-quiet old.node old.up old.busy old.stopped old.actors.items old.due c.serial.result s t c.self.invariant below c.index_mut.ensures.value (ap (λ (x : State). x.busy) same) (ap (λ (x : State). x.stopped) same) (ap has_news same)
