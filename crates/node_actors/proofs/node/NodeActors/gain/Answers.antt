use Rattle.std.proofs.Common.{ap}
use Rattle.actor_states.specs.State.{State, has_news}
use Rattle.node_actors.proofs.KeepingLemmas.{born-below, either_way, kept-quiet}
use Rattle.node_actors.proofs.node.NodeActors.gain.Goals as goal

pub invariant_of-self : goal.invariant_of-self
invariant_of-self c =
    let old = c.self.inside in
    let s = c.index_mut.result.now in
    let t = c.gain.new.self in
    let below = born-below old.node old.up old.actors.items c.args.self.now c.serial.result c.args.actor.serial c.self.view_is c.serial.ensures.number c.requires.there.born in
    either_way _ _ _ c.gain.result c.gain.ensures.ok c.gain.ensures.err
    (λ gains. kept-quiet old.node old.up old.busy old.stopped old.actors.items old.due c.serial.result s t c.self.invariant below c.index_mut.ensures.value (ap (λ (x : State). x.busy) gains.0) (ap (λ (x : State). x.stopped) gains.0) (ap has_news gains.0))
    (λ same. kept-quiet old.node old.up old.busy old.stopped old.actors.items old.due c.serial.result s t c.self.invariant below c.index_mut.ensures.value (ap (λ (x : State). x.busy) same) (ap (λ (x : State). x.stopped) same) (ap has_news same))
