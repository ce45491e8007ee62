use Rattle.std.proofs.Common.{◌<◌, IsSome, subst}
use Rattle.node_actors.proofs.KeepingLemmas.{kept-popped}
use Rattle.node_actors.proofs.node.NodeActors.forget.Goals as goal

pub invariant_of-self : goal.invariant_of-self
invariant_of-self c =
    let old = c.self.inside in
    let some = subst (λ n. 0 < n → IsSome c.pop.result) old.actors.ok.0 c.pop.ensures.variant.1 in
    kept-popped old.node old.up old.busy old.stopped old.actors.items c.pop.new.self.items c.pop.result old.due c.take_out.new.self c.args.actor c.args.self.now c.self.invariant c.self.view_is c.pop.ensures.items some c.requires.last c.requires.idle c.take_out.ensures.actors
