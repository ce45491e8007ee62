use Rattle.std.proofs.Common.{◌<◌, [], ◌∷◌, ◌++◌, length, sym, ◌∙◌, ap, subst}
use Rattle.node_actors.specs.Keeping.{IsKept}
use Rattle.node_actors.specs.Node.{NodeState, next_actor}
use Rattle.node_actors.proofs.KeepingLemmas.{kept-entered}
use Rattle.node_actors.proofs.node.NodeActors.enter.Goals as goal

pub invariant_of-self-2 : goal.invariant_of-self-2
invariant_of-self-2 c =
    let old = c.self.inside in
    let room = subst (λ (n : NodeState). length n.actors < 262144) (sym c.self.view_is) c.requires.room in
    let next = c.requires.next ∙ ap next_actor (sym c.self.view_is) in
    let items = c.push_reserved.ensures.items ∙ ap (λ xs. xs ++ c.args.state ∷ []) c.reserve.ensures.items in
    subst (λ xs. IsKept old.node old.up old.busy old.stopped xs c.put.new.self) (sym items)
    (kept-entered old.node old.up old.busy old.stopped old.actors.items old.due c.put.new.self c.args.actor c.args.state c.self.invariant room next c.requires.idle.0 c.requires.idle.1 c.requires.news c.in_ok-put.ensures.ok)
