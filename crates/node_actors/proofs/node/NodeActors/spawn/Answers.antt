use Rattle.node_actors.proofs.BirthLemmas.{forgotten-alike}
use Rattle.node_actors.proofs.node.NodeActors.spawn.Goals as goal

pub returns-in-Err-clause-err : goal.returns-in-Err-clause-err
returns-in-Err-clause-err c =
    forgotten-alike c.args.self.now c.enter.new.self c.beget.new.self c.forget.new.self c.next_actor-child.result _ c.next_actor-child.ensures c.in_ok-enter.ensures.ok c.in-Err.ensures.err c.forget.ensures.node c.forget.ensures.count c.forget.ensures.others
