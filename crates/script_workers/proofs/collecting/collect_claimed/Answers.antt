use Rattle.run_model.specs.Doing.{cluster_of}
use Rattle.script_workers.proofs.Claims.{begun}
use Rattle.script_workers.proofs.collecting.collect_claimed.Goals as goal

pub collect-requires-clause-collector : goal.collect-requires-clause-collector
collect-requires-clause-collector g c =
    let made = c.args.lock.now.start in
    begun c.a_collector_follows_the_calls_of_its_pass.ensures.start (cluster_of made.script) c.args.pass.now.own c.args.pass.now.number
    c.args.node c.args.nodes c.in-Ok.collector c.requires.claimed c.requires.may.nodes_are c.in-Ok.ensures
