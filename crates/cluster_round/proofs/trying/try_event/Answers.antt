use Rattle.cluster_round.proofs.TryLemmas.{tries-cluster, tries-halt, tries-ok}
use Rattle.cluster_round.proofs.trying.try_event.Goals as goal

pub returns-clause-cluster : goal.returns-clause-cluster
returns-clause-cluster c = tries-cluster c.args.event c.args.course.now c.follow.new.self c.follow.result c.follow.ensures.ok c.follow.ensures.err

pub returns-clause-ok : goal.returns-clause-ok
returns-clause-ok c =
    tries-ok c.args.event c.args.course.now c.follow.new.self c.follow.result c.unless_refused.result c.unless_refused.ensures c.follow.ensures.ok c.follow.ensures.may c.follow.ensures.halt c.follow.ensures.err

pub returns-clause-halt : goal.returns-clause-halt
returns-clause-halt c =
    tries-halt c.args.event c.args.course.now c.follow.new.self c.follow.result c.unless_refused.result c.unless_refused.ensures c.follow.ensures.halt c.follow.ensures.err
