use Rattle.collector.proofs.FollowLemmas.{fed-grows, follows-again, follows-hand, follows-others}
use Rattle.collector.proofs.laws.a_collector_follows_its_node.Goals as goal

pub returns-clause-others : goal.returns-clause-others
returns-clause-others c = follows-others

pub returns-clause-hand : goal.returns-clause-hand
returns-clause-hand c = follows-hand

pub returns-clause-again : goal.returns-clause-again
returns-clause-again c = follows-again

pub returns-clause-longer : goal.returns-clause-longer
returns-clause-longer c = fed-grows
