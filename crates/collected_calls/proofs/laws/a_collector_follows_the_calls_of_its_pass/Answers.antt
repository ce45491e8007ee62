use Rattle.collected_calls.proofs.Following.{follows-compact, follows-hand, follows-other, follows-start, follows-sweep, follows-untold, remembers-compact, remembers-stopped}
use Rattle.collected_calls.proofs.laws.a_collector_follows_the_calls_of_its_pass.Goals as goal

pub returns-clause-start : goal.returns-clause-start
returns-clause-start c = follows-start

pub returns-clause-others : goal.returns-clause-others
returns-clause-others c = follows-other

pub returns-clause-hand : goal.returns-clause-hand
returns-clause-hand c = follows-hand

pub returns-clause-sweep : goal.returns-clause-sweep
returns-clause-sweep c = λ cl own old new v pass here sweeps. follows-sweep cl own old new v sweeps pass here

pub returns-clause-untold : goal.returns-clause-untold
returns-clause-untold c = λ cl own old new v op r pass other sweeps. follows-untold cl own old new v sweeps op r pass other

pub returns-clause-compact : goal.returns-clause-compact
returns-clause-compact c = follows-compact

pub returns-clause-more : goal.returns-clause-more
returns-clause-more c = remembers-stopped

pub returns-clause-more_compact : goal.returns-clause-more_compact
returns-clause-more_compact c = remembers-compact
