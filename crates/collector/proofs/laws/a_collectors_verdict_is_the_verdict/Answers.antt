use Rattle.collector.proofs.VerdictLemmas.{follows-compact, follows-start, follows-sweep, verdict-at}
use Rattle.collector.proofs.laws.a_collectors_verdict_is_the_verdict.Goals as goal

pub returns-clause-start : goal.returns-clause-start
returns-clause-start c = follows-start

pub returns-clause-verdict : goal.returns-clause-verdict
returns-clause-verdict c = verdict-at

pub returns-clause-sweep : goal.returns-clause-sweep
returns-clause-sweep c = follows-sweep

pub returns-clause-compact : goal.returns-clause-compact
returns-clause-compact c = follows-compact
