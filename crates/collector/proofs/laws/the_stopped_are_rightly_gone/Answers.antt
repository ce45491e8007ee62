use Rattle.collector.proofs.GoneLemmas.{gone-compacted, gone-first, gone-swept, gone-taken}
use Rattle.collector.proofs.laws.the_stopped_are_rightly_gone.Goals as goal

pub returns-clause-start : goal.returns-clause-start
returns-clause-start c = gone-first

pub returns-clause-take : goal.returns-clause-take
returns-clause-take c = gone-taken

pub returns-clause-sweep : goal.returns-clause-sweep
returns-clause-sweep c = gone-swept

pub returns-clause-compact : goal.returns-clause-compact
returns-clause-compact c = gone-compacted
