use Rattle.pseudoroot_trace.proofs.SweepLemmas.{dead-same, marked-same}
use Rattle.pseudoroot_trace.proofs.laws.places_reached_are_marked.Goals as goal

pub returns-clause-marked : goal.returns-clause-marked
returns-clause-marked c = marked-same

pub returns-clause-dead : goal.returns-clause-dead
returns-clause-dead c = dead-same
