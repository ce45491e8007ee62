use Rattle.replay_laws.proofs.Replayed.{replayed-itself, replayed-same}
use Rattle.replay_laws.proofs.a_report_replayed_gives_itself.Goals as goal

pub returns-clause-same : goal.returns-clause-same
returns-clause-same c = replayed-same

pub returns-clause-itself : goal.returns-clause-itself
returns-clause-itself c = replayed-itself
