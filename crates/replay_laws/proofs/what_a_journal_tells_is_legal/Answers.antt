use Rattle.replay_laws.proofs.Telling.{journal-tellable}
use Rattle.replay_laws.proofs.what_a_journal_tells_is_legal.Goals as goal

pub returns : goal.returns
returns c = journal-tellable
