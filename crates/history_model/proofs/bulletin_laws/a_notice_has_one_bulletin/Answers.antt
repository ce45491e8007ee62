use Rattle.history_model.proofs.TellsBulletins.{ledger-same, tells-same}
use Rattle.history_model.proofs.bulletin_laws.a_notice_has_one_bulletin.Goals as goal

pub returns-clause-rows : goal.returns-clause-rows
returns-clause-rows c = ledger-same

pub returns-clause-bulletins : goal.returns-clause-bulletins
returns-clause-bulletins c = tells-same
