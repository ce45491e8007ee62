use Rattle.history_model.proofs.TellsBulletins.{ledger-rising_names}
use Rattle.history_model.proofs.bulletin_laws.rows_name_whom_facts_name.Goals as goal

pub returns : goal.returns
returns c = ledger-rising_names
