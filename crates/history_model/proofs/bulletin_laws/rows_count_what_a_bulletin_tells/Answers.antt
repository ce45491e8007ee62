use Rattle.history_model.proofs.OneMoreBulletin.{known-rows, link-rows, own-rows}
use Rattle.history_model.proofs.TellsBulletins.{tells-counts}
use Rattle.history_model.proofs.bulletin_laws.rows_count_what_a_bulletin_tells.Goals as goal

pub returns-clause-all : goal.returns-clause-all
returns-clause-all c = tells-counts

pub returns-clause-own : goal.returns-clause-own
returns-clause-own c = own-rows

pub returns-clause-link : goal.returns-clause-link
returns-clause-link c = link-rows

pub returns-clause-known : goal.returns-clause-known
returns-clause-known c = known-rows
