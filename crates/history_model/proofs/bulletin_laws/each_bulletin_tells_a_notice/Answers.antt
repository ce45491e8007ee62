use Rattle.history_model.proofs.TellsFacts.{tells-some}
use Rattle.history_model.proofs.bulletin_laws.each_bulletin_tells_a_notice.Goals as goal

pub returns : goal.returns
returns c = tells-some
