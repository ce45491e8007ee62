use Rattle.history_model.proofs.CompactedSweeps.{own-verdict}
use Rattle.history_model.proofs.compaction.a_compacted_verdict_is_the_verdict.Goals as goal

pub returns : goal.returns
returns c = λ cl m h gone stopped v legal stops. own-verdict cl m h gone stopped legal stops v
