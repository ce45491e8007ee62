use Rattle.cluster_course.proofs.CollectedLemmas.{legal-rightly_collected}
use Rattle.cluster_course.proofs.laws.a_legal_history_is_rightly_collected.Goals as goal

pub returns : goal.returns
returns c = legal-rightly_collected
