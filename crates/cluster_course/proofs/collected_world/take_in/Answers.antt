use Rattle.std.proofs.Common.{◌≡◌, true, rules, subst}
use Rattle.std.specs.Result.{is_ok}
use Rattle.history_model.specs.Story.{Story}
use Rattle.node_collectors.specs.Standing.{AreCollectorsAt}
use Rattle.cluster_course.proofs.Outcomes.{on-ok}
use Rattle.cluster_course.proofs.collected_world.take_in.Goals as goal

pub returns-else-is_err-clause-collectors : goal.returns-else-is_err-clause-collectors
returns-else-is_err-clause-collectors c =
    let ok : is_ok c.hand-handed.result ≡ true = search rules in
    subst (λ (w : Story). AreCollectorsAt w.cluster w.past c.hand-handed.new.self) c.keep_if.ensures (on-ok c.hand-handed.result _ ok c.hand-handed.ensures)
