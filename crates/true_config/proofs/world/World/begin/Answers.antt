use Rattle.std.proofs.Common.{sym, ◌∙◌}
use Rattle.roster.proofs.TableSteps.{stands-new}
use Rattle.true_config.proofs.Growing.{begins}
use Rattle.true_config.proofs.world.World.begin.Goals as goal

pub invariant_of-result : goal.invariant_of-result
invariant_of-result c =
    let old = c.args.history in
    let table = c.in-Ok-new.ensures in
    begins old c.in-Ok.traffic c.in-Ok-new.roster c.in-Ok-new-2.streams c.requires (c.in-Ok.ensures.stands old.cluster (sym c.nodes-nodes.ensures.nodes))
    (stands-new old.cluster c.in-Ok-new.roster (table.0 ∙ c.version-version.ensures.version) (table.1 ∙ c.nodes-nodes.ensures.nodes) table.2) (c.in-Ok-new-2.ensures.stands old.cluster)
