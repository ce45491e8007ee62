use Rattle.std.proofs.Common.{◌∙◌, Some, ap, sym}
use Rattle.row_sums.specs.Totals.{pair_total}
use Rattle.undo_log.proofs.NotedLemmas.{admitted-noted, told-noted}
use Rattle.undo_log.proofs.node_log.NodeLog.pairs.Goals as goal

pub returns-in-Told-clause-counts : goal.returns-in-Told-clause-counts
returns-in-Told-clause-counts c = rw c.in-Told.is (rw (← c.self.view_is) (λ b a. ap (pair_total b a) c.pairs.ensures.value ∙ sym (told-noted (Some b) a c.self.inside.told c.self.inside.admitted)))

pub returns-in-Admitted-clause-counts : goal.returns-in-Admitted-clause-counts
returns-in-Admitted-clause-counts c = rw c.in-Admitted.is (rw (← c.self.view_is) (λ b a. ap (pair_total b a) c.pairs-in-Admitted.ensures.value ∙ sym (admitted-noted (Some b) a c.self.inside.told c.self.inside.admitted)))
