use Rattle.std.proofs.Common.{◌∙◌, None, ap, sym}
use Rattle.row_sums.specs.Totals.{actor_total}
use Rattle.undo_log.proofs.NotedLemmas.{admitted-noted, told-noted}
use Rattle.undo_log.proofs.node_log.NodeLog.messages.Goals as goal

pub returns-in-Told-clause-counts : goal.returns-in-Told-clause-counts
returns-in-Told-clause-counts c = rw c.in-Told.is (rw (← c.self.view_is) (λ a. ap (actor_total a) c.messages.ensures.value ∙ sym (told-noted None a c.self.inside.told c.self.inside.admitted)))

pub returns-in-Admitted-clause-counts : goal.returns-in-Admitted-clause-counts
returns-in-Admitted-clause-counts c = rw c.in-Admitted.is (rw (← c.self.view_is) (λ a. ap (actor_total a) c.messages-in-Admitted.ensures.value ∙ sym (admitted-noted None a c.self.inside.told c.self.inside.admitted)))
