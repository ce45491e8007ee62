use Rattle.std.proofs.Common.{take}
use Rattle.history_model.specs.Ledgers.{actor_total}
use Rattle.shadow_table.specs.Shadows.{ChangesShadows, with_told}
use Rattle.shadow_table.proofs.table.ShadowTable.tell_all.Given as goal

abbrev pub invariant-loop-row : goal.invariant-loop-row
invariant-loop-row l = ChangesShadows l.initial.self l.self (λ a s. with_told (actor_total a (take l.row-index l.rows)) s)
