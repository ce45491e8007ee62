use Rattle.std.proofs.Common.{take}
use Rattle.history_model.specs.Ledgers.{actor_total}
use Rattle.shadow_table.specs.Shadows.{ChangesShadows, without_told}
use Rattle.shadow_rows.proofs.settle.take_back_messages.Given as goal

abbrev pub invariant-loop-row : goal.invariant-loop-row
invariant-loop-row l = ChangesShadows l.initial.shadows l.shadows (λ a s. without_told (actor_total a (take l.row-index l.rows)) s)
