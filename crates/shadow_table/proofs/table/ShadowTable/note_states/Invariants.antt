use Rattle.std.proofs.Common.{take}
use Rattle.shadow_table.specs.Shadows.{ChangesShadows, with_states}
use Rattle.shadow_table.proofs.table.ShadowTable.note_states.Given as goal

abbrev pub invariant-loop-row : goal.invariant-loop-row
invariant-loop-row l = ChangesShadows l.initial.self l.self (λ a s. with_states l.node a (take l.row-index l.rows) s)
