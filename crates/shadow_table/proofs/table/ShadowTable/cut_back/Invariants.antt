use Rattle.std.proofs.Common.{length}
use Rattle.shadow_table.proofs.NumberLemmas.{IsCut}
use Rattle.shadow_table.proofs.table.ShadowTable.cut_back.Given as goal

abbrev pub invariant-loop-self : goal.invariant-loop-self
invariant-loop-self l = IsCut l.places l.initial.self l.self

abbrev pub decreases-loop-self : goal.decreases-loop-self
decreases-loop-self l = length l.self.names
