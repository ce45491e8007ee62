use Rattle.shadow_table.proofs.NumberLemmas.{empty-stands}
use Rattle.shadow_table.proofs.table.ShadowTable.new.Goals as goal

pub invariant_of-result : goal.invariant_of-result
invariant_of-result c = empty-stands c.new.result.items c.new-3.result.items c.new-2.result c.new.ensures.items c.new-3.ensures.items c.new-2.ensures
