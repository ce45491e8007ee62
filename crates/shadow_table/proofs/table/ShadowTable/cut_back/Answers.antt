use Rattle.std.proofs.Common.{inl, refl}
use Rattle.shadow_table.proofs.table.ShadowTable.cut_back.Goals as goal

pub loop-self-init : goal.loop-self-init
loop-self-init c = inl refl
