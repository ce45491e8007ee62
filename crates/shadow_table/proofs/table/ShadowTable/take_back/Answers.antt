use Rattle.std.proofs.Common.{rules}
use Rattle.shadow_table.specs.Shadows.{without_told}
use Rattle.shadow_table.proofs.ShadowLemmas.{shadow-changed}
use Rattle.shadow_table.proofs.table.ShadowTable.take_back.Goals as goal

pub returns : goal.returns
returns c =
    rw (← c.self.view_is) (shadow-changed c.self.inside.names.items c.self.inside.shadows.items c.args.actor c.place-place.result c.index_mut-shadow.result.now _ (without_told c.args.count) c.self.invariant.0 (search rules) (search rules) c.index_mut-shadow.ensures.value (search rules))
