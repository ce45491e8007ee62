use Rattle.std.proofs.Common.{refl, rules}
use Rattle.shadow_table.specs.Shadows.{with_admitted}
use Rattle.shadow_table.proofs.ShadowLemmas.{shadow-changed}
use Rattle.shadow_table.proofs.table.ShadowTable.admit.Goals as goal

pub returns : goal.returns
returns c =
    rw (← c.self.view_is) (shadow-changed c.self.inside.names.items c.self.inside.shadows.items c.args.actor c.place-place.result c.index_mut.result.now _ (with_admitted c.args.count) c.self.invariant.0 (search rules) (search rules) c.index_mut.ensures.value refl)
