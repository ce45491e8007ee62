use Rattle.std.proofs.Common.{rules}
use Rattle.shadow_table.specs.Shadows.{with_state}
use Rattle.shadow_table.proofs.ShadowLemmas.{shadow-changed}
use Rattle.shadow_table.proofs.table.ShadowTable.note_state.Goals as goal

pub returns : goal.returns
returns c =
    rw (← c.self.view_is) (shadow-changed c.self.inside.names.items c.self.inside.shadows.items c.args.row.actor c.place-place.result c.index.result.now c.with_state.result (with_state c.args.node c.args.row) c.self.invariant.0 (search rules) (search rules) c.index.ensures c.with_state.ensures)
