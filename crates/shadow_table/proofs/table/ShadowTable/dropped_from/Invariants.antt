use Rattle.std.proofs.Common.{◌≡◌, ◌+◌, ◌≤◌, take}
use Rattle.shadow_table.specs.Shadows.{dropped_count}
use Rattle.shadow_table.proofs.table.ShadowTable.dropped_from.Given as goal

abbrev pub invariant-loop-later : goal.invariant-loop-later
invariant-loop-later l =
    (dropped_count (take l.place l.self.shadows) + l.count ≡ dropped_count (take l.later l.self.shadows)) × (l.count ≤ l.later)
