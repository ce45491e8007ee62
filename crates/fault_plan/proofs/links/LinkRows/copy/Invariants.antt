use Rattle.std.proofs.Common.{◌≡◌, take}
use Rattle.fault_plan.proofs.links.LinkRows.copy.Given as goal

abbrev pub invariant-loop-row : goal.invariant-loop-row
invariant-loop-row l = l.copied ≡ take l.row-index l.row-items
