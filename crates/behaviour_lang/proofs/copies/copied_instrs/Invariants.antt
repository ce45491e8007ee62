use Rattle.std.proofs.Common.{◌≡◌, take}
use Rattle.behaviour_lang.proofs.copies.copied_instrs.Given as goal

abbrev pub invariant-loop-row : goal.invariant-loop-row
invariant-loop-row l = l.copied ≡ take l.row-index l.row-items
