use Rattle.std.proofs.Common.{◌≡◌, take}
use Rattle.behaviour_lang.proofs.code.Code.copy.Given as goal

abbrev pub invariant-loop-row : goal.invariant-loop-row
invariant-loop-row l = l.behaviours ≡ take l.row-index l.row-items
