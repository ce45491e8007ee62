use Rattle.script_player.proofs.Begun.{TiesLeft}
use Rattle.script_player.proofs.beginning.tie_all.Given as goal

abbrev pub invariant-loop-tie : goal.invariant-loop-tie
invariant-loop-tie l = TiesLeft l.fn.script l.tie-index l.course
