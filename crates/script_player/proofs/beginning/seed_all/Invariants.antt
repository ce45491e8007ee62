use Rattle.script_player.proofs.Begun.{SeedsLeft}
use Rattle.script_player.proofs.beginning.seed_all.Given as goal

abbrev pub invariant-loop-seed : goal.invariant-loop-seed
invariant-loop-seed l = SeedsLeft l.fn.script l.seed-index l.course l.actors.items
