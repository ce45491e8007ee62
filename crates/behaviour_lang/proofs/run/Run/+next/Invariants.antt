use Rattle.std.proofs.Common.{length, ◌-◌}
use Rattle.behaviour_lang.proofs.run.Run.+next.Given as goal

-- the instructions that are left
abbrev pub decreases-next : goal.decreases-next
decreases-next l = length l.instrs.now - l.self.now.position
