use Rattle.collector.specs.Collected.{IsSettled}
use Rattle.refused_memory.proofs.collecting.verdicts_of.Given as goal

abbrev pub invariant-loop-line : goal.invariant-loop-line
invariant-loop-line g l = IsSettled l.collector
