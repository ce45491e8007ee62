use Rattle.std.proofs.Common.{◌≡◌, ◌<◌, ◌%◌, ◌-◌, ◌++◌}
use Rattle.workload_gen.specs.Makers.{makers, makers_from}
use Rattle.workload_gen.proofs.makers.makers.Given as goal

abbrev pub invariant-loop-j : goal.invariant-loop-j
invariant-loop-j l = record {
  in_range : l.x < 65536;
  made : l.makers.items ++ makers_from (16 - l.j) l.j l.x l.size ≡ makers (l.fn.seed % 65536) l.size;
}
