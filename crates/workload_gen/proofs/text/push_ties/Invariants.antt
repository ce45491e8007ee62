use Rattle.std.proofs.Common.{◌≡◌, ◌≤◌, ◌++◌, drop, flat_map, length, string_bytes}
use Rattle.std.specs.List.{enumerate_from}
use Rattle.workload_gen.specs.Texts.{tie_text}
use Rattle.workload_gen.proofs.text.push_ties.Given as goal

abbrev pub invariant-loop-j : goal.invariant-loop-j
invariant-loop-j l = record {
  few : length l.makers ≤ 16;
  text : string_bytes l.text ++ flat_map tie_text (enumerate_from l.j (drop l.j l.makers)) ≡ string_bytes l.fn.text ++ flat_map tie_text (enumerate_from 0 l.makers);
}
