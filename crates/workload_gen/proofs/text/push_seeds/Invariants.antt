use Rattle.std.proofs.Common.{◌≡◌, ◌++◌, drop, flat_map, string_bytes}
use Rattle.workload_gen.specs.Texts.{seed_text}
use Rattle.workload_gen.proofs.text.push_seeds.Given as goal

abbrev pub invariant-loop-i : goal.invariant-loop-i
invariant-loop-i l =
    string_bytes l.text ++ flat_map seed_text (drop l.i l.makers) ≡ string_bytes l.fn.text ++ flat_map seed_text l.makers
