use Rattle.std.proofs.Common.{◌≡◌, ◌<◌, ◌++◌, map}
use Rattle.std.specs.Fmt.{decimal}
use Rattle.std.specs.List.{AllByRecursion}
use Rattle.event_lines.specs.Words.{spaced}
use Rattle.event_lines.proofs.MembersLaws.{below}
use Rattle.event_lines.proofs.verdict.write_members.Given as goal

abbrev pub invariant-loop-n : goal.invariant-loop-n
invariant-loop-n l = record {
  written : l.out.items ≡ l.fn.out.items ++ spaced (map decimal (below l.n l.set));
  in_range : 0 < l.n → AllByRecursion (λ k. k < 16) l.set;
}
