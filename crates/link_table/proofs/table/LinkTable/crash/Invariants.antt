use Rattle.std.proofs.Common.{◌≡◌, ◌<◌, ◌≤◌, ℕ}
use Rattle.link_table.specs.Table.{IsLink, after_crash, link_at}
use Rattle.link_table.proofs.table.LinkTable.crash.Given as goal

abbrev pub invariant-loop-number : goal.invariant-loop-number
invariant-loop-number l = record {
  done : (s d : ℕ) → IsLink s d → s < l.number → link_at l.self s d ≡ after_crash l.at l.fn.self s d;
  left : (s d : ℕ) → IsLink s d → l.number ≤ s → link_at l.self s d ≡ link_at l.fn.self s d;
}
