use Rattle.std.proofs.Common.{◌≤◌, ◌+◌, ◌-◌, drop, length}
use Rattle.journal_model.specs.Lines.{lines_of}
use Rattle.journal_player.proofs.Replaying.{GoesOn}
use Rattle.journal_player.proofs.journal.follow_all.Given as goal

abbrev pub invariant-loop-start : goal.invariant-loop-start
invariant-loop-start l = record {
  goes : GoesOn l.fn.player 2 (lines_of (drop l.fn.read l.fn.text.items)) l.player l.number (lines_of (drop l.start l.left.items));
  within : l.start ≤ length l.left.items;
  number : l.number + (length l.left.items - l.start) ≤ 2 + length l.fn.text.items;
}

abbrev pub decreases-loop-start : goal.decreases-loop-start
decreases-loop-start l = length l.left.items - l.start
