use Rattle.std.proofs.Common.{◌≡◌, ◌≤◌, ◌+◌, ◌-◌, drop, length}
use Rattle.journal_model.specs.Lines.{lines_of}
use Rattle.journal_player.proofs.Replaying.{GoesOn}
use Rattle.journal_player.proofs.journal.follow_part.Given as goal

abbrev pub invariant-loop-line : goal.invariant-loop-line
invariant-loop-line l = record {
  goes : GoesOn l.fn.player l.fn.number (lines_of l.fn.text) l.player l.next (lines_of l.rest);
  within : length l.rest ≤ length l.fn.text;
  rest : l.rest ≡ drop (length l.fn.text - length l.rest) l.fn.text;
  number : l.next + length l.rest ≤ l.fn.number + length l.fn.text;
}

abbrev pub decreases-loop-line : goal.decreases-loop-line
decreases-loop-line l = length l.rest
