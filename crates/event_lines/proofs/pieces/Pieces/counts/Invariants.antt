use Rattle.std.proofs.Common.{◌≡◌, ◌-◌, ◌≤◌, length}
use Rattle.journal_model.specs.Shapes.{before_lost}
use Rattle.event_lines.proofs.ListsLaws.{after_counts}
use Rattle.event_lines.proofs.pieces.Pieces.counts.Given as goal

abbrev pub invariant-loop-word : goal.invariant-loop-word
invariant-loop-word l = record {
  few : length l.counts ≤ 16;
  same : after_counts l.counts (before_lost (16 - length l.counts) l.self) ≡ before_lost 16 l.fn.self;
}

abbrev pub decreases-loop-word : goal.decreases-loop-word
decreases-loop-word l = length l.self
