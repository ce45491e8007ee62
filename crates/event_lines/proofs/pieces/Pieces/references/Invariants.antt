use Rattle.std.proofs.Common.{◌≡◌, ◌-◌, ◌≤◌, length}
use Rattle.journal_model.specs.Fields.{actor_of}
use Rattle.journal_model.specs.Shapes.{up_to}
use Rattle.event_lines.proofs.ListsLaws.{after_fields}
use Rattle.event_lines.proofs.pieces.Pieces.references.Given as goal

abbrev pub invariant-loop-word : goal.invariant-loop-word
invariant-loop-word l = record {
  few : length l.refs ≤ 16;
  same : after_fields l.refs (up_to actor_of (16 - length l.refs) l.self) ≡ up_to actor_of 16 l.fn.self;
}

abbrev pub decreases-loop-word : goal.decreases-loop-word
decreases-loop-word l = length l.self
