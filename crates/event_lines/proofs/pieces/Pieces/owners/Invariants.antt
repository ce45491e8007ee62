use Rattle.std.proofs.Common.{◌≡◌, length}
use Rattle.journal_model.specs.Fields.{actor_of}
use Rattle.journal_model.specs.Shapes.{all_of}
use Rattle.event_lines.proofs.ListsLaws.{after_fields}
use Rattle.event_lines.proofs.pieces.Pieces.owners.Given as goal

abbrev pub invariant-loop-word : goal.invariant-loop-word
invariant-loop-word l = after_fields l.owners (all_of actor_of l.self) ≡ all_of actor_of l.fn.self

abbrev pub decreases-loop-word : goal.decreases-loop-word
decreases-loop-word l = length l.self
