use Rattle.event_lines.proofs.FieldsLaws.{IsReadTo}
use Rattle.event_lines.proofs.fields.number.Given as goal

abbrev pub invariant-loop-b : goal.invariant-loop-b
invariant-loop-b l = IsReadTo l.limit l.word l.b-index l.n
