use Rattle.event_lines.proofs.PiecesLaws.{left-some}
use Rattle.event_lines.proofs.pieces.Pieces.end.Goals as goal

pub returns-else-self : goal.returns-else-self
returns-else-self c =
    let p = c.self.inside in
    left-some p.is_over p.separator p.rest.now c.args.self.now c.if-self.false c.self.view_is
