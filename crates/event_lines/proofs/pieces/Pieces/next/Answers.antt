use Rattle.std.proofs.Common.{◌+◌, refl, ap}
use Rattle.event_lines.specs.Pieces.{pieces_left}
use Rattle.event_lines.proofs.PiecesLaws.{left-first, left-last, take-rest}
use Rattle.event_lines.proofs.pieces.Pieces.next.Goals as goal

pub returns-in_default-clause-first : goal.returns-in_default-clause-first
returns-in_default-clause-first c =
    let p = c.self.inside in
    let e = left-last p.is_over p.separator p.rest.now c.args.self.now c.if-self.false c.self.view_is c.in_default.ensures.none in
    rw e refl

pub returns-in_default-clause-rest : goal.returns-in_default-clause-rest
returns-in_default-clause-rest c =
    let p = c.self.inside in
    let e = left-last p.is_over p.separator p.rest.now c.args.self.now c.if-self.false c.self.view_is c.in_default.ensures.none in
    rw e refl

pub returns-clause-first : goal.returns-clause-first
returns-clause-first c =
    let p = c.self.inside in
    let end = c.in-Some.end in
    let place = c.in-Some.ensures in
    let e = left-first p.is_over p.separator p.rest.now c.args.self.now end c.if-self.false c.self.view_is place.within place.before place.found in
    rw e refl

pub returns-clause-rest : goal.returns-clause-rest
returns-clause-rest c =
    let p = c.self.inside in
    let end = c.in-Some.end in
    let place = c.in-Some.ensures in
    let e = left-first p.is_over p.separator p.rest.now c.args.self.now end c.if-self.false c.self.view_is place.within place.before place.found in
    rw e (ap (λ l. pieces_left p.is_over p.separator l) (take-rest (end + 1) p.rest.now))
