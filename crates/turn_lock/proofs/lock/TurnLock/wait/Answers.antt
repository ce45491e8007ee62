use Rattle.std.proofs.Common.{ap, sym, ◌∙◌, arith}
use Rattle.turn_lock.proofs.Keeps.{looks_up}
use Rattle.turn_lock.proofs.lock.TurnLock.wait.Goals as goal

pub load-requires : goal.load-requires
load-requires g c =
    let now = c.loop.invariant in
    let waits = c.requires.waits in
    let words = c.self.invariant.0 in (
      now.0 ∙ (c.requires.lock ∙ sym (ap (λ l. l.origin.table) c.self.view_is)),
      omega arith,
      looks_up g.O.Object.fits g.O.Object.stands c.self.inside.table.shared.key.value _ _ c.loop.seat.me (ap (λ m. m.0.live) now.1 ∙ waits.live) (ap (λ m. m.0.waits) now.1 ∙ waits.waits) (ap (λ m. m.0.turn) now.1 ∙ waits.turn),
    )
