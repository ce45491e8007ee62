use Rattle.std.proofs.Common.{ap, sym, ◌∙◌, arith}
use Rattle.turn_lock.proofs.Keeps.{tries_the_door}
use Rattle.turn_lock.proofs.lock.TurnLock.comes_in.Goals as goal

pub compare_exchange-requires : goal.compare_exchange-requires
compare_exchange-requires g c =
    let words = c.self.invariant.0 in (
      c.loop.invariant.0 ∙ (c.requires.lock ∙ sym (ap (λ l. l.origin.table) c.self.view_is)),
      omega arith,
      tries_the_door g.O.Object.fits g.O.Object.stands c.self.inside.table.shared.key.value _ _ _ _ _ _ (omega arith),
    )
