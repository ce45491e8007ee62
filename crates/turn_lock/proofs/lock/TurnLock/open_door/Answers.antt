use Rattle.std.proofs.Common.{ap, sym, ◌∙◌, arith}
use Rattle.turn_lock.proofs.Keeps.{swaps_the_door}
use Rattle.turn_lock.proofs.lock.TurnLock.open_door.Goals as goal

pub swap-requires : goal.swap-requires
swap-requires g c =
    let words = c.self.invariant.0 in (
      c.requires.lock ∙ sym (ap (λ l. l.origin.table) c.self.view_is),
      omega arith,
      swaps_the_door g.O.Object.fits g.O.Object.stands c.self.inside.table.shared.key.value _ _ _ _ _ (omega arith),
    )
