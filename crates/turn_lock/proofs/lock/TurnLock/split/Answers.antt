use Rattle.std.proofs.Common.{ap, sym, ◌∙◌, arith}
use Rattle.turn_lock.proofs.Keeps.{draws_a_number, splits_after}
use Rattle.turn_lock.proofs.lock.TurnLock.split.Goals as goal

pub fetch_add-number-requires : goal.fetch_add-number-requires
fetch_add-number-requires g c =
    let idle = c.pass.invariant in
    let is = c.pass.view_is in
    let words = c.self.invariant.0 in (
      ap (λ p. p.origin.table) is ∙ (ap (λ o. o.table) c.requires.lock ∙ sym (ap (λ l. l.origin.table) c.self.view_is)),
      omega arith,
      draws_a_number g.O.Object.fits g.O.Object.stands c.self.inside.table.shared.key.value _ _ c.pass.inside.seat.me idle.live (ap (λ p. p.number) is ∙ c.requires.first) idle.drawn idle.waits idle.turn (let split = ap (λ p. p.split) is in let room = c.requires.room in omega arith),
    )

pub split_seat-seat-requires : goal.split_seat-seat-requires
split_seat-seat-requires g c =
    let idle = c.pass.invariant in
    let is = c.pass.view_is in
    let words = c.self.invariant.0 in
    let drew = c.fetch_add-number.ensures in (
      drew.0 ∙ (ap (λ p. p.origin.table) is ∙ (ap (λ o. o.table) c.requires.lock ∙ sym (ap (λ l. l.origin.table) c.self.view_is))),
      omega arith,
      splits_after g.O.Object.fits g.O.Object.stands c.self.inside.table.shared.key.value _ c.pass.inside.seat.me.0 _ (ap (λ m. m.0) drew.2.1) idle.live (ap (λ p. p.number) is ∙ c.requires.first) idle.waits idle.turn,
    )
