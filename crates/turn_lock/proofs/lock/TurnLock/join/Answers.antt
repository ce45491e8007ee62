use Rattle.std.proofs.Common.{ap, sym, ◌∙◌, arith}
use Rattle.turn_lock.proofs.Ends.{joins, compares_histories}
use Rattle.turn_lock.proofs.lock.TurnLock.join.Goals as goal

pub join_seat-requires : goal.join_seat-requires
join_seat-requires g c =
    let idle = c.pass.invariant in
    let other = c.other.invariant in
    let words = c.self.invariant.0 in
    let table = sym (ap (λ l. l.origin.table) c.self.view_is) in (
      ap (λ p. p.origin.table) c.pass.view_is ∙ (ap (λ o. o.table) c.requires.lock.0 ∙ table),
      ap (λ p. p.origin.table) c.other.view_is ∙ (ap (λ o. o.table) c.requires.lock.1 ∙ table),
      other.held,
      omega arith,
      joins g.O.Object.fits g.O.Object.stands c.self.inside.table.shared.key.value _ c.pass.inside.seat.me.0 _ c.other.inside.seat.me.0 idle.live (ap (λ p. p.number) c.pass.view_is ∙ c.requires.first) idle.waits idle.turn other.live other.waits other.turn,
    )

pub load-requires : goal.load-requires
load-requires g c =
    let words = c.self.invariant.0 in
    let joined = c.join_seat.ensures in (
      joined.0 ∙ (ap (λ p. p.origin.table) c.pass.view_is ∙ (ap (λ o. o.table) c.requires.lock.0 ∙ sym (ap (λ l. l.origin.table) c.self.view_is))),
      omega arith,
      compares_histories g.O.Object.fits g.O.Object.stands c.self.inside.table.shared.key.value _ _ c.join_seat.new.seat.me (ap (λ m. m.0.live) joined.2 ∙ c.pass.invariant.live),
    )
