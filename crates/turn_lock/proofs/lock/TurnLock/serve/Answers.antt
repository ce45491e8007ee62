use Rattle.std.proofs.Common.{ap, sym, ◌∙◌, subst}
use Rattle.turn_lock.specs.Idle.{IsIdle}
use Rattle.turn_lock.proofs.lock.TurnLock.serve.Goals as goal

pub take_turn-reply-requires-clause-lock : goal.take_turn-reply-requires-clause-lock
take_turn-reply-requires-clause-lock g c =
    let seat = c.shut_door.ensures.seat in
    (seat.0 ∙ c.requires.lock.0, ap (λ m. m.0.start) seat.1 ∙ c.requires.lock.1)

pub take_turn-reply-requires-clause-idle : goal.take_turn-reply-requires-clause-idle
take_turn-reply-requires-clause-idle g c = subst (IsIdle c.args.pass) (sym c.shut_door.ensures.seat.1) c.requires.idle

pub take_turn-reply-requires-clause-fits : goal.take_turn-reply-requires-clause-fits
take_turn-reply-requires-clause-fits g c = subst (λ m. g.O.Object.fits c.args.self.now.start m.0.seen c.args.op c.args.pass) (sym c.shut_door.ensures.seat.1) c.requires.fits
