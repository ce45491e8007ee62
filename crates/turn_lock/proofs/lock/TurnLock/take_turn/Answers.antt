use Rattle.std.proofs.Common.{◌≡◌, [], ◌∷◌, ◌++◌, refl, ap, sym, ◌∙◌, subst, arith}
use Rattle.turn_lock.specs.History.{entry, calls_of, IsProper}
use Rattle.turn_lock.specs.Views.{ticketed, turned, called}
use Rattle.turn_lock.specs.Plays.{Took}
use Rattle.turn_lock.specs.Steps.{Answers}
use Rattle.turn_lock.specs.declared.rule.Room.{Room}
use Rattle.turn_lock.proofs.Calls.{same_start, one_room}
use Rattle.turn_lock.proofs.Keeps.{draws_a_ticket, hands_over}
use Rattle.turn_lock.proofs.lock.TurnLock.take_turn.Given.{Over}
use Rattle.turn_lock.proofs.lock.TurnLock.take_turn.Goals.{After-wait}
use Rattle.turn_lock.proofs.lock.TurnLock.take_turn.Goals as goal

pub fetch_add-ticket-requires : goal.fetch_add-ticket-requires
fetch_add-ticket-requires g c =
    let idle = c.requires.idle in
    let words = c.self.invariant.0 in (
      c.requires.lock.0 ∙ sym (ap (λ l. l.origin.table) c.self.view_is),
      omega arith,
      draws_a_ticket g.O.Object.fits g.O.Object.stands c.self.inside.table.shared.key.value _ _ c.args.seat.now.me idle.live idle.waits idle.turn,
    )

-- what the look that found the turn told
turn : (g : Over) (c : After-wait g) → Took g.O.Object.fits g.O.Object.stands (ticketed c.args.seat.now.me.0 c.fetch_add-ticket.ensures.2.0, []) c.wait.new.seat.me
turn g c =
    let drew = c.fetch_add-ticket.ensures.2 in
    subst (λ m. Took g.O.Object.fits g.O.Object.stands m c.wait.new.seat.me) (drew.2 ∙ ap (λ l. (ticketed c.args.seat.now.me.0 drew.0, l)) c.requires.idle.held) c.wait.ensures.took

-- the state from which the look's history goes on is that with which the lock was made
start_is : (g : Over) (c : After-wait g) → (turn g c).start ≡ c.args.self.now.start
start_is g c = same_start _ _ _ _ _ (turn g c).is_start c.requires.lock.1 (sym (ap (λ l. l.origin.start) c.self.view_is)) (sym (ap (λ l. l.start) c.self.view_is))

-- the operation fits after all that came later, too
still : (g : Over) (c : After-wait g) → g.O.Object.fits (turn g c).start ((turn g c).later ++ c.args.seat.now.me.0.seen) c.args.op c.args.pass
still g c =
    let t = turn g c in
    g.met.O.Object.still_fits t.start t.later c.args.seat.now.me.0.seen c.args.op c.args.pass (subst (λ n. calls_of n t.later ≡ []) c.requires.idle.number_is t.none_later)
    (subst (λ s. g.O.Object.fits s c.args.seat.now.me.0.seen c.args.op c.args.pass) (sym (start_is g c)) c.requires.fits)

pub make-reply-requires-clause-may : goal.make-reply-requires-clause-may
make-reply-requires-clause-may g c =
    let a = (goal.at.make-reply-requires-clause-may g c).After-wait in
    let t = turn g a in
    (t.room, ap (λ m. m.1) t.after, (t.start, t.later ++ c.args.seat.now.me.0.seen, t.stood, still g a))

-- the state after the step stands for the history with the new call
stood : (g : Over) (c : After-wait g) (reply : g.row.O-Reply.Denot) (before after : Room g.row.O-State.Denot g.row.O-Op.Denot g.row.O-Reply.Denot) → c.wait.new.seat.me.1 ≡ (0, before) ∷ [] → Answers g.O.Object.fits g.O.Object.stands c.args.pass c.args.op reply before.state after.state
    → g.O.Object.stands (turn g c).start (entry c.args.pass c.args.op reply ∷ ((turn g c).later ++ c.args.seat.now.me.0.seen)) after.state
stood g c reply before after held answers =
    let t = turn g c in
    let history = t.later ++ c.args.seat.now.me.0.seen in
    let same : t.room ≡ before = one_room t.room before (sym (ap (λ m. m.1) t.after) ∙ held) in
    answers t.start history (subst (λ room. g.O.Object.stands t.start history room.state) same t.stood) (still g c)

pub fetch_add-requires : goal.fetch_add-requires
fetch_add-requires g c =
    let a = (goal.at.fetch_add-requires g c).After-wait in
    let t = turn g a in
    let idle = c.requires.idle in
    let words = c.self.invariant.0 in
    let seat = c.make-reply.ensures.seat in
    let made = c.make-reply.ensures.made.2 in
    let last = made.2.0 in (
      seat.0 ∙ (c.wait.ensures.lock ∙ (c.fetch_add-ticket.ensures.0 ∙ (c.requires.lock.0 ∙ sym (ap (λ l. l.origin.table) c.self.view_is)))),
      omega arith,
      hands_over g.O.Object.fits g.O.Object.stands c.self.inside.table.shared.key.value _ _ c.make-reply.new.seat.me (turned (ticketed c.args.seat.now.me.0 c.fetch_add-ticket.ensures.2.0) t.later) made.0 last.0 t.start c.args.op c.make-reply.result c.args.pass
          c.self.invariant.1 (seat.2 ∙ ap (λ m. m.0) t.after) made.1 last.1 last.2 last.3 idle.number_is idle.live refl t.is_start (still g a) (stood g a c.make-reply.result c.make-reply.ensures.made.0 made.0 c.make-reply.ensures.made.1 made.2.1),
    )

pub returns-clause-served : goal.returns-clause-served
returns-clause-served g c =
    let a = (goal.at.returns-clause-served g c).After-wait in
    let t = turn g a in
    let idle = c.requires.idle in
    let seat = c.make-reply.ensures.seat in
    let made = c.make-reply.ensures.made.2 in
    let last = made.2.0 in
    let is = seat.2 ∙ ap (λ m. m.0) t.after in record {
      ticket = c.fetch_add-ticket.ensures.2.0;
      later = t.later;
      after = c.fetch_add.ensures.2 made.0 last.0 made.1 last.1 ∙ (λ i. (called (is i) (last.2 i) (last.3 i), []));
      none_later = subst (λ n. calls_of n t.later ≡ []) idle.number_is t.none_later;
      own = subst (λ n. calls_of n (t.later ++ c.args.seat.now.me.0.seen) ≡ c.args.seat.now.me.0.own) idle.number_is t.own;
      proper = subst (λ s. IsProper g.O.Object.fits g.O.Object.stands s (entry c.args.pass c.args.op c.make-reply.result ∷ (t.later ++ c.args.seat.now.me.0.seen))) (start_is g a) (still g a, (made.0.state, stood g a c.make-reply.result c.make-reply.ensures.made.0 made.0 c.make-reply.ensures.made.1 made.2.1), t.proper);
    }
