use Rattle.std.proofs.Common.{List, ◌++◌, length, ap, sym, ◌∙◌, subst}
use mathlib.Core.Option.{some-injective}
use Rattle.turn_lock.specs.declared.object.Entry.{Entry}
use Rattle.turn_lock.specs.History.{IsMadeOf, IsProper}
use Rattle.turn_lock.proofs.Ends.{Settled, settles}
use Rattle.turn_lock.proofs.lock.TurnLock.close.Given.{Over}
use Rattle.turn_lock.proofs.lock.TurnLock.close.Goals.{After-state_of}
use Rattle.turn_lock.proofs.lock.TurnLock.close.Goals as goal

-- what the rule says at the end
at_end : (g : Over) (c : After-state_of g) → Settled g.O.Object.fits g.O.Object.stands c.self.inside.table.shared.key.value c.pass.inside.seat.me.0 c.close_with-closed.ensures.values.2.0
at_end g c =
    let final = c.close_with-closed.ensures.values.2 in
    let idle = c.pass.invariant in
    let joined = c.requires.joined in
    let is = c.pass.view_is in
    settles g.O.Object.fits g.O.Object.stands c.self.inside.table.shared.key.value final.0 final.1.0 _ c.pass.inside.seat.me.0 final.1.1 idle.live (ap (λ p. p.number) is ∙ c.requires.first)
    (ap (λ p. length p.joined) is ∙ (joined ∙ sym (ap (λ p. p.split) is))) idle.turn

pub returns-clause-stands : goal.returns-clause-stands
returns-clause-stands g c =
    let home = (at_end g c).home in
    let final = c.close_with-closed.ensures.values.2 in
    let room = some-injective _ _ (sym (final.4 0 home.0 home.1) ∙ c.take-room.ensures.value) in
    let state = ap (λ r. r.state) room ∙ sym c.state_of.ensures in
    subst (λ (x : g.row.O-State.Denot × List (Entry g.row.O-Op.Denot g.row.O-Reply.Denot) × g.row.O-State.Denot). g.O.Object.stands x.0 x.1 x.2) (λ i. (ap (λ l. l.start) c.self.view_is i, ap (λ p. p.seen) c.pass.view_is i, state i)) home.2

pub returns-clause-proper : goal.returns-clause-proper
returns-clause-proper g c = subst (λ (x : g.row.O-State.Denot × List (Entry g.row.O-Op.Denot g.row.O-Reply.Denot)). IsProper g.O.Object.fits g.O.Object.stands x.0 x.1) (λ i. (ap (λ l. l.start) c.self.view_is i, ap (λ p. p.seen) c.pass.view_is i)) (at_end g c).proper

pub returns-clause-calls : goal.returns-clause-calls
returns-clause-calls g c = subst (λ p. IsMadeOf (p.own ++ p.gathered) p.seen) c.pass.view_is (at_end g c).calls
