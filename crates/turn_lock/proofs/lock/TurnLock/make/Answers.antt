use Rattle.std.proofs.Common.{◌≡◌, ℕ, List, ◌∷◌, get_or, Some, refl, ap, sym, ◌∙◌, subst}
use Rattle.atomic_table.specs.Table.{rest}
use Rattle.turn_lock.specs.declared.rule.Last.{Last}
use Rattle.turn_lock.specs.declared.rule.Room.{Room}
use Rattle.turn_lock.specs.Steps.{MayAnswer}
use Rattle.turn_lock.proofs.lock.TurnLock.make.Goals as goal

pub slot_mut-room-requires : goal.slot_mut-room-requires
slot_mut-room-requires g c = let t = c.requires.may in (c.requires.lock ∙ sym (ap (λ l. l.origin.table) c.self.view_is), (t.0, t.1 ∙ ap (λ l. (0, t.0) ∷ rest l) (sym t.1)))

pub step-reply-requires : goal.step-reply-requires
step-reply-requires g c =
    let t = c.requires.may in
    let same : t.0 ≡ c.slot_mut-room.result.now = ap (λ (l : List (ℕ × Room g.row.O-State.Denot g.row.O-Op.Denot g.row.O-Reply.Denot)). (get_or l 0 (0, t.0)).1) (sym t.1 ∙ c.slot_mut-room.ensures.value) in
    subst (λ room. MayAnswer g.O.Object.fits g.O.Object.stands c.args.pass c.args.op room.state) same t.2

pub returns-clause-made : goal.returns-clause-made
returns-clause-made g c =
    let none_left = ap rest c.requires.may.1 in
    let before = c.slot_mut-room.result.now in
    let last : Last g.row.O-Op.Denot g.row.O-Reply.Denot = record { op = c.of-asked.result; reply = c.of.result } in
    let after : Room g.row.O-State.Denot g.row.O-Op.Denot g.row.O-Reply.Denot = record { state = c.step-reply.new.state; last = Some last } in (
      before,
      c.slot_mut-room.ensures.value ∙ ap (λ l. (0, before) ∷ l) none_left,
      (after, ap (λ l. (0, after) ∷ l) none_left, ((last, refl, c.of-asked.ensures, c.of.ensures), c.step-reply.ensures)),
    )
