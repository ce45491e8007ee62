use Rattle.std.proofs.Common.{◌+◌, ◌<◌, ◌^◌, List, Option, subst, sym}
use Rattle.crgc_ids.specs.Actor.{Actor}
use Rattle.undo_log.specs.Noted.{noted_count, rows_noted, side_total}
use Rattle.undo_log.specs.declared.corrections.Correction.{Correction}
use Rattle.undo_log.specs.declared.corrections.Side.{Side}
use Rattle.undo_log.proofs.NotedLemmas.{admitted-notes, admitted-room, told-notes, told-room}
use Rattle.undo_log.proofs.node_log.NodeLog.note.Goals as goal

pub invariant_of-self : goal.invariant_of-self
invariant_of-self c =
    told-room c.note.result c.self.inside.told c.note.new.self c.self.inside.admitted c.args.messages.now c.args.pairs.now c.self.invariant
    (subst (λ (side : Side). (owner : Option Actor) → (target : Actor) → side_total side owner target (rows_noted c.self.inside.told c.self.inside.admitted) + noted_count owner target c.args.messages.now c.args.pairs.now < 2 ^ 63) c.in-Told.is
    (subst (λ (rows : List Correction). (owner : Option Actor) → (target : Actor) → side_total c.args.side owner target rows + noted_count owner target c.args.messages.now c.args.pairs.now < 2 ^ 63) (sym c.self.view_is) c.requires)) c.note.ensures.ok c.note.ensures.err

pub invariant_of-self-in-Admitted : goal.invariant_of-self-in-Admitted
invariant_of-self-in-Admitted c =
    admitted-room c.note-in-Admitted.result c.self.inside.told c.self.inside.admitted c.note-in-Admitted.new.self c.args.messages.now c.args.pairs.now c.self.invariant
    (subst (λ (side : Side). (owner : Option Actor) → (target : Actor) → side_total side owner target (rows_noted c.self.inside.told c.self.inside.admitted) + noted_count owner target c.args.messages.now c.args.pairs.now < 2 ^ 63) c.in-Admitted.is
    (subst (λ (rows : List Correction). (owner : Option Actor) → (target : Actor) → side_total c.args.side owner target rows + noted_count owner target c.args.messages.now c.args.pairs.now < 2 ^ 63) (sym c.self.view_is) c.requires)) c.note-in-Admitted.ensures.ok c.note-in-Admitted.ensures.err

pub returns-in-Told-clause-ok : goal.returns-in-Told-clause-ok
returns-in-Told-clause-ok c =
    rw c.in-Told.is (rw (← c.self.view_is) (told-notes c.note.result c.self.inside.told c.note.new.self c.self.inside.admitted c.args.messages.now c.args.pairs.now c.note.ensures.ok))

pub returns-in-Admitted-clause-ok : goal.returns-in-Admitted-clause-ok
returns-in-Admitted-clause-ok c =
    rw c.in-Admitted.is (rw (← c.self.view_is) (admitted-notes c.note-in-Admitted.result c.self.inside.told c.self.inside.admitted c.note-in-Admitted.new.self c.args.messages.now c.args.pairs.now c.note-in-Admitted.ensures.ok))
