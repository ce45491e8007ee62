use Rattle.std.proofs.Common.{◌≡◌, ◌∷◌, sym, ◌∙◌, ap, subst}
use Rattle.turn_lock.specs.History.{entry}
use Rattle.operation_model.specs.Deeds.{turn_reply}
use Rattle.operation_model.specs.Turns.{Calls}
use Rattle.actor_dispatch.specs.declared.beginning.Tried.TheVariants as tries
use Rattle.actor_dispatch.specs.Begun.{begun_of}
use Rattle.actor_dispatch.specs.Turning.{LeavesNone, Loses}
use Rattle.actor_dispatch.proofs.Starting.{begun-leaves, begun-reply, tried-leaves}
use Rattle.actor_dispatch.proofs.taking.try_turn.Goals as goal

pub returns-in-Ok-run_turn-clause-turns : goal.returns-in-Ok-run_turn-clause-turns
returns-in-Ok-run_turn-clause-turns g c =
    let p = c.args.pass.now in
    let begun = c.in-Begun.begun in
    let b = begun_of begun in
    let own : c.ask.new.pass.own ≡ entry p.number c.args.op (turn_reply b) ∷ p.own =
    c.in-Ok.ensures.asked.own ∙ ap (λ r. entry p.number c.args.op r ∷ p.own) (begun-reply c.in-Ok.reply begun c.in-Begun.ensures) in
    begun-leaves p.number c.args.op b p.own c.run_turn.new.pass.own c.requires.begins
    (subst (λ (calls : Calls). Loses begun.actor calls c.run_turn.new.pass.own) own c.in-Ok-run_turn.ensures.ended)

pub returns-in-NotNow-clause-turns : goal.returns-in-NotNow-clause-turns
returns-in-NotNow-clause-turns g c =
    let p = c.args.pass.now in
    subst (λ (calls : Calls). LeavesNone p.own calls) (sym c.in-Ok.ensures.asked.own)
    (tried-leaves p.number c.args.op c.in-Ok.reply p.own c.requires.begins
    (λ b is. absurd (let no : tries.Begun b ≡ tries.NotNow = is ∙ sym c.in-NotNow.ensures in cc)))
