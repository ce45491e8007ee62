use Rattle.std.proofs.Common.{sym, subst}
use Rattle.operation_model.specs.declared.operations.Op.{Op}
use Rattle.operation_model.specs.Fits.{Fits}
use Rattle.world_object.specs.State.{as_opening}
use Rattle.actor_dispatch.specs.Calling.{IsAnswered}
use Rattle.actor_dispatch.proofs.Leaving.{ok-then}
use Rattle.actor_dispatch.proofs.Making.{act-fits, after-goes_on}
use Rattle.actor_dispatch.proofs.turning.make.Goals as goal

pub ask_shortly-requires-clause-fits : goal.ask_shortly-requires-clause-fits
ask_shortly-requires-clause-fits g c =
    let p = c.args.pass.now in
    let o = as_opening c.args.lock.now.start in
    subst (λ (op : Op). Fits o p.seen op p.number) (sym c.act_op.ensures) (act-fits o p c.args.actor c.args.act c.args.turn.now c.requires.due)

pub returns-in-Ok-clause-goes_on : goal.returns-in-Ok-clause-goes_on
returns-in-Ok-clause-goes_on g c =
    let p = c.args.pass.now in
    let o = as_opening c.args.lock.now.start in
    let q = c.ask_shortly.new.pass in
    let answered = subst (λ (op : Op). IsAnswered o op c.in-Ok.short p q) c.act_op.ensures c.in-Ok.ensures.ok in
    ok-then c.after_act.result c.after_act.ensures.after
    (λ on after. after-goes_on o p q c.after_act.new.pass c.args.actor c.args.act c.args.turn.now c.after_act.new.turn c.in-Ok.short on c.requires.due answered after)
