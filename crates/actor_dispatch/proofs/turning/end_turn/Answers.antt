use Rattle.std.proofs.Common.{subst}
use Rattle.world_object.specs.State.{as_opening}
use Rattle.operation_model.specs.declared.operations.Op.TheVariants as ops
use Rattle.actor_dispatch.specs.Calling.{IsAnswered}
use Rattle.actor_dispatch.proofs.Leaving.{loses-leaves, on_ok-then}
use Rattle.actor_dispatch.proofs.Making.{rest-down-loses, rest-fits, rest-loses}
use Rattle.actor_dispatch.proofs.turning.end_turn.Goals as goal

pub ask_shortly-requires-clause-fits : goal.ask_shortly-requires-clause-fits
ask_shortly-requires-clause-fits g c =
    rest-fits (as_opening c.args.lock.now.start) c.args.pass.now c.args.actor c.args.turn c.finish-locals.result c.requires.whole c.finish-locals.ensures

pub returns-in-Ok-Done-clause-ended : goal.returns-in-Ok-Done-clause-ended
returns-in-Ok-Done-clause-ended g c =
    let p = c.args.pass.now in
    let q = c.ask_shortly.new.pass in
    let o = as_opening c.args.lock.now.start in
    let locals = c.finish-locals.result in
    let ended = rest-loses o p q c.args.actor locals (subst (λ s. IsAnswered o (ops.Rest c.args.actor locals) s p q) c.in-Ok-Done.field-0-is c.in-Ok-Done.ensures.ok) in
    on_ok-then c.flush.result c.flush.ensures.turns (λ leaves. loses-leaves c.args.actor p.own q.own c.flush.new.pass.own ended leaves)

pub returns-in-Ok-Down-clause-ended : goal.returns-in-Ok-Down-clause-ended
returns-in-Ok-Down-clause-ended g c =
    let p = c.args.pass.now in
    let q = c.ask_shortly.new.pass in
    let o = as_opening c.args.lock.now.start in
    let locals = c.finish-locals.result in
    rest-down-loses o p q c.args.actor locals (subst (λ s. IsAnswered o (ops.Rest c.args.actor locals) s p q) c.in-Ok-Down.field-0-is c.in-Ok-Down.ensures.ok)
