use Rattle.std.proofs.Common.{subst, sym}
use Rattle.std.specs.Prelude.{IfOk}
use Rattle.world_object.specs.Answering.{IsGrantedTo}
use Rattle.world_object.specs.Locked.{MayStep}
use Rattle.world_object.specs.Standing.{state_of}
use Rattle.world_object.proofs.Effects.{memory-halts}
use Rattle.world_object.proofs.Fitting.{act-next, rest-next, sweep-found}
use Rattle.world_object.proofs.parts.ClusterParts.grant.Goals as goal

pub act-requires-clause-next : goal.act-requires-clause-next
act-requires-clause-next c =
    let p = c.args.self.now in
    act-next p c.args.pass c.in-Act.actor c.in-Act.act (subst (MayStep (state_of p) c.args.pass) c.in-Act.is c.requires.fits)

pub rest-requires-clause-next : goal.rest-requires-clause-next
rest-requires-clause-next c =
    let p = c.args.self.now in
    (rest-next p c.args.pass c.in-Rest.actor c.in-Rest.locals (subst (MayStep (state_of p) c.args.pass) c.in-Rest.is c.requires.fits)).0

pub rest-requires-clause-keeps : goal.rest-requires-clause-keeps
rest-requires-clause-keeps c =
    let p = c.args.self.now in
    (rest-next p c.args.pass c.in-Rest.actor c.in-Rest.locals (subst (MayStep (state_of p) c.args.pass) c.in-Rest.is c.requires.fits)).1

pub sweep-requires-clause-found : goal.sweep-requires-clause-found
sweep-requires-clause-found c =
    let p = c.args.self.now in
    sweep-found p c.args.pass c.in-Sweep.verdict c.requires.stands (subst (MayStep (state_of p) c.args.pass) c.in-Sweep.is c.requires.fits)

pub returns-in-Refill-clause-halt : goal.returns-in-Refill-clause-halt
returns-in-Refill-clause-halt c = memory-halts c.args.self.now c.args.op c.refill.result c.refill.ensures.memory

pub returns-in-Sweep-clause-ok : goal.returns-in-Sweep-clause-ok
returns-in-Sweep-clause-ok c =
    let p = c.args.self.now in
    subst (λ op. IfOk c.sweep.result (IsGrantedTo c.args.pass op p c.sweep.new.self)) (sym c.in-Sweep.is) (c.sweep.ensures.ok c.args.pass)
