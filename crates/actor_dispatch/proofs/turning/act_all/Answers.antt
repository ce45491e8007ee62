use Rattle.world_object.specs.State.{as_opening}
use Rattle.actor_dispatch.proofs.Leaving.{leaves-loses}
use Rattle.actor_dispatch.proofs.Making.{end-whole, goes-on, is-lost, next-due, went-on, work-goes_on}
use Rattle.actor_dispatch.proofs.turning.act_all.Goals as goal

pub make-requires-clause-due : goal.make-requires-clause-due
make-requires-clause-due g c =
    let told = c.in-Ok-Act.ensures in
    next-due (as_opening c.args.lock.now.start) c.loop.pass c.args.actor c.loop.turn c.next-in-loop.new.self c.loop.invariant.2 c.args.code.now c.requires.code
    told.behaviour c.in-Ok-Act.field-0 told.step told.after told.ended told.owed c.in-Ok-Act.act c.in-Ok-Act.field-0-is

pub loop-preserved-in-Ok-true : goal.loop-preserved-in-Ok-true
loop-preserved-in-Ok-true g c =
    went-on (as_opening c.args.lock.now.start) c.args.pass.now c.loop.pass c.make.new.pass c.args.actor c.make.new.turn c.loop.invariant.0
    c.make.ensures.same c.loop.invariant.1
    (goes-on c.in-Ok-true.field-0 _ _ c.in-Ok-true.field-0-test c.in-Ok-true.ensures.goes_on)

pub returns-in-Ok-false-clause-whole : goal.returns-in-Ok-false-clause-whole
returns-in-Ok-false-clause-whole g c =
    leaves-loses c.args.actor c.args.pass.now.own c.loop.pass.own c.make.new.pass.own c.loop.invariant.1
    (is-lost c.in-Ok-false.field-0 _ _ c.in-Ok-false.field-0-test c.in-Ok-false.ensures.goes_on)

pub loop-preserved : goal.loop-preserved
loop-preserved g c =
    let told = c.in-Ok-Work.ensures in (
      c.loop.invariant.0,
      c.loop.invariant.1,
      work-goes_on (as_opening c.args.lock.now.start) c.loop.pass c.args.actor c.loop.turn c.next-in-loop.new.self c.loop.invariant.2 c.args.code.now c.requires.code
          told.behaviour c.in-Ok-Work.field-0 told.step told.after told.ended told.owed c.in-Ok-Work.steps c.in-Ok-Work.field-0-is,
    )

pub returns-in-Ok-End-clause-whole : goal.returns-in-Ok-End-clause-whole
returns-in-Ok-End-clause-whole g c =
    let told = c.in-Ok-End.ensures in (
      c.loop.invariant.1,
      end-whole (as_opening c.args.lock.now.start) c.loop.pass c.args.actor c.loop.turn c.next-in-loop.new.self c.loop.invariant.2 c.args.code.now c.requires.code
          told.behaviour c.in-Ok-End.field-0 told.step told.after told.ended told.owed c.in-Ok-End.field-0-is,
    )
