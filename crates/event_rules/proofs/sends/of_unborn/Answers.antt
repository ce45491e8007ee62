use Rattle.std.proofs.Common.{true, false}
use Rattle.event_rules.proofs.sends.of_unborn.Goals as goal
use Rattle.std.proofs.Common.{refl, sym, ◌∙◌}
use Rattle.history_model.specs.declared.events.Rule.TheVariants.{NoActor}
use Rattle.history_model.specs.Cluster.{is_born}
use Rattle.event_rules.proofs.ChecksLemmas.{broken-end, broken-from}

-- src/sends.rt:17:5
pub loop-actor-init : goal.loop-actor-init
loop-actor-init g c = refl

-- src/sends.rt:19:13
pub returns-then-not-is_actor : goal.returns-then-not-is_actor
returns-then-not-is_actor g c =
    sym (broken-from NoActor (λ a. is_born a (g.M.Moment.story c.args.moment.now).past) c.args.actors.now c.loop-actor.actor-index c.actor-item.result false c.loop-actor-test.true c.actor-item.is (sym c.if-not-is_actor.ensures))
    ∙ c.loop-actor.invariant

-- src/sends.rt:17:5
pub loop-actor-preserved : goal.loop-actor-preserved
loop-actor-preserved g c =
    sym (broken-from NoActor (λ a. is_born a (g.M.Moment.story c.args.moment.now).past) c.args.actors.now c.loop-actor.actor-index c.actor-item.result true c.loop-actor-test.true c.actor-item.is (sym c.if-not-is_actor.ensures))
    ∙ c.loop-actor.invariant

-- src/sends.rt:14:1
pub returns : goal.returns
returns g c = sym (broken-end NoActor (λ a. is_born a (g.M.Moment.story c.args.moment.now).past) c.args.actors.now c.loop-actor.actor-index c.loop-actor-test.false) ∙ c.loop-actor.invariant
