use Rattle.std.proofs.Common.{true, false, nat_lt}
use Rattle.event_rules.proofs.sends.of_not_held.Goals as goal
use Rattle.std.proofs.Common.{refl, sym, ◌∙◌}
use Rattle.history_model.specs.declared.events.Rule.TheVariants.{NotHeld}
use Rattle.history_model.specs.Held.{held}
use Rattle.event_rules.proofs.ChecksLemmas.{broken-end, broken-from}

-- src/sends.rt:29:5
pub loop-actor-init : goal.loop-actor-init
loop-actor-init g c = refl

-- src/sends.rt:31:13
pub returns-then-not-is_held : goal.returns-then-not-is_held
returns-then-not-is_held g c =
    sym (broken-from NotHeld (λ a. nat_lt 0 (held (g.M.Moment.story c.args.moment.now).cluster c.args.owner a (g.M.Moment.story c.args.moment.now).past)) c.args.actors.now c.loop-actor.actor-index c.actor-item.result false c.loop-actor-test.true c.actor-item.is (sym c.if-not-is_held.ensures))
    ∙ c.loop-actor.invariant

-- src/sends.rt:29:5
pub loop-actor-preserved : goal.loop-actor-preserved
loop-actor-preserved g c =
    sym (broken-from NotHeld (λ a. nat_lt 0 (held (g.M.Moment.story c.args.moment.now).cluster c.args.owner a (g.M.Moment.story c.args.moment.now).past)) c.args.actors.now c.loop-actor.actor-index c.actor-item.result true c.loop-actor-test.true c.actor-item.is (sym c.if-not-is_held.ensures))
    ∙ c.loop-actor.invariant

-- src/sends.rt:26:1
pub returns : goal.returns
returns g c = sym (broken-end NotHeld (λ a. nat_lt 0 (held (g.M.Moment.story c.args.moment.now).cluster c.args.owner a (g.M.Moment.story c.args.moment.now).past)) c.args.actors.now c.loop-actor.actor-index c.loop-actor-test.false) ∙ c.loop-actor.invariant
