use Rattle.std.proofs.Common.{◌≡◌}
use Rattle.event_rules.proofs.sends.of_not_held.Given as goal
use Rattle.history_model.specs.declared.events.Rule.TheVariants.{NotHeld}
use Rattle.history_model.specs.Held.{held}
use Rattle.event_rules.proofs.ChecksLemmas.{broken_from}
use Rattle.std.specs.Prelude.{nat_lt}

abbrev pub invariant-loop-actor : goal.invariant-loop-actor
invariant-loop-actor g l =
    broken_from NotHeld (λ a. nat_lt 0 (held (g.M.Moment.story l.moment).cluster l.owner a (g.M.Moment.story l.moment).past)) l.actors l.actor-index ≡ broken_from NotHeld (λ a. nat_lt 0 (held (g.M.Moment.story l.moment).cluster l.owner a (g.M.Moment.story l.moment).past)) l.actors 0
