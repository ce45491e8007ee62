use Rattle.std.proofs.Common.{◌≡◌}
use Rattle.event_rules.proofs.sends.of_unborn.Given as goal
use Rattle.history_model.specs.declared.events.Rule.TheVariants.{NoActor}
use Rattle.history_model.specs.Cluster.{is_born}
use Rattle.event_rules.proofs.ChecksLemmas.{broken_from}

abbrev pub invariant-loop-actor : goal.invariant-loop-actor
invariant-loop-actor g l =
    broken_from NoActor (λ a. is_born a (g.M.Moment.story l.moment).past) l.actors l.actor-index ≡ broken_from NoActor (λ a. is_born a (g.M.Moment.story l.moment).past) l.actors 0
