use Rattle.pseudoroot_trace.specs.Traced.{Traced}
use Rattle.pseudoroot_trace.proofs.TracedLemmas.{dropped-lost, keeps-marks, traced-dropped}
use Rattle.pseudoroot_trace.proofs.traced.TracedGraph.drop_actor.Goals as goal
use Rattle.pseudoroot_trace.proofs.traced.TracedGraph.drop_actor.Goals.{After-place_count-after}

abbrev before : After-place_count-after → Traced
before c = record { graph = c.self.inside.graph; kept = c.self.inside.kept; places = c.self.inside.places; is_stale = c.self.inside.is_stale }

pub invariant_of-self : goal.invariant_of-self
invariant_of-self c =
    traced-dropped c.args.actor (before c) c.drop_actor.new.self c.touch_actor.new.kept c.place_count-before.ensures.placed c.place_count-after.ensures.placed c.drop_actor.ensures.drops
    c.self.invariant c.touch_actor.ensures.touches c.touch_actor.ensures.actor

pub returns-clause-marks : goal.returns-clause-marks
returns-clause-marks c =
    rw (← c.self.view_is)
    (keeps-marks (before c) c.drop_actor.new.self c.touch_actor.new.kept c.self.inside.is_stale c.self.invariant c.place_count-before.ensures.placed c.place_count-after.ensures.placed c.touch_actor.ensures.touches
    (λ fresh. (fresh, dropped-lost c.self.inside.graph c.drop_actor.new.self c.args.actor c.drop_actor.ensures.drops)))
