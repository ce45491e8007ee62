use Rattle.std.proofs.Common.{ap, sym, ◌∙◌}
use Rattle.kept_marks.specs.PlaceSet.{has_place}
use Rattle.pseudoroot_trace.proofs.TouchLemmas.{touches-one}
use Rattle.pseudoroot_trace.proofs.touch.touch_actor.Goals as goal

pub returns-then-place-places-clause-touches : goal.returns-then-place-places-clause-touches
returns-then-place-places-clause-touches c =
    touches-one c.args.places c.in-Some.place c.args.kept.now c.touch.new.self c.if-place-places.true c.touch.ensures.there c.touch.ensures.value

pub returns-then-place-places-clause-actor : goal.returns-then-place-places-clause-actor
returns-then-place-places-clause-actor c = λ named inside.
    ap (has_place c.touch.new.self.touched) (sym c.in-Some.ensures.place) ∙ c.touch.ensures.there
