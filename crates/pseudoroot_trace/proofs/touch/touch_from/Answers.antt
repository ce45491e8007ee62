use Rattle.std.proofs.Common.{ap, arith, inl, inr, ◌∙◌}
use Rattle.std.proofs.lemmas.Bool.{cases_eq}
use Rattle.kept_marks.specs.PlaceSet.{has_place}
use Rattle.pseudoroot_trace.proofs.TouchLemmas.{touches-more, touches-one}
use Rattle.pseudoroot_trace.proofs.touch.touch_from.Goals as goal

pub loop-place-preserved : goal.loop-place-preserved
loop-place-preserved c =
    let p = c.loop-place.place in
    let one = touches-one c.args.to p c.loop-place.kept c.touch.new.self c.loop-place-test.true c.touch.ensures.there c.touch.ensures.value in (
      touches-more c.args.to c.args.kept.now c.loop-place.kept c.touch.new.self c.loop-place.invariant.0 one,
      λ a from less. elim (cases_eq a p) [
        | inl same ↦ ap (has_place c.touch.new.self.touched) same ∙ c.touch.ensures.there
        | inr other ↦ one.touched a (c.loop-place.invariant.1 a from (omega arith))
      ],
    )
