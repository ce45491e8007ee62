use Rattle.std.proofs.Common.{◌≡◌, ◌∙◌, ◌+◌, arith, false, length, subst, sym}
use Rattle.place_marks.specs.Rounds.{AreReached}
use Rattle.place_marks.proofs.RoundLemmas.{reached-longer, round-last, round-reached}
use Rattle.place_marks.proofs.rounds.reach_in_rounds.Goals as goal

pub loop-before-preserved : goal.loop-before-preserved
loop-before-preserved g c =
    let graph = g.G.PlaceGraph.graph c.args.graph.now in
    let old = c.loop-before.marks in
    let round = c.mark_round.ensures.round in
    let inv = c.loop-before.invariant in
    let front = c.split_at_mut-marks.ensures.front_len in
    let count = c.place_count-places.ensures.count in
    let places : length old ≡ graph.places = omega (arith, inv.0) in (
      round.room ∙ inv.0,
      c.mark_round.ensures.before ∙ inv.1,
      round-reached graph old c.mark_round.new.marks places round c.place_count-places.ensures.whole inv.2,
    )

pub returns-clause-marked : goal.returns-clause-marked
returns-clause-marked g c =
    let graph = g.G.PlaceGraph.graph c.args.graph.now in
    let old = c.loop-before.marks in
    let new = c.mark_round.new.marks in
    let rest = c.split_at_mut-marks.result.1.now in
    let inv = c.loop-before.invariant in
    let front = c.split_at_mut-marks.ensures.front_len in
    let count = c.place_count-places.ensures.count in
    let places : length old ≡ graph.places = omega (arith, inv.0) in
    let same = c.mark_round.ensures.none c.loop-before-test.false in
    let last = round-last graph old new places c.mark_round.ensures.round c.place_count-places.ensures.whole same inv.2 in
    reached-longer graph new rest (λ p. c.split_at_mut-marks.ensures.by_index.1 p false ∙ c.requires.none (c.place_count-places.result + p))
    (subst (AreReached graph) (sym same) last)
