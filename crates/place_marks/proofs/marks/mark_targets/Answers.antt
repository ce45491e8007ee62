use Rattle.std.proofs.Common.{◌∙◌, ◌+◌, ap, arith, subst, sym, take}
use Rattle.std.proofs.lemmas.Bool.{false≢true}
use Rattle.std.specs.Option.{is_some}
use Rattle.place_marks.proofs.EndLemmas.{among-at, end_at, positive-step}
use Rattle.place_marks.proofs.TargetLemmas.{HasMarked, marked-on, marked-skip}
use Rattle.place_marks.proofs.marks.mark_targets.Goals as goal
use Rattle.place_marks.proofs.marks.mark_targets.Goals.{else-not-is_marked, else-not-is_marked-via-else-not-is_marked, else-not-is_marked-via-then-not-is_marked+else-is_some, then-not-is_marked+then-is_some}

pub put-requires : goal.put-requires
put-requires g c =
    let ends = c.edges_from-ends.result.now in
    let i = c.loop-target.target-index in
    let room = c.requires.room in
    let same = c.loop-target.invariant.extends.room in
    let inside = c.edges_from-ends.ensures.within (end_at ends i).0 (end_at ends i).1 (among-at ends i c.loop-target-test.true) in
    omega arith

pub loop-target-preserved : goal.loop-target-preserved
loop-target-preserved g c =
    let graph = g.G.PlaceGraph.graph c.args.graph.now in
    let ends = c.edges_from-ends.result.now in
    let old = c.args.marks.now in
    let now = c.loop-target.marks in
    let b = c.args.place in
    let i = c.loop-target.target-index in
    let target = (end_at ends i).0 in
    let number = (end_at ends i).1 in
    let inside = c.loop-target-test.true in
    let alone = c.edges_from-ends.ensures.alone target number in
    elim c.if-not-is_marked.branch [
      | then-not-is_marked+then-is_some w ↦ subst (λ m. HasMarked graph old m b (take (i + 1) ends)) (sym w.marks-is)
          (let step = positive-step graph b target number w.step.result w.step.ensures (sym w.if-is_some.ensures) (λ c a. alone c a (among-at ends i inside)) in
          marked-on graph old now w.put.new.self b ends i inside (number, step) w.put.ensures c.loop-target.invariant)
      | else-not-is_marked w ↦ subst (λ m. HasMarked graph old m b (take (i + 1) ends)) (sym w.marks-is)
          (marked-skip graph old now b ends i inside
          (λ step. elim w.else-not-is_marked.branch [
            | else-not-is_marked-via-then-not-is_marked+else-is_some v ↦ absurd (false≢true (v.if-is_some.ensures ∙ ap is_some (v.step.ensures ∙ step)))
            | else-not-is_marked-via-else-not-is_marked v ↦ sym c.is_marked.ensures ∙ v.if-not-is_marked.false
          ])
          c.loop-target.invariant)
    ]
