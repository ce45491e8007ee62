use Rattle.std.proofs.Common.{◌∙◌, ◌+◌, ◌<◌, ap, arith, length, refl, subst, sym, take}
use Rattle.std.proofs.lemmas.Bool.{false≢true}
use Rattle.std.specs.Option.{is_some}
use Rattle.place_marks.proofs.EndLemmas.{among-at, end_at, positive-step}
use Rattle.kept_marks.proofs.KeptLemmas.{HasPut, put-on, put-skip}
use Rattle.kept_marks.proofs.steps.put_targets.Goals as goal
use Rattle.kept_marks.proofs.steps.put_targets.Goals.{else-hangs, else-hangs-via-else-hangs, else-hangs-via-then-hangs+else-not-has, else-hangs-via-then-hangs+then-not-has+else-is_some, then-hangs+then-not-has+then-is_some}

pub bounds-supports-target : goal.bounds-supports-target
bounds-supports-target g c =
    let ends = c.edges_from-ends.result.now in
    let i = c.loop-target.target-index in
    let room = c.requires.room in
    let inside = c.edges_from-ends.ensures.within (end_at ends i).0 (end_at ends i).1 (among-at ends i c.loop-target-test.true) in
    omega arith

pub has-requires : goal.has-requires
has-requires g c =
    let ends = c.edges_from-ends.result.now in
    let i = c.loop-target.target-index in
    let room = c.requires.room in
    let set = c.requires.set in
    let same = c.loop-target.invariant.room in
    let inside = c.edges_from-ends.ensures.within (end_at ends i).0 (end_at ends i).1 (among-at ends i c.loop-target-test.true) in
    omega arith

pub put-requires : goal.put-requires
put-requires g c =
    let ends = c.edges_from-ends.result.now in
    let i = c.loop-target.target-index in
    let room = c.requires.room in
    let set = c.requires.set in
    let same = c.loop-target.invariant.room in
    let inside = c.edges_from-ends.ensures.within (end_at ends i).0 (end_at ends i).1 (among-at ends i c.loop-target-test.true) in
    omega arith

pub loop-target-preserved : goal.loop-target-preserved
loop-target-preserved g c =
    let graph = g.G.PlaceGraph.graph c.args.graph.now in
    let supports = c.args.supports.now in
    let ends = c.edges_from-ends.result.now in
    let old = c.args.set.now in
    let now = c.loop-target.set in
    let b = c.args.place in
    let on = c.args.on in
    let i = c.loop-target.target-index in
    let target = (end_at ends i).0 in
    let number = (end_at ends i).1 in
    let inside = c.loop-target-test.true in
    let among = among-at ends i inside in
    let alone = c.edges_from-ends.ensures.alone target number in
    let has = c.loop-target.invariant in
    elim c.if-hangs.branch [
      | then-hangs+then-not-has+then-is_some w ↦ subst (λ s. HasPut graph supports old s b on (take (i + 1) ends)) (sym w.set-is)
          (let room = c.requires.room in
          let wide = c.requires.set in
          let same = has.room in
          let place = c.edges_from-ends.ensures.within target number among in
          let within : target < length now = omega arith in
          let step = positive-step graph b target number w.step.result w.step.ensures (sym w.if-is_some.ensures) (λ c a. alone c a among) in
          put-on graph supports old now w.put.new.self b on ends i inside within (number, step) (w.if-hangs.ensures.0 refl) w.put.ensures has)
      | else-hangs w ↦ subst (λ s. HasPut graph supports old s b on (take (i + 1) ends)) (sym w.set-is)
          (put-skip graph supports old now b on ends i inside
          (λ step same. elim w.else-hangs.branch [
            | else-hangs-via-then-hangs+then-not-has+else-is_some v ↦ absurd (false≢true (v.if-is_some.ensures ∙ ap is_some (v.step.ensures ∙ step)))
            | else-hangs-via-then-hangs+else-not-has v ↦ sym v.has.ensures ∙ v.if-not-has.false
            | else-hangs-via-else-hangs v ↦ absurd (false≢true (sym v.if-hangs.false ∙ c.is_same-hangs.ensures.1 same))
          ])
          has)
    ]
