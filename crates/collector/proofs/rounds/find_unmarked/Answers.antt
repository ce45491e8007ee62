use Rattle.std.proofs.Common.{◌≡◌, ◌+◌, ◌<◌, ◌++◌, ◌∷◌, ◌∙◌, [], ap, arith, length, subst, sym, take}
use Rattle.std.proofs.lemmas.List.{take_all}
use Rattle.std.specs.List.{filter}
use Rattle.history_model.specs.Graph.{rising_actors}
use Rattle.pseudoroot_trace.specs.Marked.{is_marked}
use Rattle.shadow_graph.specs.Places.{actor_of}
use Rattle.collector.specs.Sweeping.{falls}
use Rattle.collector.proofs.RoundLemmas.{found-one, found-skip}
use Rattle.collector.proofs.rounds.find_unmarked.Goals as goal
use Rattle.collector.proofs.rounds.find_unmarked.Goals.{else-falls, then-falls+in-Ok}

pub loop-place-preserved : goal.loop-place-preserved
loop-place-preserved c =
    let g = c.args.graph.now in
    let test = falls g (is_marked c.args.marks.now) c.args.node c.args.stopped.now in
    let n = c.loop-place.place in
    let found = c.loop-place.found.items in
    let inside : n < length g.shadows.names = omega arith in
    let so : c.falls.result ≡ test (actor_of g n) =
    c.falls.ensures ∙ (λ i. falls g (λ a. c.is_marked.ensures i) c.args.node c.args.stopped.now c.actor_at-actor.result) ∙ ap test c.actor_at-actor.ensures in
    elim c.if-falls.branch [
      | then-falls+in-Ok w ↦ subst (λ v. v.items ≡ filter test (take (n + 1) g.shadows.names)) (sym w.found-is)
          (found-one g test n found inside c.loop-place.invariant w.push.new.self.items (sym so ∙ w.if-falls.true)
          (w.in-Ok.ensures.items ∙ ap (λ a. found ++ a ∷ []) c.actor_at-actor.ensures))
      | else-falls w ↦ subst (λ v. v.items ≡ filter test (take (n + 1) g.shadows.names)) (sym w.found-is)
          (found-skip g test n found inside c.loop-place.invariant (sym so ∙ w.if-falls.false))
    ]

pub returns : goal.returns
returns c =
    let g = c.args.graph.now in
    let test = falls g (is_marked c.args.marks.now) c.args.node c.args.stopped.now in
    c.sorted.ensures ∙ ap rising_actors (c.loop-place.invariant ∙ ap (filter test) (take_all c.loop-place.place g.shadows.names (omega arith)))
