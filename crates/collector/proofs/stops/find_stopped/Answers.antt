use Rattle.std.proofs.Common.{◌∙◌, Ok, ap, arith, refl, subst, sym}
use Rattle.history_model.specs.Graph.{rising_actors}
use Rattle.kept_marks.proofs.PlaceSetLemmas.{count-out}
use Rattle.kept_marks.specs.PlaceSet.{count_of}
use Rattle.shadow_graph.specs.Places.{ArePlaced}
use Rattle.pseudoroot_trace.specs.Traced.{Traced}
use Rattle.collector.specs.Traced.{HasFound}
use Rattle.collector.proofs.LeftLemmas.{finds-back, found-all, found-next, found-none, takes-more}
use Rattle.collector.proofs.stops.find_stopped.Goals as goal

pub loop-found-init : goal.loop-found-init
loop-found-init c =
    let t = c.args.graph.now in
    (refl, subst (HasFound t c.args.node c.args.stopped.now t.kept.fallen) (sym c.new-found.ensures.items) (found-none t c.args.node c.args.stopped.now))

pub loop-found-preserved : goal.loop-found-preserved
loop-found-preserved c =
    let t = c.args.graph.now in
    let u = c.loop-found.graph in
    let v = c.find_next.new.graph in
    let next = c.find_next.ensures.next (c.in_ok-find_next.was ∙ ap Ok c.if-branch.true) in
    let fallen = ap (λ (x : Traced). x.kept.fallen) next.1 in
    let at = finds-back t u c.args.node c.args.stopped.now next.0 c.loop-found.found.items c.find_next.new.found.items c.loop-found.invariant.0 next.3 in (
      takes-more t u v c.loop-found.invariant.0 c.find_next.ensures.takes,
      found-next t c.args.node c.args.stopped.now u.kept.fallen v.kept.fallen next.0 c.loop-found.found.items c.find_next.new.found.items fallen at c.loop-found.invariant.1,
    )

pub loop-found-smaller : goal.loop-found-smaller
loop-found-smaller c =
    let u = c.loop-found.graph in
    let next = c.find_next.ensures.next (c.in_ok-find_next.was ∙ ap Ok c.if-branch.true) in
    let fewer = count-out u.kept.fallen next.0 next.2 in
    let is = ap (λ (x : Traced). count_of x.kept.fallen) next.1 in
    omega (arith, fewer, is)

pub returns-clause-found : goal.returns-clause-found
returns-clause-found c =
    let t = c.args.graph.now in
    let u = c.loop-found.graph in
    let done = c.in_ok-find_next.was ∙ ap Ok c.if-branch.false in
    let placed = subst ArePlaced c.graph.ensures c.place_count-places.ensures.placed in
    let all = found-all t c.args.node c.args.stopped.now placed u.kept.fallen c.loop-found.found.items c.requires (c.find_next.ensures.none done) c.loop-found.invariant.1 in
    c.sorted.ensures ∙ ap rising_actors (c.find_next.ensures.same done).1 ∙ all
