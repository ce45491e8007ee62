use Rattle.std.proofs.Common.{◌≡◌, ◌++◌, ◌∷◌, ◌∙◌, [], ap, arith, length, refl, subst, sym}
use Rattle.std.proofs.lemmas.Bool.{false≢true}
use Rattle.shadow_graph.specs.Graph.{Graph}
use Rattle.shadow_graph.specs.Places.{ArePlaced, actor_of}
use Rattle.pseudoroot_trace.specs.Traced.{is_marked_in}
use Rattle.collector.specs.Sweeping.{falls}
use Rattle.collector.proofs.LeftLemmas.{finds-none, finds-one}
use Rattle.collector.proofs.stops.push_if_falls.Goals as goal

pub returns-then-place-places : goal.returns-then-place-places
returns-then-place-places c =
    let t = c.args.graph.now in
    let count : c.place_count-places.result ≡ length t.graph.shadows.names = c.place_count-places.ensures.count ∙ ap (λ (g : Graph). length g.shadows.names) c.graph-shadows.ensures in
    let past = c.if-place-places.true in
    finds-none t c.args.node c.args.stopped.now c.args.place c.args.found.now.items c.args.found.now.items refl (λ inside is. absurd (omega arith))

pub returns-then-not-falls : goal.returns-then-not-falls
returns-then-not-falls c =
    let t = c.args.graph.now in
    let same : c.actor_at-actor.result ≡ actor_of t.graph c.args.place = c.actor_at-actor.ensures ∙ ap (λ (g : Graph). actor_of g c.args.place) c.graph-shadows.ensures in
    let not_so : c.falls.result ≡ falls t.graph (is_marked_in t) c.args.node c.args.stopped.now (actor_of t.graph c.args.place) =
    c.falls.ensures ∙ (λ i. falls (c.graph-shadows.ensures i) (λ a. c.is_marked.ensures i) c.args.node c.args.stopped.now c.actor_at-actor.result)
    ∙ ap (falls t.graph (is_marked_in t) c.args.node c.args.stopped.now) same in
    finds-none t c.args.node c.args.stopped.now c.args.place c.args.found.now.items c.args.found.now.items refl
    (λ inside is. false≢true (sym c.if-not-falls.true ∙ not_so ∙ is))

pub returns-in-Ok : goal.returns-in-Ok
returns-in-Ok c =
    let t = c.args.graph.now in
    let count : c.place_count-places.result ≡ length t.graph.shadows.names = c.place_count-places.ensures.count ∙ ap (λ (g : Graph). length g.shadows.names) c.graph-shadows.ensures in
    let within = c.if-place-places.false in
    let same : c.actor_at-actor.result ≡ actor_of t.graph c.args.place = c.actor_at-actor.ensures ∙ ap (λ (g : Graph). actor_of g c.args.place) c.graph-shadows.ensures in
    let so : c.falls.result ≡ falls t.graph (is_marked_in t) c.args.node c.args.stopped.now (actor_of t.graph c.args.place) =
    c.falls.ensures ∙ (λ i. falls (c.graph-shadows.ensures i) (λ a. c.is_marked.ensures i) c.args.node c.args.stopped.now c.actor_at-actor.result)
    ∙ ap (falls t.graph (is_marked_in t) c.args.node c.args.stopped.now) same in
    finds-one t c.args.node c.args.stopped.now (subst ArePlaced c.graph-shadows.ensures c.place_count-places.ensures.placed) c.args.place c.args.found.now.items c.push.new.self.items
    (omega arith) (sym so ∙ c.if-not-falls.false) (c.in-Ok.ensures.items ∙ ap (λ a. c.args.found.now.items ++ a ∷ []) same)
