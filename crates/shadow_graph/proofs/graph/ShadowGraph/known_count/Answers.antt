use Rattle.std.proofs.Common.{◌≡◌, ◌-◌, ◌∙◌, ap, length, subst}
use Rattle.std.specs.List.{IsDistinct}
use Rattle.crgc_ids.specs.Actor.{same_actor}
use Rattle.shadow_table.specs.Shadows.{dropped_count}
use Rattle.shadow_graph.specs.Graph.{Graph}
use Rattle.shadow_graph.proofs.KnownLemmas.{known-rest}
use Rattle.shadow_graph.proofs.graph.ShadowGraph.known_count.Goals as goal

pub returns : goal.returns
returns c =
    let distinct = subst (λ (x : Graph). IsDistinct same_actor x.shadows.names) c.self.view_is c.place_count.ensures.distinct in
    let long = subst (λ (x : Graph). length x.shadows.shadows ≡ length x.shadows.names) c.self.view_is c.place_count.ensures.shadows in
    let places = c.place_count.ensures.value ∙ ap (λ (x : Graph). length x.shadows.names) c.self.view_is in
    let dropped = c.dropped_count.ensures.value ∙ ap (λ (x : Graph). dropped_count x.shadows.shadows) c.self.view_is in
    (λ i. places i - dropped i) ∙ known-rest c.args.self.now distinct long
