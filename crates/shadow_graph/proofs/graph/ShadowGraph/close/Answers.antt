use Rattle.std.proofs.Common.{◌≡◌, ◌∙◌, eqb, length, refl, sym}
use Rattle.std.proofs.lemmas.Bool.{false≢true}
use Rattle.std.proofs.lemmas.Bool.Decides.{Decides-eqb}
use Rattle.std.proofs.lemmas.Slice.Eq.{slice_eq-Decides}
use Rattle.std.specs.Cmp.Lexicographic.{pointwise}
use Rattle.crgc_ids.specs.LostNodes.{lost_nodes}
use Rattle.membership.specs.Noted.{Noted, links_of}
use Rattle.shadow_graph.proofs.FoldLemmas.{kept-closed, kept-lost, loses-none, loses-seen}
use Rattle.shadow_graph.proofs.KeptLemmas.{log-small, small-kept}
use Rattle.shadow_graph.proofs.graph.ShadowGraph.close.Goals as goal

pub settle_lost-requires-clause-admitted_small : goal.settle_lost-requires-clause-admitted_small
settle_lost-requires-clause-admitted_small c =
    let g = c.self.inside in
    (small-kept g.shadows g.edges g.log g.finals g.lost g.cut c.self.invariant).admitted

pub settle_lost-requires-clause-count_small : goal.settle_lost-requires-clause-count_small
settle_lost-requires-clause-count_small c =
    let g = c.self.inside in
    (small-kept g.shadows g.edges g.log g.finals g.lost g.cut c.self.invariant).count

pub settle_lost-requires-clause-told_small : goal.settle_lost-requires-clause-told_small
settle_lost-requires-clause-told_small c = λ n owner target.
    let g = c.self.inside in
    (log-small g.shadows g.edges g.log g.finals g.lost g.cut c.self.invariant n owner target).0

pub settle_lost-requires-clause-log_small : goal.settle_lost-requires-clause-log_small
settle_lost-requires-clause-log_small c = λ n owner target.
    let g = c.self.inside in
    (log-small g.shadows g.edges g.log g.finals g.lost g.cut c.self.invariant n owner target).1

pub invariant_of-self : goal.invariant_of-self
invariant_of-self c =
    let g = c.self.inside in
    let after = c.lost-after.result in
    let same : after ≡ g.lost = (slice_eq-Decides Decides-eqb after g.lost (pointwise eqb after g.lost) refl).0 (sym c.eq.ensures ∙ c.if-eq.true) in
    kept-closed g.shadows g.edges g.log g.finals c.note_final.new.self g.lost g.cut c.self.invariant c.note_final.ensures.nodes (sym same ∙ c.lost-after.ensures)

pub returns-then-eq : goal.returns-then-eq
returns-then-eq c =
    let g = c.self.inside in
    let now : Noted = c.note_final.new.self in
    let after = c.lost-after.result in
    let same : after ≡ g.lost = (slice_eq-Decides Decides-eqb after g.lost (pointwise eqb after g.lost) refl).0 (sym c.eq.ensures ∙ c.if-eq.true) in
    let lost : lost_nodes g.finals.nodes (links_of g.finals) ≡ lost_nodes now.nodes (links_of now) = sym c.self.invariant.by_finals ∙ sym same ∙ c.lost-after.ensures in
    rw (← c.self.view_is) (record {
      nodes = c.note_final.ensures.nodes;
      links = c.note_final.ensures.links;
      cut = refl;
      log = refl;
      names = refl;
      counts = loses-none g.log (lost_nodes g.finals.nodes (links_of g.finals)) (lost_nodes now.nodes (links_of now)) g.shadows (record g.edges { places = length g.shadows.names }) lost;
      dropped = λ a. refl;
      none = record { shadows = λ _. refl; edges = λ _. refl };
    })

pub invariant_of-self-2 : goal.invariant_of-self-2
invariant_of-self-2 c =
    let g = c.self.inside in
    kept-lost g.shadows c.settle_lost.new.shadows g.edges c.settle_lost.new.edges g.log g.finals c.note_final.new.self g.lost c.lost-after.result g.cut
    c.self.invariant c.note_final.ensures.nodes c.lost-after.ensures c.note_final.ensures.lost_grow c.settle_lost.ensures.corrects c.settle_lost.ensures.names c.settle_lost.ensures.ends

pub returns : goal.returns
returns c =
    let g = c.self.inside in
    let now : Noted = c.note_final.new.self in
    let after = c.lost-after.result in
    let differ : lost_nodes now.nodes (links_of now) ≡ lost_nodes g.finals.nodes (links_of g.finals) → ⊥ = λ same. (
    let is : after ≡ g.lost = c.lost-after.ensures ∙ same ∙ sym c.self.invariant.by_finals in
    false≢true (sym c.if-eq.false ∙ c.eq.ensures ∙ (slice_eq-Decides Decides-eqb after g.lost (pointwise eqb after g.lost) refl).1 is)
    ) in
    rw (← c.self.view_is) (record {
      nodes = c.note_final.ensures.nodes;
      links = c.note_final.ensures.links;
      cut = refl;
      log = refl;
      names = c.settle_lost.ensures.names;
      counts = loses-seen g.log g.lost (lost_nodes g.finals.nodes (links_of g.finals)) c.lost-after.result (lost_nodes now.nodes (links_of now)) g.shadows c.settle_lost.new.shadows g.edges c.settle_lost.new.edges (length g.shadows.names) (length c.settle_lost.new.shadows.names)
          c.self.invariant.by_finals c.lost-after.ensures c.settle_lost.ensures.counts;
      dropped = c.settle_lost.ensures.corrects.dropped;
      none = record { shadows = λ same. absurd (differ same); edges = λ same. absurd (differ same) };
    })
