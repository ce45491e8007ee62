use Rattle.std.proofs.Common.{◌≡◌, ◌<◌, ℕ, length, refl, subst, sym, ◌∙◌, inl, inr, arith}
use Rattle.std.proofs.lemmas.Bool.{cases_lt, false≢true}
use Rattle.shadow_graph.specs.Graph.{Graph}
use Rattle.shadow_graph.specs.Same.{AgreeAlong}
use Rattle.shadow_rows.specs.Tabled.{pair_at}
use Rattle.shadow_graph.proofs.graph.ShadowGraph.edges_agree.Goals as goal

pub returns-then-not-agrees_along : goal.returns-then-not-agrees_along
returns-then-not-agrees_along c =
    let end = subst (λ (x : Graph). c.edge_count-number-end.result ≡ length x.edges.edges) c.self.view_is c.edge_count-number-end.ensures.value in
    let before = c.loop-number-test.true in
    let inside : c.loop-number.number < length c.args.self.now.edges.edges = omega (arith, before, end) in (
      (λ t. absurd (false≢true t)),
      (λ all. sym c.if-not-agrees_along.true ∙ c.agrees_along.ensures.1 (all c.loop-number.number inside)),
    )

pub loop-number-preserved : goal.loop-number-preserved
loop-number-preserved c =
    let here = c.agrees_along.ensures.0 c.if-not-agrees_along.false in
    let Alike : ℕ → Type 0 = λ n. AgreeAlong c.args.self.now c.args.other.now (pair_at c.args.self.now.edges.pairs n).0 (pair_at c.args.self.now.edges.pairs n).1 in
    λ n less. elim (cases_lt n c.loop-number.number) [
      | inl before ↦ c.loop-number.invariant n before
      | inr least ↦ (let same : c.loop-number.number ≡ n = omega (arith, less, least) in subst Alike same here)
    ]

pub returns : goal.returns
returns c =
    let end = subst (λ (x : Graph). c.edge_count-number-end.result ≡ length x.edges.edges) c.self.view_is c.edge_count-number-end.ensures.value in
    let past = c.loop-number-test.false in (
      (λ t n inside. c.loop-number.invariant n (omega (arith, inside, past, end))),
      (λ all. refl),
    )
