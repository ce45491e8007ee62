use Rattle.std.proofs.Common.{◌≡◌, ◌<◌, ◌∙◌, ap, arith, not, subst, sym, get_or, List, ℕ, Bool}
use Rattle.crgc_ids.specs.Nodes.{has_node}
use Rattle.history_model.specs.declared.records.Bulletin.TheVariants as bulletins
use Rattle.history_model.specs.Ledgers.{delta_ledger, no_rows}
use Rattle.shadow_rows.specs.Rows.{AddsRows, LogsIf}
use Rattle.shadow_graph.specs.Graph.{Graph, is_logging}
use Rattle.shadow_graph.proofs.KeptLemmas.{delta-fits, has-tells, kept-added, log-small, small-kept}
use Rattle.shadow_graph.proofs.graph.ShadowGraph.take_delta.Goals as goal

pub add_delta-requires-clause-small : goal.add_delta-requires-clause-small
add_delta-requires-clause-small c =
    let g = c.self.inside in
    small-kept g.shadows g.edges g.log g.finals g.lost g.cut c.self.invariant

pub add_delta-requires-clause-log_small : goal.add_delta-requires-clause-log_small
add_delta-requires-clause-log_small c = λ owner target.
    let g = c.self.inside in
    let small = (log-small g.shadows g.edges g.log g.finals g.lost g.cut c.self.invariant c.args.delta.now.node owner target).0 in
    omega (arith, small)

pub invariant_of-self : goal.invariant_of-self
invariant_of-self c =
    let g = c.self.inside in
    let d = c.args.delta.now in
    let counts = not c.contains-counts.result in
    let fewer = subst (λ (x : Graph). get_or x.cut d.node 0 < 1000000) (sym c.self.view_is) c.requires.fewer in
    kept-added g.shadows c.add_delta.new.shadows g.edges c.add_delta.new.edges g.log c.add_delta.new.log g.finals g.lost g.cut c.raise.new.self d.node counts c.is_logging-logs.result (delta_ledger d) no_rows (bulletins.Delta d)
    c.self.invariant c.add_delta.ensures.tabled c.add_delta.ensures.covered (delta-fits d counts c.in-Ok.ensures.fits) c.in-Ok.ensures.adds c.in-Ok.ensures.noted c.requires.in_range fewer c.raise.ensures

pub returns-in-Ok-clause-ok : goal.returns-in-Ok-clause-ok
returns-in-Ok-clause-ok c =
    let g = c.self.inside in
    let d = c.args.delta.now in
    let told : not c.contains-counts.result ≡ not (has_node g.lost d.node) = ap not (has-tells g.lost d.node c.contains-counts.result c.contains-counts.ensures.member) in
    let told_is = told ∙ ap (λ (xs : List ℕ). not (has_node xs d.node)) c.self.invariant.by_finals in
    let adds = subst (λ (v : Bool). AddsRows d.node v (delta_ledger d) no_rows g.shadows c.add_delta.new.shadows g.edges c.add_delta.new.edges) told_is c.in-Ok.ensures.adds in
    let log = subst (λ (v : Bool). LogsIf v d.node (bulletins.Delta d) g.log c.add_delta.new.log) (c.is_logging-logs.ensures ∙ ap is_logging (sym c.self.view_is)) c.in-Ok.ensures.noted in
    rw (← c.self.view_is) (record {
      rows = record { shadows = adds.shadows; count = adds.count };
      log = log;
      names = c.in-Ok.ensures.named;
      more = c.in-Ok.ensures.more;
      cut = c.raise.ensures;
    })
