use Rattle.std.proofs.Common.{◌≡◌, ◌<◌, ◌∙◌, ap, arith, cond, false, not, subst, sym, get_or, List, ℕ, Bool}
use Rattle.crgc_ids.specs.Nodes.{has_node}
use Rattle.history_model.specs.declared.records.Bulletin.TheVariants as bulletins
use Rattle.history_model.specs.Ledgers.{no_rows, window_ledger}
use Rattle.shadow_rows.specs.Rows.{AddsRows, LogsIf}
use Rattle.shadow_graph.specs.Graph.{Graph, is_logging}
use Rattle.shadow_graph.proofs.KeptLemmas.{has-tells, kept-added, log-small, small-kept, window-fits}
use Rattle.shadow_graph.proofs.graph.ShadowGraph.take_window.Goals as goal

pub add_window-requires-clause-small : goal.add_window-requires-clause-small
add_window-requires-clause-small c =
    let g = c.self.inside in
    small-kept g.shadows g.edges g.log g.finals g.lost g.cut c.self.invariant

pub add_window-requires-clause-log_small : goal.add_window-requires-clause-log_small
add_window-requires-clause-log_small c = λ owner target.
    let g = c.self.inside in
    let small = (log-small g.shadows g.edges g.log g.finals g.lost g.cut c.self.invariant c.args.window.now.from owner target).1 in
    omega (arith, small)

pub invariant_of-self : goal.invariant_of-self
invariant_of-self c =
    let g = c.self.inside in
    let w = c.args.window.now in
    let counts = c.contains-counts.result in
    let fewer = subst (λ (x : Graph). get_or x.cut w.at 0 < 1000000) (sym c.self.view_is) c.requires.fewer in
    kept-added g.shadows c.add_window.new.shadows g.edges c.add_window.new.edges g.log c.add_window.new.log g.finals g.lost g.cut c.raise.new.self w.at false c.is_logging-logs.result no_rows (cond counts (window_ledger w) no_rows) (bulletins.Window w)
    c.self.invariant c.add_window.ensures.tabled c.add_window.ensures.covered (window-fits w counts false c.in-Ok.ensures.fits) (c.in-Ok.ensures.adds false) c.in-Ok.ensures.noted c.requires.in_range fewer c.raise.ensures

pub returns-in-Ok-clause-ok : goal.returns-in-Ok-clause-ok
returns-in-Ok-clause-ok c =
    let g = c.self.inside in
    let w = c.args.window.now in
    let told = not (has_node g.lost w.at) in
    let is : c.contains-counts.result ≡ has_node g.lost w.from = has-tells g.lost w.from c.contains-counts.result c.contains-counts.ensures.member in
    let adds = subst (λ (v : Bool). AddsRows w.at told no_rows (cond v (window_ledger w) no_rows) g.shadows c.add_window.new.shadows g.edges c.add_window.new.edges) is (c.in-Ok.ensures.adds told) in
    let by = subst (λ (xs : List ℕ). AddsRows w.at (not (has_node xs w.at)) no_rows (cond (has_node xs w.from) (window_ledger w) no_rows) g.shadows c.add_window.new.shadows g.edges c.add_window.new.edges) c.self.invariant.by_finals adds in
    let log = subst (λ (v : Bool). LogsIf v w.at (bulletins.Window w) g.log c.add_window.new.log) (c.is_logging-logs.ensures ∙ ap is_logging (sym c.self.view_is)) c.in-Ok.ensures.noted in
    rw (← c.self.view_is) (record {
      rows = record { shadows = by.shadows; count = by.count };
      log = log;
      names = c.in-Ok.ensures.named;
      more = c.in-Ok.ensures.more;
      cut = c.raise.ensures;
    })

pub returns-in-Ok-clause-ok_final : goal.returns-in-Ok-clause-ok_final
returns-in-Ok-clause-ok_final c =
    let g = c.self.inside in
    let w = c.args.window.now in
    let told = not (has_node g.lost w.at) in
    let is : c.contains-counts.result ≡ has_node g.lost w.from = has-tells g.lost w.from c.contains-counts.result c.contains-counts.ensures.member in
    let adds = subst (λ (v : Bool). AddsRows w.at told no_rows (cond v (window_ledger w) no_rows) g.shadows c.add_window.new.shadows g.edges c.add_window.new.edges) is (c.in-Ok.ensures.adds told) in
    let by = subst (λ (xs : List ℕ). AddsRows w.at (not (has_node xs w.at)) no_rows (cond (has_node xs w.from) (window_ledger w) no_rows) g.shadows c.add_window.new.shadows g.edges c.add_window.new.edges) c.self.invariant.by_finals adds in
    let log = subst (λ (v : Bool). LogsIf v w.at (bulletins.Final w) g.log c.add_window.new.log) (c.is_logging-logs.ensures ∙ ap is_logging (sym c.self.view_is)) c.in-Ok.ensures.noted_final in
    rw (← c.self.view_is) (record {
      rows = record { shadows = by.shadows; count = by.count };
      log = log;
      names = c.in-Ok.ensures.named;
      more = c.in-Ok.ensures.more;
      cut = c.raise.ensures;
    })
