use Rattle.std.proofs.Common.{ap, refl, subst, sym, ◌∙◌}
use Rattle.std.proofs.lemmas.Bool.{false≢true}
use Rattle.std.specs.Result.{is_err}
use Rattle.crgc_ids.proofs.SuccessLaws.{at_success}
use Rattle.gossip_core.specs.Gossip.{IsFirstReady, count_at}
use Rattle.shadow_graph.specs.Taken.{FoldsIn, IsLinked}
use Rattle.collector.specs.Collected.{Collected}
use Rattle.collector.specs.Kept.{IsKept}
use Rattle.pseudoroot_trace.proofs.TracedLemmas.{kept-place, longer}
use Rattle.pseudoroot_trace.specs.Traced.{KeepsMarks}
use Rattle.collector.proofs.DropLemmas.{gone-same}
use Rattle.collector.proofs.LeftLemmas.{left-kept}
use Rattle.collector.proofs.FoldLemmas.{folds-kept, folds-one, folds-sum}
use Rattle.collector.proofs.TakeLemmas.{kept-sum}
use Rattle.collector.proofs.collector.Collector.fold_next.Goals as goal
use Rattle.collector.proofs.collector.Collector.fold_next.Goals.{After-advance}

abbrev before : After-advance → Collected
before c = record { node = c.self.inside.node; order = c.self.inside.order; graph = c.self.inside.graph.graph; stopped = c.self.inside.stopped.items }

abbrev after : After-advance → Collected
after c = record { node = c.self.inside.node; order = c.advance.new.self; graph = c.fold.new.self.graph; stopped = c.self.inside.stopped.items }

first : (c : After-advance) → IsFirstReady c.self.inside.order c.in-Some.ready.0 c.in-Some.ready.1.now
first c = c.in-Some.ensures.some

folds_in : (c : After-advance) → FoldsIn c.in-Some.ready.0 c.in-Some.ready.1.now c.self.inside.graph.graph c.fold.new.self.graph
folds_in c = at_success _ c.fold.result (λ e is. false≢true (sym (sym c.is_err.ensures.value ∙ c.if-is_err.false) ∙ ap is_err is)) c.fold.ensures.ok

keeps : (c : After-advance) → KeepsMarks c.self.inside.graph c.fold.new.self
keeps c = at_success _ c.fold.result (λ e is. false≢true (sym (sym c.is_err.ensures.value ∙ c.if-is_err.false) ∙ ap is_err is)) c.fold.ensures.marks

kept : (c : After-advance) → IsKept (after c)
kept c = folds-kept (before c) (after c) c.in-Some.ready.0 c.in-Some.ready.1.now c.self.invariant.kept (first c).ready (first c).node (first c).below c.advance.ensures (folds_in c) refl refl

pub fold-requires-clause-linked : goal.fold-requires-clause-linked
fold-requires-clause-linked c =
    let fit = c.self.invariant.kept.fit c.in-Some.ready.0 (count_at c.self.inside.order c.in-Some.ready.0) c.in-Some.ready.1.now c.in-Some.ensures.some.ready in
    subst (λ n. IsLinked n c.in-Some.ready.1.now) (sym c.self.invariant.kept.nodes) fit.linked

pub invariant_of-self-2 : goal.invariant_of-self-2
invariant_of-self-2 c =
    let t = c.self.inside.graph in
    let u = c.fold.new.self in
    let folds = folds_in c in
    let long = longer t.graph.shadows.names u.graph.shadows.names folds.more in
    record {
      nodes = c.self.invariant.nodes ∙ sym c.advance.ensures.nodes;
      kept = kept c;
      left = left-kept t u c.self.inside.node c.self.inside.stopped.items (keeps c)
          (λ p inside. kept-place t.graph u.graph (keeps c).placed.0 (keeps c).placed.1 folds.more p inside) long
          (λ a alive. sym (folds.dropped a) ∙ alive) c.self.invariant.left;
      gone = gone-same (before c) (after c) c.self.inside.gone.items (λ a. refl) folds.dropped c.self.invariant.gone;
    }

pub returns-clause-folds : goal.returns-clause-folds
returns-clause-folds c =
    rw (← c.self.view_is)
    (folds-one (before c) (after c) c.in-Some.ready.0 c.in-Some.ready.1.now c.self.invariant.kept (first c).ready (first c).node (first c).below c.advance.ensures (folds_in c) refl refl)

pub returns-clause-one : goal.returns-clause-one
returns-clause-one c is =
    rw (← c.self.view_is)
    (folds-sum (before c) (after c) c.in-Some.ready.0 c.in-Some.ready.1.now c.self.invariant.kept (first c).ready (first c).node (first c).below c.advance.ensures (folds_in c) refl refl)

pub returns-clause-bounded : goal.returns-clause-bounded
returns-clause-bounded c = kept-sum (after c) (kept c)

pub returns-in-None-clause-bounded : goal.returns-in-None-clause-bounded
returns-in-None-clause-bounded c = rw (← c.self.view_is) (kept-sum _ c.self.invariant.kept)

pub returns-then-is_err-clause-bounded : goal.returns-then-is_err-clause-bounded
returns-then-is_err-clause-bounded c = kept-sum (record { node = c.self.inside.node; order = c.self.inside.order; graph = c.self.inside.graph.graph; stopped = c.self.inside.stopped.items }) c.self.invariant.kept
