use Rattle.std.proofs.Common.{ap, refl, subst, sym, ◌≡◌, ◌<◌, ◌∙◌, None}
use Rattle.std.proofs.lemmas.Bool.{false≢true}
use Rattle.std.specs.Result.{is_err}
use Rattle.crgc_ids.proofs.SuccessLaws.{at_success}
use Rattle.gossip_core.specs.Gossip.{kept_at}
use Rattle.pseudoroot_trace.proofs.TracedLemmas.{kept-place, longer}
use Rattle.pseudoroot_trace.specs.Traced.{KeepsMarks}
use Rattle.shadow_graph.specs.Taken.{FoldsIn}
use Rattle.collector.specs.Collected.{Collected, cut_of, node_count}
use Rattle.collector.specs.Refusals.{IsFit}
use Rattle.collector.proofs.UnkeptLemmas.{unkept-admits, unkept-kept, unkept-sum}
use Rattle.collector.proofs.DropLemmas.{gone-same}
use Rattle.collector.proofs.LeftLemmas.{left-kept}
use Rattle.collector.proofs.collector.Collector.fold_unkept.Goals as goal
use Rattle.collector.proofs.collector.Collector.fold_unkept.Goals.{After-pass}

abbrev before : After-pass → Collected
before c = record { node = c.self.inside.node; order = c.self.inside.order; graph = c.self.inside.graph.graph; stopped = c.self.inside.stopped.items }

abbrev after : After-pass → Collected
after c = record { node = c.self.inside.node; order = c.pass.new.self; graph = c.fold.new.self.graph; stopped = c.self.inside.stopped.items }

folds_in : (c : After-pass) → FoldsIn c.args.origin c.args.b.now c.self.inside.graph.graph c.fold.new.self.graph
folds_in c = at_success _ c.fold.result (λ e is. false≢true (sym (sym c.is_err.ensures.value ∙ c.if-is_err.false) ∙ ap is_err is)) c.fold.ensures.ok

keeps : (c : After-pass) → KeepsMarks c.self.inside.graph c.fold.new.self
keeps c = at_success _ c.fold.result (λ e is. false≢true (sym (sym c.is_err.ensures.value ∙ c.if-is_err.false) ∙ ap is_err is)) c.fold.ensures.marks

inside : (c : After-pass) → c.args.origin < node_count (before c)
inside c = subst (λ (d : Collected). c.args.origin < node_count d) (sym c.self.view_is) c.requires.origin

fewer : (c : After-pass) → cut_of (before c) c.args.origin < 1000000
fewer c = subst (λ (d : Collected). cut_of d c.args.origin < 1000000) (sym c.self.view_is) c.requires.fewer

missing : (c : After-pass) → kept_at (before c).order c.args.origin (cut_of (before c) c.args.origin) ≡ None
missing c = subst (λ (d : Collected). kept_at d.order c.args.origin (cut_of d c.args.origin) ≡ None) (sym c.self.view_is) c.requires.missing

fit : (c : After-pass) → IsFit (node_count (before c)) c.args.origin c.args.b.now
fit c = subst (λ (d : Collected). IsFit (node_count d) c.args.origin c.args.b.now) (sym c.self.view_is) c.requires.fits

pub invariant_of-self-2 : goal.invariant_of-self-2
invariant_of-self-2 c =
    let t = c.self.inside.graph in
    let u = c.fold.new.self in
    let folds = folds_in c in
    let long = longer t.graph.shadows.names u.graph.shadows.names folds.more in
    record {
      nodes = c.self.invariant.nodes ∙ ap (λ g. g.nodes) (sym c.pass.ensures);
      kept = unkept-kept (before c) (after c) c.args.origin c.args.b.now c.self.invariant.kept (inside c) (fewer c) (missing c) (fit c) c.pass.ensures folds refl refl;
      left = left-kept t u c.self.inside.node c.self.inside.stopped.items (keeps c)
          (λ p inside. kept-place t.graph u.graph (keeps c).placed.0 (keeps c).placed.1 folds.more p inside) long
          (λ a alive. sym (folds.dropped a) ∙ alive) c.self.invariant.left;
      gone = gone-same (before c) (after c) c.self.inside.gone.items (λ a. refl) folds.dropped c.self.invariant.gone;
    }

pub returns-clause-admits : goal.returns-clause-admits
returns-clause-admits c =
    rw (← c.self.view_is)
    (unkept-admits (before c) (after c) c.args.origin c.args.b.now c.self.invariant.kept (inside c) (fewer c) (missing c) (fit c) c.pass.ensures (folds_in c) refl refl)

pub returns-clause-one : goal.returns-clause-one
returns-clause-one c =
    rw (← c.self.view_is)
    (unkept-sum (before c) (after c) c.args.origin c.args.b.now c.self.invariant.kept (inside c) (fewer c) (missing c) (fit c) c.pass.ensures (folds_in c) refl refl)
