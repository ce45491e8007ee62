use Rattle.std.proofs.Common.{ap, refl, subst, sym, ◌∙◌}
use Rattle.std.proofs.lemmas.Bool.{false≢true}
use Rattle.std.specs.Result.{is_err}
use Rattle.crgc_ids.proofs.SuccessLaws.{at_success}
use Rattle.collector.specs.Collected.{Collected, node_count}
use Rattle.collector.specs.Refusals.{IsFit}
use Rattle.collector.specs.Taking.{Keeps}
use Rattle.collector.proofs.DropLemmas.{gone-same}
use Rattle.collector.proofs.KeepLemmas.{keeps-kept}
use Rattle.collector.proofs.collector.Collector.keep.Goals as goal
use Rattle.collector.proofs.collector.Collector.keep.Goals.{Else-is_err}

abbrev before : Else-is_err → Collected
before c = record { node = c.self.inside.node; order = c.self.inside.order; graph = c.self.inside.graph.graph; stopped = c.self.inside.stopped.items }

abbrev after : Else-is_err → Collected
after c = record { node = c.self.inside.node; order = c.offer.new.self; graph = c.self.inside.graph.graph; stopped = c.self.inside.stopped.items }

keeps : (c : Else-is_err) → Keeps (before c) (after c) c.args.origin c.args.number c.args.b
keeps c = record {
  node = refl;
  stopped = refl;
  graph = refl;
  order = at_success _ c.offer.result (λ e is. false≢true (sym (sym c.is_err.ensures.value ∙ c.if-is_err.false) ∙ ap is_err is)) c.offer.ensures.kept;
}

pub invariant_of-self-2 : goal.invariant_of-self-2
invariant_of-self-2 c =
    let fit = subst (λ d. IsFit (node_count d) c.args.origin c.args.b) (sym c.self.view_is) c.requires.fits in
    record {
      nodes = c.self.invariant.nodes ∙ sym (keeps c).order.nodes;
      kept = keeps-kept (before c) (after c) c.args.origin c.args.number c.args.b (keeps c) fit c.self.invariant.kept;
      left = c.self.invariant.left;
      gone = gone-same (before c) (after c) c.self.inside.gone.items (λ a. refl) (λ a. refl) c.self.invariant.gone;
    }

pub returns-clause-ok : goal.returns-clause-ok
returns-clause-ok c = rw (← c.self.view_is) (keeps c)
