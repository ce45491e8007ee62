use Rattle.std.proofs.Common.{subst}
use Rattle.shadow_graph.specs.Graph.{Graph}
use Rattle.pseudoroot_trace.specs.Traced.{IsSweptAlong}
use Rattle.pseudoroot_trace.proofs.SweptLemmas.{swept-along}
use Rattle.pseudoroot_trace.proofs.traced.sweep_marks.Goals as goal

pub returns-clause-swept : goal.returns-clause-swept
returns-clause-swept c =
    subst (λ (g : Graph). IsSweptAlong g c.args.places c.args.is_stale c.args.kept.now c.sweep.new.self) c.new-trace.ensures
    (swept-along c.new-trace.result c.args.places c.args.is_stale c.args.kept.now c.touch_unseen.new.kept c.sweep.new.self c.touch_unseen.ensures.watched
    c.sweep.ensures.kept c.sweep.ensures.swept)
