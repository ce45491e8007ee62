use Rattle.std.proofs.Common.{length, subst, sym, true}
use Rattle.pseudoroot_trace.specs.Traced.{IsSweptGraph, IsTraced, Traced}
use Rattle.pseudoroot_trace.proofs.SweptLemmas.{marks-same, seen-same, standing-same, swept-graph, traced-same, traced-swept}
use Rattle.pseudoroot_trace.proofs.traced.TracedGraph.sweep.Goals as goal

pub invariant_of-self : goal.invariant_of-self
invariant_of-self c =
    let t = c.self.inside in
    traced-same (record { graph = t.graph; kept = t.kept; places = t.places; is_stale = t.is_stale }) c.reserve.new.self c.reserve.ensures.grown c.reserve.ensures.same c.self.invariant

pub returns-then-is_err-clause-marks : goal.returns-then-is_err-clause-marks
returns-then-is_err-clause-marks c =
    let t = c.self.inside in
    rw (← c.self.view_is) (marks-same (record { graph = t.graph; kept = t.kept; places = t.places; is_stale = t.is_stale }) c.reserve.new.self c.self.invariant c.place_count-places.ensures.placed c.reserve.ensures.same)

pub sweep_marks-requires-clause-seen : goal.sweep_marks-requires-clause-seen
sweep_marks-requires-clause-seen c =
    let t = c.self.inside in
    seen-same (length t.graph.shadows.names) t.places t.kept c.reserve.new.self c.reserve.ensures.grown c.reserve.ensures.same c.self.invariant.seen

pub sweep_marks-requires-clause-standing : goal.sweep_marks-requires-clause-standing
sweep_marks-requires-clause-standing c = λ fresh.
    let t = c.self.inside in
    standing-same t.graph t.places t.kept c.reserve.new.self c.reserve.ensures.same (c.self.invariant.standing fresh)

pub invariant_of-self-2 : goal.invariant_of-self-2
invariant_of-self-2 c =
    let t = c.self.inside in
    subst (λ n. IsTraced (record { graph = t.graph; kept = c.sweep_marks.new.kept; places = n; is_stale = true })) (sym c.place_count-places.ensures.count)
    (traced-swept t.graph t.places t.is_stale c.reserve.new.self c.sweep_marks.new.kept c.sweep_marks.ensures.swept)

pub returns-clause-ok : goal.returns-clause-ok
returns-clause-ok c =
    let t : Traced = record { graph = c.self.inside.graph; kept = c.self.inside.kept; places = c.self.inside.places; is_stale = c.self.inside.is_stale } in
    rw (← c.self.view_is)
    (subst (λ n. IsSweptGraph t (record { graph = t.graph; kept = c.sweep_marks.new.kept; places = n; is_stale = true })) (sym c.place_count-places.ensures.count)
    (swept-graph t c.reserve.new.self c.sweep_marks.new.kept c.place_count-places.ensures.placed c.reserve.ensures.same c.sweep_marks.ensures.swept))
