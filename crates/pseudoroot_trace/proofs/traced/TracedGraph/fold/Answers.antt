use Rattle.std.proofs.Common.{◌≡◌, ◌∙◌, Bool, ap, eqb, false, not, refl, sym, true}
use Rattle.std.proofs.lemmas.Bool.{false≢true}
use Rattle.std.proofs.lemmas.Bool.Decides.{Decides-eqb}
use Rattle.std.proofs.lemmas.Slice.Eq.{slice_eq-Decides}
use Rattle.std.specs.Cmp.Lexicographic.{pointwise}
use Rattle.std.specs.Result.{is_err}
use Rattle.crgc_ids.proofs.SuccessLaws.{at_success}
use Rattle.shadow_graph.specs.Graph.{lost_in}
use Rattle.shadow_graph.specs.Taken.{FoldsIn}
use Rattle.pseudoroot_trace.specs.Traced.{Traced}
use Rattle.pseudoroot_trace.proofs.TouchLemmas.{touches-none}
use Rattle.pseudoroot_trace.proofs.TracedLemmas.{keeps-marks, traced-folded, traced-stale}
use Rattle.pseudoroot_trace.proofs.traced.TracedGraph.fold.Goals as goal
use Rattle.pseudoroot_trace.proofs.traced.TracedGraph.fold.Goals.{After-touch_rows, Then-ne}

abbrev before : After-touch_rows → Traced
before c = record { graph = c.self.inside.graph; kept = c.self.inside.kept; places = c.self.inside.places; is_stale = c.self.inside.is_stale }

folds_in : (c : After-touch_rows) → FoldsIn c.args.origin c.args.b.now c.self.inside.graph c.fold.new.self
folds_in c = at_success _ c.fold.result (λ e is. false≢true (sym (sym c.is_err.ensures.value ∙ c.if-is_err.false) ∙ ap is_err is)) c.fold.ensures.ok

not-false : (b : Bool) → not b ≡ false → b ≡ true
not-false true e = refl
not-false false e = absurd (false≢true (sym e))

lost_same : (c : After-touch_rows) → lost_in c.fold.new.self ≡ lost_in c.self.inside.graph
lost_same c =
    let now = c.lost.result in
    let was = c.lost-lost.result in
    let same : now ≡ was = (slice_eq-Decides Decides-eqb now was (pointwise eqb now was) refl).0 (not-false (pointwise eqb now was) (sym c.ne.ensures ∙ c.if-ne.false)) in
    sym c.lost.ensures ∙ same ∙ c.lost-lost.ensures

pub invariant_of-self-then-ne : goal.invariant_of-self-then-ne
invariant_of-self-then-ne c =
    let t : Traced = record { graph = c.self.inside.graph; kept = c.self.inside.kept; places = c.self.inside.places; is_stale = c.self.inside.is_stale } in
    let folds = at_success _ c.fold.result (λ e is. false≢true (sym (sym c.is_err.ensures.value ∙ c.if-is_err.false) ∙ ap is_err is)) c.fold.ensures.ok in
    traced-stale t c.fold.new.self folds.more c.self.invariant

pub invariant_of-self-2 : goal.invariant_of-self-2
invariant_of-self-2 c =
    traced-folded c.args.origin c.args.b.now (before c) c.fold.new.self c.touch_rows.new.kept c.place_count-before.ensures.placed c.place_count-after.ensures.placed (folds_in c) c.self.invariant
    (lost_same c) c.touch_rows.ensures.touches c.touch_rows.ensures.actors

pub returns-then-ne-clause-marks : goal.returns-then-ne-clause-marks
returns-then-ne-clause-marks c =
    let t : Traced = record { graph = c.self.inside.graph; kept = c.self.inside.kept; places = c.self.inside.places; is_stale = c.self.inside.is_stale } in
    rw (← c.self.view_is)
    (keeps-marks t c.fold.new.self c.self.inside.kept true c.self.invariant c.place_count-before.ensures.placed c.place_count-after.ensures.placed (touches-none c.self.inside.places c.self.inside.kept)
    (λ fresh. absurd (false≢true (sym fresh))))

pub returns-clause-marks : goal.returns-clause-marks
returns-clause-marks c =
    rw (← c.self.view_is)
    (keeps-marks (before c) c.fold.new.self c.touch_rows.new.kept c.self.inside.is_stale c.self.invariant c.place_count-before.ensures.placed c.place_count-after.ensures.placed c.touch_rows.ensures.touches
    (λ fresh. (fresh, lost_same c)))
