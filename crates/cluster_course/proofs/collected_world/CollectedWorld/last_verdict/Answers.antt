use Rattle.std.proofs.Common.{◌≡◌, ◌≤◌, ◌-◌, true, length, slice_get, Some, List, [], reverse, sym, ◌∙◌, ap, subst, arith}
use Rattle.history_model.specs.declared.records.Verdict.{Verdict}
use Rattle.history_model.specs.Story.{Story}
use Rattle.cluster_course.specs.Course.{IsLastFirst}
use Rattle.cluster_course.specs.Telling.{ends_with_sweep}
use Rattle.cluster_course.proofs.LastVerdict.{first-reversed, last-made_due, none-found, none-last, none-made_due}
use Rattle.cluster_course.proofs.collected_world.CollectedWorld.last_verdict.Goals as goal

pub returns : goal.returns
returns c =
    let w = c.self.inside.world in
    let vs = c.self.inside.verdicts.items in
    let swept : ends_with_sweep w.past ≡ true = ap (λ (s : Story). ends_with_sweep s.past) c.self.view_is ∙ sym c.requires ∙ c.if-not-has_swept.false in
    let last_one : slice_get vs (length vs - 1) ≡ Some c.in_ok-verdict.verdict.now =
    ap (λ (xs : List Verdict). slice_get xs (length xs - 1)) (sym c.deref.ensures.value) ∙ sym c.in_ok-verdict.ensures.value in
    let verdict = first-reversed vs c.in_ok-verdict.verdict.now last_one in
    let within : w.cluster.nodes ≤ length c.in_ok-verdict.verdict.now.cut =
    omega (arith, ap (λ (s : Story). s.cluster.nodes) c.self.view_is, c.nodes-nodes.ensures.nodes, c.nodes-nodes.ensures.at_most, c.at.ensures.len) in
    rw (← c.self.view_is)
    (last-made_due w.cluster w.past (reverse vs) c.in_ok-verdict.verdict.now c.self.invariant.last swept verdict within)

pub returns-then-not-has_swept : goal.returns-then-not-has_swept
returns-then-not-has_swept c =
    none-made_due c.args.self.now.cluster c.args.self.now.past (sym c.requires ∙ c.if-not-has_swept.true)

pub returns-in_err-verdict : goal.returns-in_err-verdict
returns-in_err-verdict c =
    let w = c.self.inside.world in
    let vs = c.self.inside.verdicts.items in
    let empty : vs ≡ [] = none-last vs (ap (λ (xs : List Verdict). slice_get xs (length xs - 1)) (sym c.deref.ensures.value) ∙ sym c.in_err-verdict.ensures.value) in
    let is = subst (λ (xs : List Verdict). IsLastFirst w.cluster w.past (reverse xs)) empty c.self.invariant.last in
    rw (c.from_residual.ensures, ← c.self.view_is) (none-found w.cluster w.past is)
