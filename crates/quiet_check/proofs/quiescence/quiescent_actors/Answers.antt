use Rattle.std.proofs.Common.{◌≡◌, ◌<◌, ◌⊎◌, ◌-◌, length, refl, reverse, subst, inl, inr, ◌∙◌, arith}
use Rattle.std.specs.List.{filter}
use Rattle.crgc_ids.specs.Greatest.{greatest}
use Rattle.quiet_check.specs.Plain.{is_candidate, is_held_within, owners, plain_quiescent}
use Rattle.quiet_check.proofs.Pruning.{prune_turn}
use Rattle.quiet_check.proofs.quiescence.quiescent_actors.Goals as goal
use Rattle.quiet_check.proofs.quiescence.quiescent_actors.Goals.{then-len, else-len}

pub loop-turns-init : goal.loop-turns-init
unfolding plain_quiescent greatest
loop-turns-init c =
    let h = reverse c.args.events.now in
    let start : c.in_ok-left.left.items ≡ filter (is_candidate h) (owners h) = c.in_ok-left.ensures in
    let turns : c.len-turns.result ≡ length c.in_ok-left.left.items = omega arith in
    rw (turns, start) refl

pub loop-turns-preserved : goal.loop-turns-preserved
loop-turns-preserved c =
    let fit = is_held_within c.args.cluster (reverse c.args.events.now) in
    let before = c.loop-turns.left.items in
    let left = c.in_ok-pruned.pruned.items in
    let pruned =
    subst (λ xs. left ≡ filter (fit xs) xs) c.as_slice-in-loop-turns-2.ensures.value c.in_ok-pruned.ensures in
    let some : 0 < c.loop-turns.turns = omega arith in
    let turn : ((length left ≡ length before) × (c.if-len.turns ≡ 0)) ⊎ (c.if-len.turns ≡ c.loop-turns.turns - 1) =
    elim c.if-len.branch [ then-len w ↦ inl (omega arith, omega arith) | else-len w ↦ inr (omega arith) ] in
    prune_turn fit c.loop-turns.turns c.if-len.turns before left some pruned turn ∙ c.loop-turns.invariant
