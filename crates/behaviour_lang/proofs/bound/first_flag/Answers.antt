use Rattle.std.proofs.Common.{◌≡◌, ◌+◌, suc, sym, ◌∙◌, arith}
use Rattle.behaviour_lang.proofs.HeldLaws.{first-here, first-later, first-past, first-flagless}
use Rattle.behaviour_lang.proofs.bound.first_flag.Goals.{else-flags-k-via-then-flags-k+else-k-refs, else-flags-k-via-else-flags-k}
use Rattle.behaviour_lang.proofs.bound.first_flag.Goals as goal

pub returns-then-k-refs : goal.returns-then-k-refs
returns-then-k-refs c = sym (c.loop-k.invariant ∙ first-here c.loop-k.k c.args.refs.now c.args.flags.now c.loop-k.k c.if-k-refs.true c.if-flags-k.true)

-- the k-th reference is not there, or has no flag
pub loop-k-preserved : goal.loop-k-preserved
loop-k-preserved c =
    let k = c.loop-k.k in
    let later : k + 1 ≡ suc k = omega arith in
    elim c.else-flags-k.branch [
      | else-flags-k-via-then-flags-k+else-k-refs w ↦ rw later (rw later at (c.loop-k.invariant ∙ first-past k c.args.refs.now c.args.flags.now k w.if-k-refs.false ∙ sym (first-past (suc k) c.args.refs.now c.args.flags.now (k + 1) (omega (arith, w.if-k-refs.false)))))
      | else-flags-k-via-else-flags-k w ↦ rw later (rw later at (c.loop-k.invariant ∙ first-later k c.args.refs.now c.args.flags.now k w.if-flags-k.false))
    ]

pub returns : goal.returns
returns c = sym (c.loop-k.invariant ∙ first-flagless c.loop-k.k c.args.refs.now c.args.flags.now c.loop-k.k c.loop-k-test.false)
