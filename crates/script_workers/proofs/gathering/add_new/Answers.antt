use Rattle.std.proofs.Common.{◌≡◌, arith, length, subst, sym, ◌∙◌, ap}
use Rattle.std.proofs.lemmas.Bool.{false≢true}
use Rattle.history_model.specs.State.{is_up}
use Rattle.script_workers.specs.Returned.{AreRowsAt}
use Rattle.script_workers.proofs.Gathers.{row-more}
use Rattle.script_workers.proofs.gathering.add_new.Goals as goal

pub loop-alloc-preserved : goal.loop-alloc-preserved
loop-alloc-preserved c =
    let w = c.args.world.now in
    let node_is : c.in-Some.node ≡ length c.loop-alloc.rows.items =
    omega (arith, c.in-Some.ensures.some, c.len-in-loop-alloc.ensures, c.len.ensures, c.loop-alloc-test.true, c.ranges.below.fits) in
    row-more w.cluster w.past c.loop-alloc.rows.items c.push.new.rows.items c.in_ok-collector.collector c.loop-alloc.invariant
    (λ up. absurd (false≢true (sym c.if-not-is_up.true ∙ c.is_up.ensures ∙ ap (λ n. is_up n w.past) node_is ∙ up)))
    c.in_ok-push.ensures.ok

pub returns-in_err-push : goal.returns-in_err-push
returns-in_err-push c = (let w = c.args.world.now in subst (AreRowsAt w.cluster w.past) (sym c.in_err-push.ensures.err) c.loop-alloc.invariant)
