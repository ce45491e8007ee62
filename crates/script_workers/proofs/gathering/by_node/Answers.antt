use Rattle.std.proofs.Common.{◌≡◌, ◌<◌, arith, length, true, subst, sym}
use Rattle.std.proofs.lemmas.Bool.Decides.{nat_tests}
use Rattle.history_model.specs.State.{is_up}
use Rattle.collector.specs.Collected.{IsCollectorAt}
use Rattle.script_workers.specs.Returned.{StandsIfUp}
use Rattle.script_workers.proofs.Gathers.{first-out, row-more}
use Rattle.script_workers.proofs.gathering.by_node.Goals as goal

pub loop-back-preserved : goal.loop-back-preserved
loop-back-preserved c =
    let w = c.args.world.now in
    let row = c.remove-collector.result in
    let some : 0 < length c.loop-back.back.items = grind (arith, nat_tests, c.loop-back-test.true, c.loop-back-test.ensures, c.is_empty.ensures) in
    let out = first-out (StandsIfUp w.cluster w.past) c.loop-back.back.items c.remove-collector.new.self.items row some
    c.remove-collector.ensures.value c.remove-collector.ensures.items c.loop-back.invariant.0 in
    let rows = c.add_new.new.rows.items in
    let place : row.node ≡ length rows =
    omega (arith, c.node-in-loop-back.ensures, c.get-in-loop-back.ensures.number, c.if-len-get.false, c.len.ensures) in (
      out.1,
      row-more w.cluster w.past rows c.push.new.rows.items row c.add_new.ensures
          (λ up. subst (λ n. IsCollectorAt w.cluster w.past n row) place (out.0 c.is_lawful.ensures (subst (λ n. is_up n w.past ≡ true) (sym place) up)))
          c.in_ok-push.ensures.ok,
    )
