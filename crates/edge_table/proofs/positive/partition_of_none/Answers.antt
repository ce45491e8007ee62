use Rattle.std.proofs.Common.{false, refl, subst, sym}
use Rattle.std.proofs.lemmas.List.{take_more}
use Rattle.edge_table.specs.Partition.{IsParted}
use Rattle.edge_table.proofs.positive.partition_of_none.Goals as goal

pub loop-i-init : goal.loop-i-init
loop-i-init c = c.new-partition.ensures (λ n. false)

pub loop-i-preserved : goal.loop-i-preserved
loop-i-preserved c =
    subst (λ xs. IsParted xs (λ n. false) c.push.new.self) (sym (take_more c.args.ends.now c.loop-i.i (0, 0) c.loop-i-test.true))
    (c.in_ok-push.ensures.ok _ (λ n. false) c.loop-i.invariant refl)
