use Rattle.std.proofs.Common.{◌≡◌, ◌∷◌, ◌++◌, ℕ, [], Some, arith, rules, slice_get, subst, sym, length}
use Rattle.collector.specs.Collected.{Collected, IsNew}
use Rattle.collector.proofs.VerdictLemmas.{follows-start}
use Rattle.node_collectors.specs.Standing.{AreCollectorsAt}
use Rattle.node_collectors.proofs.StandLemmas.{last-too}
use Rattle.node_collectors.proofs.collectors.NodeCollectors.new.Goals as goal

pub loop-number-preserved : goal.loop-number-preserved
loop-number-preserved c =
    let rows = c.loop-number.rows.items in
    let more : c.push.new.self.items ≡ rows ++ c.in_ok-collector.collector ∷ [] = c.in-Ok.ensures.items in
    let fresh : IsNew (length rows) c.args.nodes c.in_ok-collector.collector = subst (λ n. IsNew n c.args.nodes c.in_ok-collector.collector) (search rules) c.in_ok-collector.ensures in
    record {
      many = grind (arith, more);
      new = subst (λ xs. (m : ℕ) (d : Collected) → slice_get xs m ≡ Some d → IsNew m c.args.nodes d) (sym more)
          (last-too (λ m d. IsNew m c.args.nodes d) rows c.in_ok-collector.collector c.loop-number.invariant.new fresh);
    }

pub returns : goal.returns
returns c = λ cl here.
    let stand : AreCollectorsAt cl [] c.loop-number.rows.items = record {
      count = (let done = c.loop-number.invariant.many in omega arith);
      each = λ m d is up. follows-start cl m d (subst (λ n. IsNew m n d) (sym here) (c.loop-number.invariant.new m d is));
    } in
    subst (AreCollectorsAt cl []) (sym c.of.ensures) stand
