use Rattle.std.proofs.Common.{◌≡◌, ◌&&◌, ◌∙◌, ap, arith, int_lt, not, pos, sym, true}
use Rattle.std.proofs.lemmas.Int.{ints}
use Rattle.crgc_ids.specs.Nodes.{has_node}
use Rattle.shadow_graph.specs.Graph.{lost_in}
use Rattle.shadow_graph.proofs.KeptLemmas.{has-tells}
use Rattle.shadow_graph.proofs.graph.ShadowGraph.is_owner.Goals as goal

pub returns-then-value-gt0 : goal.returns-then-value-gt0
returns-then-value-gt0 c =
    let positive : int_lt (pos 0) c.args.value ≡ true = grind (arith, ints) in
    let lost = has-tells c.lost.result c.node.result c.contains.result c.contains.ensures.member ∙ (λ i. has_node (c.lost.ensures i) (c.node.ensures i)) in
    ap not lost ∙ sym (ap (λ v. v && not (has_node (lost_in c.args.self.now) c.args.owner.node)) positive)
