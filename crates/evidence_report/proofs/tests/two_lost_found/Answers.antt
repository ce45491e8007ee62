use Rattle.std.proofs.Common.{◌≡◌, ◌+◌, [], ◌∷◌, map, slice_index, slice_set, refl, sym, ◌∙◌, ap}
use Rattle.crgc_ids.specs.Greatest.{greatest}
use Rattle.crgc_ids.specs.LostNodes.{lost_nodes}
use Rattle.crgc_ids.specs.Nodes.{nodes_below, with_node}
use Rattle.history_model.specs.Folds.{cut_at, folded, lost_of}
use Rattle.history_model.specs.Graph.{dead}
use Rattle.history_model.specs.Rows.{cluster, two_nodes_lost_together}
use Rattle.history_model.specs.Sweeps.{stops_of}
use Rattle.evidence_report.proofs.GivenVerdicts.{given}
use Rattle.evidence_report.proofs.tests.two_lost_found.Goals as goal

-- the sweep goes by four bulletins, finds two lost nodes, and stops nobody
four_folded : 2 ∷ 2 ∷ 0 ∷ 0 ∷ [] ≡ map (cut_at (cluster 4 1) 0 two_nodes_lost_together) (nodes_below 4)
four_folded = refl

two_lost : lost_of (cluster 4 1) (folded (cluster 4 1) 0 two_nodes_lost_together) ≡ 2 ∷ 3 ∷ []
unfolding dead greatest lost_nodes
two_lost = refl

none_stopped : stops_of (cluster 4 1) 0 two_nodes_lost_together ≡ []
unfolding dead greatest lost_nodes
none_stopped = refl

pub returns : goal.returns
returns c =
    let cut = c.raise.ensures ∙ ap (λ n. slice_set c.in_ok-cut.cut n (slice_index c.in_ok-cut.cut n + 1)) c.in_ok-numbered_node.ensures
    ∙ ap (λ xs. slice_set xs 1 (slice_index xs 1 + 1)) c.in_ok-cut.ensures in
    let first = c.with-lost.ensures ∙ ap (λ n. with_node n c.empty.result) c.in_ok-numbered_node-2.ensures ∙ ap (with_node 2) c.empty.ensures in
    let lost = c.with.ensures ∙ ap (λ n. with_node n c.with-lost.result) c.in_ok-numbered_node-4.ensures ∙ ap (with_node 3) first in
    given (cluster 4 1) 0 two_nodes_lost_together (record { node = c.in_ok-numbered_node-3.field-0; cut = c.raise.new.self; lost = c.with.result; stops = c.new.result })
    (2 ∷ 2 ∷ 0 ∷ 0 ∷ []) 12 c.in_ok-numbered_node-3.ensures cut four_folded (lost ∙ sym two_lost) (c.new.ensures ∙ sym none_stopped)
