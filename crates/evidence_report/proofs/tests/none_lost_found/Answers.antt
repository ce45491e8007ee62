use Rattle.std.proofs.Common.{◌≡◌, [], ◌∷◌, map, refl, sym, ◌∙◌}
use Rattle.crgc_ids.specs.Greatest.{greatest}
use Rattle.crgc_ids.specs.LostNodes.{lost_nodes}
use Rattle.crgc_ids.specs.Nodes.{nodes_below}
use Rattle.history_model.specs.Folds.{cut_at, folded, lost_of}
use Rattle.history_model.specs.Graph.{dead}
use Rattle.history_model.specs.Rows.{cluster, two_nodes_crashed}
use Rattle.history_model.specs.Sweeps.{stops_of}
use Rattle.evidence_report.proofs.GivenVerdicts.{given}
use Rattle.evidence_report.proofs.tests.none_lost_found.Goals as goal

-- the sweep goes by three bulletins, finds no lost node, and stops nobody
three_folded : 2 ∷ 1 ∷ 0 ∷ 0 ∷ [] ≡ map (cut_at (cluster 4 1) 0 two_nodes_crashed) (nodes_below 4)
three_folded = refl

none_lost : lost_of (cluster 4 1) (folded (cluster 4 1) 0 two_nodes_crashed) ≡ []
unfolding dead greatest lost_nodes
none_lost = refl

none_stopped : stops_of (cluster 4 1) 0 two_nodes_crashed ≡ []
unfolding dead greatest lost_nodes
none_stopped = refl

pub returns : goal.returns
returns c =
    given (cluster 4 1) 0 two_nodes_crashed (record { node = c.in_ok-numbered_node.field-0; cut = c.in_ok-two_and_one.field-0; lost = c.empty.result; stops = c.new.result })
    (2 ∷ 1 ∷ 0 ∷ 0 ∷ []) 12 c.in_ok-numbered_node.ensures c.in_ok-two_and_one.ensures three_folded (c.empty.ensures ∙ sym none_lost) (c.new.ensures ∙ sym none_stopped)
