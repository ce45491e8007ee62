use Rattle.std.proofs.Common.{◌≡◌, ◌+◌, List, [], ◌∷◌, ◌++◌, map, slice_index, slice_set, refl, sym, ◌∙◌, ap}
use Rattle.crgc_ids.specs.Actor.{Actor}
use Rattle.crgc_ids.specs.Greatest.{greatest}
use Rattle.crgc_ids.specs.LostNodes.{lost_nodes}
use Rattle.crgc_ids.specs.Nodes.{nodes_below}
use Rattle.history_model.specs.declared.records.Stop.{Stop}
use Rattle.history_model.specs.Folds.{cut_at, folded, lost_of}
use Rattle.history_model.specs.Graph.{dead}
use Rattle.history_model.specs.Rows.{actor, cluster, dropped_child}
use Rattle.history_model.specs.Sweeps.{stops_of}
use Rattle.evidence_report.proofs.GivenVerdicts.{given}
use Rattle.evidence_report.proofs.tests.dropped_child_found.Goals as goal

abbrev stop_of_child : Actor → List Actor → Stop
stop_of_child a owners = record { actor = a; received = 0; told = 0; admitted = 0; owners = owners }

-- the sweep goes by one bulletin, finds no lost node, and stops the child
one_folded : 1 ∷ [] ≡ map (cut_at (cluster 1 1) 0 dropped_child) (nodes_below 1)
one_folded = refl

none_lost : lost_of (cluster 1 1) (folded (cluster 1 1) 0 dropped_child) ≡ []
unfolding dead greatest lost_nodes
none_lost = refl

one_stopped : stops_of (cluster 1 1) 0 dropped_child ≡ record { actor = actor 0 1; received = 0; told = 0; admitted = 0; owners = actor 0 1 ∷ [] } ∷ []
unfolding dead greatest lost_nodes
one_stopped = refl

pub returns : goal.returns
returns c =
    let node = c.in_ok-node.ensures in
    let child = c.in_ok-child.ensures ∙ ap (λ n. actor n 1) node in
    let cut = c.raise.ensures ∙ ap (λ n. slice_set c.zero-cut.result n (slice_index c.zero-cut.result n + 1)) node ∙ ap (λ xs. slice_set xs 0 (slice_index xs 0 + 1)) c.zero-cut.ensures in
    let owners = c.in_ok-push.ensures.ok ∙ ap (λ xs. xs ++ c.in_ok-child.child ∷ []) c.new-owners.ensures ∙ ap (λ a. a ∷ []) child in
    let stops = c.in_ok-push-2.ensures.ok ∙ ap (λ xs. xs ++ stop_of_child c.in_ok-child.child c.push.new.self ∷ []) c.new-stops.ensures
    ∙ ap (λ a. stop_of_child a c.push.new.self ∷ []) child ∙ ap (λ xs. stop_of_child (actor 0 1) xs ∷ []) owners in
    given (cluster 1 1) 0 dropped_child (record { node = c.in_ok-node.node; cut = c.raise.new.self; lost = c.empty.result; stops = c.push-2.new.self })
    (1 ∷ []) 15 node cut one_folded (c.empty.ensures ∙ sym none_lost) (stops ∙ sym one_stopped)
