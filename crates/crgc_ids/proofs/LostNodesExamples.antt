-- `lost_nodes` computed by hand and by the definition.
use Rattle.std.proofs.Common.{◌≡◌, [], ◌∷◌, refl}
use Rattle.crgc_ids.specs.Greatest.{greatest}
use Rattle.crgc_ids.specs.LostNodes.{lost_nodes, removed_nodes}

-- of three nodes, node 0 has crashed, and its Final to node 2 is missing
one_final_missing : (removed_nodes 3 ((0, 1) ∷ []) ≡ 0 ∷ []) × (lost_nodes 3 ((0, 1) ∷ []) ≡ [])
unfolding lost_nodes greatest
one_final_missing = (refl, refl)

both_finals : lost_nodes 3 ((0, 1) ∷ (0, 2) ∷ []) ≡ 0 ∷ []
unfolding lost_nodes greatest
both_finals = refl

-- of four nodes, nodes 2 and 3 have crashed, with no Final between them, and one of node 3 is missing: neither is lost
one_of_two_missing : lost_nodes 4 ((2, 0) ∷ (3, 0) ∷ (2, 1) ∷ []) ≡ []
unfolding lost_nodes greatest
one_of_two_missing = refl

both_lost : lost_nodes 4 ((2, 0) ∷ (3, 0) ∷ (2, 1) ∷ (3, 1) ∷ []) ≡ 2 ∷ 3 ∷ []
unfolding lost_nodes greatest
both_lost = refl

-- a node that is not below their number is none
out_of_range : lost_nodes 2 ((0, 1) ∷ (5, 0) ∷ (5, 1) ∷ []) ≡ 0 ∷ []
unfolding lost_nodes greatest
out_of_range = refl
