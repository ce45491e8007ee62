-- The nodes that are lost, by the links whose Final is folded. A link is the pair of its source and its destination.
use Rattle.std.specs.Prelude.{◌<◌, ◌==◌, ◌&&◌, ◌||◌, ℕ, Bool, List}
use Rattle.std.specs.List.{filter, list_all, list_any}
use Rattle.crgc_ids.specs.Greatest.{greatest}
use Rattle.crgc_ids.specs.Members.{IsAmong}
use Rattle.crgc_ids.specs.Nodes.{has_node, nodes_below}

-- whether the link from s to d is one of the list
abbrev pub has_link : List (ℕ × ℕ) → ℕ → ℕ → Bool
has_link links s d = list_any (λ l. (s == l.0) && (d == l.1)) links

-- the nodes below n that a Final names as removed: the sources of the links, rising
abbrev pub removed_nodes : ℕ → List (ℕ × ℕ) → List ℕ
removed_nodes n links = filter (λ s. list_any (λ l. s == l.0) links) (nodes_below n)

-- whether the link from s to each node outside the list is there
abbrev pub is_cut_off : ℕ → List (ℕ × ℕ) → List ℕ → ℕ → Bool
is_cut_off n links xs s = list_all (λ d. has_node xs d || has_link links s d) (nodes_below n)

-- the greatest set of removed nodes that are cut off from each node outside it, rising
unfoldable pub lost_nodes : ℕ → List (ℕ × ℕ) → List ℕ
lost_nodes n links = greatest (is_cut_off n links) (removed_nodes n links)

-- what `lost_nodes` is the greatest of: each member is removed, and its link to each node outside is there
abbrev pub IsLostSet : ℕ → List (ℕ × ℕ) → List ℕ → Type 0
IsLostSet n links xs =
    (s : ℕ) → IsAmong s xs
    → (s < n) × ((d : ℕ) × IsAmong (s, d) links) × ((d : ℕ) → d < n → ¬ IsAmong d xs → IsAmong (s, d) links)
