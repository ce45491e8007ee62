-- Rising lists of nodes, as numbers.
use Rattle.std.specs.Prelude.{◌==◌, ℕ, Bool, cond, nat_lt, List, [], ◌∷◌}
use Rattle.std.specs.List.{list_any, range_with_len}

-- the nodes below n
abbrev pub nodes_below : ℕ → List ℕ
nodes_below n = range_with_len 0 n

-- whether a node is one of the list
abbrev pub has_node : List ℕ → ℕ → Bool
has_node xs k = list_any (λ x. k == x) xs

-- the node is put in its place, once
abbrev pub with_node : ℕ → List ℕ → List ℕ
with_node k [] = k ∷ []
with_node k (x ∷ xs) = cond (nat_lt k x) (k ∷ x ∷ xs) (cond (k == x) (x ∷ xs) (x ∷ with_node k xs))
