-- What contracts see of the Finals that are noted.
use Rattle.std.specs.Prelude.{◌+◌, ℕ, List, [], ◌∷◌, ◌++◌, map}

-- how many nodes the cluster has and, for each of the 16 nodes that there may be, which nodes noted that they removed it
pub record Noted : Type 0 where
  pub nodes : ℕ
  pub told : List (List ℕ)

-- the links of the nodes from k on, each the pair of its source and its destination
abbrev pub links_from : ℕ → List (List ℕ) → List (ℕ × ℕ)
links_from k [] = []
links_from k (row ∷ rows) = map (λ d. (k, d)) row ++ links_from (k + 1) rows

-- the links whose Final is noted
abbrev pub links_of : Noted → List (ℕ × ℕ)
links_of f = links_from 0 f.told
