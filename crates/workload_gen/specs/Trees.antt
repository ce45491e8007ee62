-- The JSON value of a generated script. The keys of each object come in byte order.
use Rattle.std.specs.Prelude.{ℕ, ◌+◌, codes, List, [], ◌∷◌, ◌++◌, map}
use Rattle.std.specs.List.{enumerate_from}
use Rattle.serde_json.specs.Data.{Data, unsigned, number, string, array, object, Members, no_members, member}
use Rattle.serde_json.specs.View.{items_of}
use Rattle.workload_gen.specs.declared.makers.Maker.{Maker}

abbrev pub keys : List (List ℕ × Data) → Members
keys [] = no_members
keys (k ∷ ks) = member k.0 k.1 (keys ks)

-- an array of arrays of texts
abbrev pub instructions : List (List (List ℕ)) → Data
instructions is = array (items_of (map (λ words. array (items_of (map string words))) is))

-- the lists of the three behaviours
abbrev pub friend_words : List (List (List ℕ))
friend_words =
    (codes "spawn" ∷ codes "y" ∷ codes "cell" ∷ [])
    ∷ (codes "send" ∷ codes "m0" ∷ codes "y" ∷ [])
    ∷ (codes "send" ∷ codes "y" ∷ codes "m0" ∷ [])
    ∷ (codes "drop" ∷ codes "y" ∷ [])
    ∷ []

abbrev pub maker_words : List (List (List ℕ))
maker_words =
    (codes "spawn" ∷ codes "x" ∷ codes "cell" ∷ [])
    ∷ (codes "send" ∷ codes "b" ∷ codes "x" ∷ [])
    ∷ (codes "drop" ∷ codes "x" ∷ [])
    ∷ []

abbrev pub cell_words : List (List (List ℕ))
cell_words = (codes "keep" ∷ codes "k" ∷ codes "m0" ∷ []) ∷ []

abbrev pub friend_tree : Data
friend_tree = object (keys ((codes "message", instructions friend_words) ∷ (codes "name", string (codes "friend")) ∷ []))

abbrev pub maker_tree : Data
maker_tree = object (keys ((codes "name", string (codes "maker")) ∷ (codes "wake", instructions maker_words) ∷ []))

abbrev pub cell_tree : Data
cell_tree = object (keys ((codes "message", instructions cell_words) ∷ (codes "name", string (codes "cell")) ∷ []))

abbrev pub seed_tree : List ℕ → ℕ → ℕ → Data
seed_tree behaviour node wakes =
    object (keys ((codes "behaviour", string behaviour) ∷ (codes "node", number (unsigned node)) ∷ (codes "wakes", number (unsigned wakes)) ∷ []))

abbrev pub friend_seed_tree : ℕ → Data
friend_seed_tree n = seed_tree (codes "friend") n 0

abbrev pub maker_seed_tree : Maker → Data
maker_seed_tree m = seed_tree (codes "maker") m.node m.wakes

-- the tie from the seed 4 + j of the maker j to the seed of its friend's node
abbrev pub tie_tree : ℕ × Maker → Data
tie_tree p =
    object (keys ((codes "as", string (codes "b")) ∷ (codes "from", number (unsigned (4 + p.0))) ∷ (codes "to", number (unsigned p.1.friend)) ∷ []))

-- the script of these makers
abbrev pub tree : List Maker → Data
tree ms = object (keys (
    (codes "behaviours", array (items_of (friend_tree ∷ maker_tree ∷ cell_tree ∷ []))) ∷
    (codes "nodes", number (unsigned 4)) ∷
    (codes "seeds", array (items_of (map friend_seed_tree (0 ∷ 1 ∷ 2 ∷ 3 ∷ []) ++ map maker_seed_tree ms))) ∷
    (codes "ties", array (items_of (map tie_tree (enumerate_from 0 ms)))) ∷
    (codes "turns", number (unsigned 1000000)) ∷ []))
