-- The actors of nodes whose serials are flagged, in order.
use Rattle.std.specs.Prelude.{ℕ, zero, suc, ◌+◌, ◌*◌, List, [], ◌∷◌, ◌++◌, if◌then◌else◌, length}
use Rattle.crgc_ids.specs.Actor.{Actor}
use Rattle.ready_actors.specs.Flags.{has_flag}

-- the actors of the node whose serials are below this number and flagged
abbrev pub actors_below : ℕ → List ℕ → ℕ → List Actor
actors_below n words zero = []
actors_below n words (suc k) = actors_below n words k ++ (if has_flag words k then (record { node = n; serial = k }) ∷ [] else [])

-- the actors of the nodes from this number on, by the flags of their serials
abbrev pub actors_from : ℕ → List (List ℕ) → List Actor
actors_from n [] = []
actors_from n (words ∷ nodes) = actors_below n words (64 * length words) ++ actors_from (n + 1) nodes
