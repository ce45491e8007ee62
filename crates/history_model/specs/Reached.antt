-- Reachability from pseudoroots, in a sweep that leaves actors out. A known actor that is not left out is dead exactly
-- where no such chain ends with it.
use Rattle.std.specs.Prelude.{ℕ, ◌≡◌, Bool, true, false, List, [], ◌∷◌}
use Rattle.crgc_ids.specs.Actor.{Actor}
use Rattle.history_model.specs.Cluster.{Cluster}
use Rattle.history_model.specs.Folds.{Fold}
use Rattle.history_model.specs.Graph.{has_edge, is_pseudoroot}

-- from r over the actors of the list: each is not left out and has a positive edge to the next, the last to a
abbrev pub IsChain : Cluster → (ℕ → Bool) → (Actor → Bool) → Fold → Actor → List Actor → Actor → Type 0
IsChain cl lost out f r [] a = r ≡ a
IsChain cl lost out f r (b ∷ bs) a =
    (out r ≡ false) × (has_edge cl lost f r b ≡ true) × IsChain cl lost out f b bs a

-- some chain of positive edges leads from a pseudoroot to a, over actors that are not left out
abbrev pub IsReachedWithout : Cluster → (ℕ → Bool) → (Actor → Bool) → Fold → Actor → Type 0
IsReachedWithout cl lost out f a =
    (r : Actor) × (bs : List Actor) × (is_pseudoroot cl lost f r ≡ true) × IsChain cl lost out f r bs a

-- where the actors of lost nodes are left out
abbrev pub IsReached : Cluster → (ℕ → Bool) → Fold → Actor → Type 0
IsReached cl lost f a = IsReachedWithout cl lost (λ b. lost b.node) f a
