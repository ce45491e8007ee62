-- Folds: what a collector has read of each origin's stream, and the nodes that it finds lost.
use Rattle.std.specs.Prelude.{ℕ, zero, suc, ◌==◌, Bool, false, ◌&&◌, if◌then◌else◌, List, [], ◌∷◌, length, take, flat_map}
use Rattle.std.specs.List.{list_any}
use Rattle.crgc_ids.specs.LostNodes.{lost_nodes}
use Rattle.crgc_ids.specs.Nodes.{nodes_below, has_node}
use Rattle.history_model.specs.declared.events.Event.{Event}
use Rattle.history_model.specs.declared.events.Event.TheVariants.{Hand}
use Rattle.history_model.specs.Cluster.{Cluster}
use Rattle.history_model.specs.Streams.{Notice, final_of, stream}

-- what is folded of each origin: the first bulletins of its stream
abbrev pub Fold : Type 0
Fold = ℕ → List Notice

-- the first c o bulletins of each stream
abbrev pub fold_to : Cluster → (ℕ → ℕ) → List Event → Fold
fold_to cl c h = λ o. take (c o) (stream cl o h)

abbrev pub is_hand : ℕ → ℕ → ℕ → Event → Bool
is_hand m o k (Hand y x n) = (y == m) && ((x == o) && (n == k))
is_hand m o k _ = false

-- whether bulletin k of o was handed to m
abbrev pub was_handed : ℕ → ℕ → ℕ → List Event → Bool
was_handed m o k h = list_any (is_hand m o k) h

-- the longest run of numbers from 0 that pass, up to n of them
abbrev pub run_of : (ℕ → Bool) → ℕ → ℕ
run_of test zero = 0
run_of test (suc n) = if (run_of test n == n) && test n then suc n else run_of test n

-- how many bulletins of o are folded at m: the longest run of handed numbers from 0
abbrev pub cut_at : Cluster → ℕ → List Event → ℕ → ℕ
cut_at cl m h o = run_of (λ k. was_handed m o k h) (length (stream cl o h))

-- what is folded at m
abbrev pub folded : Cluster → ℕ → List Event → Fold
folded cl m h = fold_to cl (cut_at cl m h) h

-- the links into d whose finals are among the bulletins
abbrev pub links_into : ℕ → List Notice → List (ℕ × ℕ)
links_into d [] = []
links_into d (final_of s facts ∷ rest) = (s, d) ∷ links_into d rest
links_into d (_ ∷ rest) = links_into d rest

-- the links whose final is folded
abbrev pub final_links : Cluster → Fold → List (ℕ × ℕ)
final_links cl f = flat_map (λ d. links_into d (f d)) (nodes_below cl.nodes)

-- the nodes that the fold shows as lost
abbrev pub lost_of : Cluster → Fold → List ℕ
lost_of cl f = lost_nodes cl.nodes (final_links cl f)

abbrev pub is_lost : Cluster → Fold → ℕ → Bool
is_lost cl f n = has_node (lost_of cl f) n
