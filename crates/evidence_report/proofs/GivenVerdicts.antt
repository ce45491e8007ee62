-- A verdict that is given by its counts, lost nodes and stops.
use Rattle.std.proofs.Common.{◌≡◌, ◌<◌, ◌≤◌, ◌+◌, ℕ, zero, suc, List, [], ◌∷◌, ◌++◌, length, map, replicate, slice_index, refl, ◌∙◌, ap, arith}
use Rattle.std.proofs.lemmas.List.FromFn.{get_or-map-range_with_len, length-map-range_with_len}
use Rattle.crgc_ids.specs.Nodes.{nodes_below}
use Rattle.history_model.specs.declared.events.Event.{Event}
use Rattle.history_model.specs.declared.records.Verdict.{Verdict}
use Rattle.history_model.specs.Cluster.{Cluster}
use Rattle.history_model.specs.Folds.{cut_at, folded, lost_of}
use Rattle.history_model.specs.Sweeps.{IsVerdict, stops_of}

zeros : (n o : ℕ) → slice_index (replicate n 0) o ≡ 0
zeros zero o = refl
zeros (suc n) zero = refl
zeros (suc n) (suc o) = zeros n o

-- after the counts come zeros
within : (xs : List ℕ) (k o : ℕ) → o < length xs → slice_index (xs ++ replicate k 0) o ≡ slice_index xs o
within [] k o below = absurd (omega arith)
within (x ∷ xs) k zero below = refl
within (x ∷ xs) k (suc o) below = within xs k o (omega arith)

after : (xs : List ℕ) (k o : ℕ) → length xs ≤ o → slice_index (xs ++ replicate k 0) o ≡ 0
after [] k o above = zeros k o
after (x ∷ xs) k zero above = absurd (omega arith)
after (x ∷ xs) k (suc o) above = after xs k o (omega arith)

pub given : (cl : Cluster) (m : ℕ) (h : List Event) (v : Verdict) (counts : List ℕ) (k : ℕ) → v.node ≡ m → v.cut ≡ counts ++ replicate k 0
    → counts ≡ map (cut_at cl m h) (nodes_below cl.nodes) → v.lost ≡ lost_of cl (folded cl m h) → v.stops ≡ stops_of cl m h → IsVerdict cl m h v
given cl m h v counts k node cut are lost stops =
    let size : length counts ≡ cl.nodes = ap length are ∙ length-map-range_with_len (cut_at cl m h) 0 cl.nodes in
    record {
      node = node;
      cut = λ o below.
          let same : 0 + o ≡ o = omega arith in
          ap (λ xs. slice_index xs o) cut ∙ within counts k o (omega (arith, size, below)) ∙ ap (λ xs. slice_index xs o) are ∙ get_or-map-range_with_len (cut_at cl m h) 0 cl.nodes o o 0 below same;
      beyond = λ o above. ap (λ xs. slice_index xs o) cut ∙ after counts k o (omega (arith, size, above));
      lost = lost;
      stops = stops;
    }
