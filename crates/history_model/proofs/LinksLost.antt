-- No node leaves the lost ones; at a quiet point they are exactly the nodes that have crashed, as completeness needs.
use Rattle.std.proofs.Common.{◌≡◌, ◌≤◌, ◌<◌, ℕ, zero, suc, true, false, not, List, [], ◌∷◌, ◌++◌, take, sym, ◌∙◌, ap, subst, inl, inr, arith}
use Rattle.std.proofs.lemmas.Bool.{false_from_ne_true, true≢false, not-true, cases_Bool}
use Rattle.std.proofs.lemmas.List.{take_all}
use Rattle.std.specs.List.{filter}
use Rattle.crgc_ids.specs.Members.{IsAmong, IsPart}
use Rattle.crgc_ids.specs.LostNodes.{IsLostSet}
use Rattle.crgc_ids.specs.Nodes.{nodes_below}
use Rattle.crgc_ids.proofs.LostNodesLaws.{lost_nodes-greatest, lost_nodes-grow}
use Rattle.crgc_ids.proofs.MembersLaws.{IsAmong-filter, IsAmong-from_filter, IsAmong-from_range, IsAmong-range}
use Rattle.history_model.specs.declared.events.Event.{Event}
use Rattle.history_model.specs.Cluster.{Cluster}
use Rattle.history_model.specs.State.{is_up}
use Rattle.history_model.specs.Streams.{Notice, delta, window_of, final_of, stream}
use Rattle.history_model.specs.Folds.{cut_at, links_into, final_links, fold_to, folded, is_lost}
use Rattle.history_model.specs.Legal.{IsLegal}
use Rattle.history_model.specs.Quiescent.{IsQuietPoint}
use Rattle.history_model.proofs.LinksStreams.{cut-grows, stream-grows}
use Rattle.history_model.proofs.LinksSettled.{among-lost, closed-final, final_links-from, final_links-member, lost-among, settled}

-- the finals of more bulletins of a longer stream
links_into-more : (d : ℕ) (l : ℕ × ℕ) (c c' : ℕ) (xs more : List Notice) → c ≤ c'
    → IsAmong l (links_into d (take c xs)) → IsAmong l (links_into d (take c' (xs ++ more)))
links_into-more d l zero c' xs more fewer m = absurd m
links_into-more d l (suc c) c' [] more fewer m = absurd m
links_into-more d l (suc c) zero (x ∷ xs) more fewer m = absurd (omega arith)
links_into-more d l (suc c) (suc c') (final_of s facts ∷ xs) more fewer (inl e) = inl e
links_into-more d l (suc c) (suc c') (final_of s facts ∷ xs) more fewer (inr m) = inr (links_into-more d l c c' xs more (omega arith) m)
links_into-more d l (suc c) (suc c') (delta facts ∷ xs) more fewer m = links_into-more d l c c' xs more (omega arith) m
links_into-more d l (suc c) (suc c') (window_of s facts ∷ xs) more fewer m = links_into-more d l c c' xs more (omega arith) m

-- as more is folded, no node leaves the lost ones
pub lost-grows : (cl : Cluster) (q h : List Event) (c c' : ℕ → ℕ) → ((o : ℕ) → c o ≤ c' o) → (n : ℕ)
    → is_lost cl (fold_to cl c h) n ≡ true → is_lost cl (fold_to cl c' (q ++ h)) n ≡ true
lost-grows cl q h c c' more n lost =
    let part : IsPart (final_links cl (fold_to cl c h)) (final_links cl (fold_to cl c' (q ++ h))) = λ l m.
    let final = final_links-from cl (fold_to cl c h) l.0 l.1 m in
    let grows = stream-grows cl l.1 q h in
    let later = links_into-more l.1 l (c l.1) (c' l.1) (stream cl l.1 h) grows.0 (more l.1) final.1 in
    final_links-member cl (fold_to cl c' (q ++ h)) l.0 l.1 final.0 (subst (λ xs. IsAmong l (links_into l.1 (take (c' l.1) xs))) (sym grows.1) later) in
    among-lost cl (fold_to cl c' (q ++ h)) n
    (lost_nodes-grow cl.nodes (final_links cl (fold_to cl c h)) (final_links cl (fold_to cl c' (q ++ h))) part n (lost-among cl (fold_to cl c h) n lost))

-- the same of what is folded at m
pub lost_at-grows : (cl : Cluster) (m : ℕ) (q h : List Event) (n : ℕ) → is_lost cl (folded cl m h) n ≡ true → is_lost cl (folded cl m (q ++ h)) n ≡ true
lost_at-grows cl m q h = lost-grows cl q h (cut_at cl m h) (cut_at cl m (q ++ h)) (cut-grows cl m q h)

-- at a quiet point of m, exactly the crashed nodes are lost at m
pub quiet-lost : (cl : Cluster) (m : ℕ) (h : List Event) → IsLegal cl h → m < cl.nodes → IsQuietPoint cl m h → (n : ℕ) → n < cl.nodes
    → is_lost cl (folded cl m h) n ≡ not (is_up n h)
quiet-lost cl m h legal here quiet n below =
    let f = folded cl m h in
    let down : List ℕ = filter (λ k. not (is_up k h)) (nodes_below cl.nodes) in
    let is_down : (k : ℕ) → k < cl.nodes → is_up k h ≡ false → IsAmong k down = λ k kl gone.
    IsAmong-filter (λ j. not (is_up j h)) k (nodes_below cl.nodes) (IsAmong-range k 0 cl.nodes (omega arith) (omega (arith, kl))) (ap not gone) in
    let final : (s d : ℕ) → s < cl.nodes → d < cl.nodes → is_up s h ≡ false → is_up d h ≡ true
    → IsAmong (s, d) (final_links cl f) = λ s d sl dl gone up.
    let whole : f d ≡ stream cl d h = take_all (cut_at cl m h d) (stream cl d h) (omega (arith, quiet.folded d dl up)) in
    final_links-member cl f s d dl (subst (λ xs. IsAmong (s, d) (links_into d xs)) (sym whole) (closed-final cl h s d (quiet.closed s d sl dl gone up))) in
    let are_lost : IsLostSet cl.nodes (final_links cl f) down = λ s k.
    let found = IsAmong-from_filter (λ j. not (is_up j h)) s (nodes_below cl.nodes) k in
    let range = IsAmong-from_range s 0 cl.nodes found.0 in
    let inside : s < cl.nodes = omega (arith, range) in
    let gone = not-true (is_up s h) found.1 in (
      inside,
      (m, final s m inside here gone quiet.up),
      λ d dl outside. elim (cases_Bool (is_up d h)) [
        | inl up ↦ final s d inside dl gone up
        | inr also ↦ absurd (outside (is_down d dl also))
      ],
    ) in
    elim (cases_Bool (is_up n h)) [
      | inl up ↦ false_from_ne_true (is_lost cl f n) (λ lost. true≢false (sym up ∙ (settled cl h legal (cut_at cl m h)).crashed n lost)) ∙ sym (ap not up)
      | inr gone ↦ among-lost cl f n (lost_nodes-greatest cl.nodes (final_links cl f) down are_lost n (is_down n below gone)) ∙ sym (ap not gone)
    ]
