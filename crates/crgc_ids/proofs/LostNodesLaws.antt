-- The laws of `removed_nodes` and `lost_nodes`.
use Rattle.std.proofs.Common.{◌≡◌, ◌<◌, ◌↔◌, ◌&&◌, ◌||◌, ℕ, Bool, true, false, List, ◌++◌, eqb, refl, sym, ◌∙◌, ap, subst, inl, inr, arith}
use Rattle.std.proofs.lemmas.Bool.{and_parts, eq-eqb, eqb-true, false≢true, or_cases, or_left, or_right}
use Rattle.std.specs.List.{list_any}
use Rattle.crgc_ids.specs.Greatest.{IsMonotone}
use Rattle.crgc_ids.specs.LostNodes.{IsLostSet, has_link, is_cut_off, lost_nodes, removed_nodes}
use Rattle.crgc_ids.specs.Members.{IsAmong, IsPart}
use Rattle.crgc_ids.specs.Nodes.{has_node, nodes_below}
use Rattle.crgc_ids.specs.Rising.{IsRising}
use Rattle.crgc_ids.proofs.GreatestLaws.{greatest-contains, greatest-filters, greatest-fit, greatest-part}
use Rattle.crgc_ids.proofs.MembersLaws.{IsAmong-append_cases, IsAmong-append_left, IsAmong-append_right, IsAmong-filter, IsAmong-from_filter, IsAmong-from_range, IsAmong-range, list_all-members, list_all-true, list_any-member, list_any-true}
use Rattle.crgc_ids.proofs.NodesLaws.{has_node-from_true, has_node-member}
use Rattle.crgc_ids.proofs.RisingLaws.{IsRising-filter, IsRising-range}

link_of_test : (links : List (ℕ × ℕ)) (s d : ℕ) → has_link links s d ≡ true → IsAmong (s, d) links
link_of_test links s d t =
    let found = list_any-true (λ l. eqb s l.0 && eqb d l.1) links t in
    let both = and_parts (eqb s found.0.0) (eqb d found.0.1) found.2 in
    subst (λ x. IsAmong (s, x) links) (sym (eqb-true d found.0.1 both.1))
    (subst (λ x. IsAmong (x, found.0.1) links) (sym (eqb-true s found.0.0 both.0)) found.1)

-- of more nodes outside which less is left, each is cut off
is_cut_off-monotone : (n : ℕ) (links : List (ℕ × ℕ)) → IsMonotone (is_cut_off n links)
is_cut_off-monotone n links xs ys s part t =
    list_all-members (λ d. has_node ys d || has_link links s d) (nodes_below n) (λ d m.
    elim (or_cases (has_node xs d) (has_link links s d) (list_all-true (λ k. has_node xs k || has_link links s k) d (nodes_below n) t m)) [
      | inl inside ↦ or_left (has_node ys d) (has_link links s d) (has_node-member ys d (part d (has_node-from_true xs d inside)))
      | inr linked ↦ or_right (has_node ys d) (has_link links s d) linked
    ])

-- exactly the sources of links are removed
pub removed_nodes-sources : (n : ℕ) (links : List (ℕ × ℕ)) (s : ℕ) → IsAmong s (removed_nodes n links) ↔ ((s < n) × ((d : ℕ) × IsAmong (s, d) links))
removed_nodes-sources n links s = (
  λ h.
      let kept = IsAmong-from_filter (λ k. list_any (λ l. eqb k l.0) links) s (nodes_below n) h in
      let found = list_any-true (λ l. eqb s l.0) links kept.1 in
      let below = IsAmong-from_range s 0 n kept.0 in
      (omega arith, (found.0.1, subst (λ x. IsAmong (x, found.0.1) links) (sym (eqb-true s found.0.0 found.2)) found.1)),
  λ h. IsAmong-filter (λ k. list_any (λ l. eqb k l.0) links) s (nodes_below n) (IsAmong-range s 0 n (omega arith) (omega arith))
      (list_any-member (λ l. eqb s l.0) (s, h.1.0) links h.1.1 (eq-eqb s s refl)),
)

-- the lost nodes are removed and cut off
pub lost_nodes-lost : (n : ℕ) (links : List (ℕ × ℕ)) → IsLostSet n links (lost_nodes n links)
unfolding lost_nodes
lost_nodes-lost n links s h =
    let fit = is_cut_off n links in
    let source = (removed_nodes-sources n links s).0 (greatest-part fit (removed_nodes n links) s h) in
    let cut_off = greatest-fit fit (removed_nodes n links) s h in (
      source.0,
      source.1,
      λ d l outside.
          elim (or_cases (has_node (lost_nodes n links) d) (has_link links s d) (list_all-true (λ k. has_node (lost_nodes n links) k || has_link links s k) d (nodes_below n) cut_off (IsAmong-range d 0 n (omega arith) (omega arith)))) [
            | inl inside ↦ absurd (outside (has_node-from_true (lost_nodes n links) d inside))
            | inr linked ↦ link_of_test links s d linked
          ],
    )

-- each set of removed nodes that are cut off lies within the lost ones
pub lost_nodes-greatest : (n : ℕ) (links : List (ℕ × ℕ)) (xs : List ℕ) → IsLostSet n links xs → IsPart xs (lost_nodes n links)
unfolding lost_nodes
lost_nodes-greatest n links xs lost =
    greatest-contains (is_cut_off n links) (is_cut_off-monotone n links) (removed_nodes n links) xs
    (λ s h. (removed_nodes-sources n links s).1 ((lost s h).0, (lost s h).1))
    (λ s h. list_all-members (λ d. has_node xs d || has_link links s d) (nodes_below n) (λ d m.
    let below = IsAmong-from_range d 0 n m in
    let Reached : Bool → Type 0 = λ b. has_node xs d ≡ b → (b || has_link links s d) ≡ true in
    let reached : Reached (has_node xs d) = elim (has_node xs d) as Reached [
      | true ↦ λ _. refl
      | false ↦ λ outside.
          let link = (lost s h).2 d (omega arith) (λ inside. false≢true (sym outside ∙ has_node-member xs d inside)) in
          list_any-member (λ l. eqb s l.0 && eqb d l.1) (s, d) links link (ap (λ b. b && eqb d d) (eq-eqb s s refl) ∙ eq-eqb d d refl)
    ] in
    reached refl))

-- such sets are closed under union
pub IsLostSet-append : (n : ℕ) (links : List (ℕ × ℕ)) (xs ys : List ℕ) → IsLostSet n links xs → IsLostSet n links ys → IsLostSet n links (xs ++ ys)
IsLostSet-append n links xs ys f g s h =
    elim (IsAmong-append_cases s xs ys h) [
      | inl k ↦ ((f s k).0, (f s k).1, λ d l outside. (f s k).2 d l (λ m. outside (IsAmong-append_left d xs ys m)))
      | inr k ↦ ((g s k).0, (g s k).1, λ d l outside. (g s k).2 d l (λ m. outside (IsAmong-append_right d xs ys m)))
    ]

-- as links are added, no node leaves the removed ones, and none the lost ones
pub removed_nodes-grow : (n : ℕ) (links more : List (ℕ × ℕ)) → IsPart links more → IsPart (removed_nodes n links) (removed_nodes n more)
removed_nodes-grow n links more part s h =
    let source = (removed_nodes-sources n links s).0 h in
    (removed_nodes-sources n more s).1 (source.0, (source.1.0, part (s, source.1.0) source.1.1))

pub lost_nodes-grow : (n : ℕ) (links more : List (ℕ × ℕ)) → IsPart links more → IsPart (lost_nodes n links) (lost_nodes n more)
lost_nodes-grow n links more part =
    lost_nodes-greatest n more (lost_nodes n links) (λ s h.
    let lost = lost_nodes-lost n links s h in
    (lost.0, (lost.1.0, part (s, lost.1.0) lost.1.1), λ d l outside. part (s, d) (lost.2 d l outside)))

pub removed_nodes-rise : (n : ℕ) (links : List (ℕ × ℕ)) → IsRising ◌<◌ (removed_nodes n links)
removed_nodes-rise n links = IsRising-filter ◌<◌ (λ s. list_any (λ l. eqb s l.0) links) (nodes_below n) (IsRising-range 0 n)

pub lost_nodes-rise : (n : ℕ) (links : List (ℕ × ℕ)) → IsRising ◌<◌ (lost_nodes n links)
unfolding lost_nodes
lost_nodes-rise n links =
    let test = greatest-filters (is_cut_off n links) (removed_nodes n links) in
    subst (IsRising ◌<◌) (sym test.1) (IsRising-filter ◌<◌ test.0 (removed_nodes n links) (removed_nodes-rise n links))
