-- A set of removed nodes from which members that are not cut off are taken away.
use Rattle.std.proofs.Common.{◌≡◌, ◌<◌, ◌⊎◌, ◌||◌, ◌&&◌, ℕ, Bool, true, false, List, length, refl, sym, ◌∙◌, ap, subst, inl, inr, arith}
use Rattle.std.proofs.lemmas.Bool.{and_parts, false≢true, or_cases}
use Rattle.std.specs.List.{AllByRecursion, filter}
use Rattle.crgc_ids.proofs.LostNodesLaws.{lost_nodes-greatest, lost_nodes-grow, lost_nodes-lost, lost_nodes-rise, removed_nodes-grow, removed_nodes-rise, removed_nodes-sources}
use Rattle.crgc_ids.proofs.MembersLaws.{IsAmong-filter, IsAmong-from_filter, IsAmong-from_range, IsAmong-range, filter_shortens, list_all-members, list_all-true}
use Rattle.crgc_ids.proofs.NodesLaws.{has_node-from_true, has_node-member}
use Rattle.crgc_ids.proofs.RisingLaws.{IsRising-filter, IsRising-range, rising_nodes-same}
use Rattle.crgc_ids.specs.LostNodes.{has_link, is_cut_off, lost_nodes, removed_nodes}
use Rattle.crgc_ids.specs.Members.{IsAmong, IsPart}
use Rattle.crgc_ids.specs.Nodes.{has_node, nodes_below}
use Rattle.crgc_ids.specs.Rising.{IsRising}
use Rattle.membership.proofs.LinksLemmas.{has_link-decides}
use Rattle.membership.proofs.SetsLemmas.{filter-below, filter-members}

-- a set on the way from the removed nodes to the lost ones
pub record IsBetween (n : ℕ) (links : List (ℕ × ℕ)) (xs : List ℕ) : Type 0 where
  pub rising : IsRising ◌<◌ xs
  pub below : AllByRecursion (λ x. x < n) xs
  pub removed : IsPart xs (removed_nodes n links)
  pub lost : IsPart (lost_nodes n links) xs

module _ (n : ℕ) (links : List (ℕ × ℕ)) where
  -- the members that are cut off from the nodes outside
  abbrev pub kept : List ℕ → List ℕ
  kept xs = filter (λ s. has_node xs s && is_cut_off n links xs s) (nodes_below n)

  pub removed_is_between : IsBetween n links (removed_nodes n links)
  removed_is_between = record {
    rising = removed_nodes-rise n links;
    below = filter-below _ n;
    removed = λ s h. h;
    lost = λ s h. let source = lost_nodes-lost n links s h in (removed_nodes-sources n links s).1 (source.0, source.1);
  }

  -- a lost node is cut off from the nodes outside a set of all lost nodes
  lost_is_cut_off : (xs : List ℕ) → IsPart (lost_nodes n links) xs → (s : ℕ) → IsAmong s (lost_nodes n links) → is_cut_off n links xs s ≡ true
  lost_is_cut_off xs part s h =
      list_all-members (λ d. has_node xs d || has_link links s d) (nodes_below n) (λ d m.
      let range = IsAmong-from_range d 0 n m in
      let Reached : Bool → Type 0 = λ b. has_node xs d ≡ b → (b || has_link links s d) ≡ true in
      let reached : Reached (has_node xs d) = elim (has_node xs d) as Reached [
        | true ↦ λ _. refl
        | false ↦ λ outside. (has_link-decides links s d).1 ((lost_nodes-lost n links s h).2 d (omega arith) (λ inside. false≢true (sym outside ∙ has_node-member xs d (part d inside))))
      ] in
      reached refl)

  -- what is kept is on the way too
  pub kept_is_between : (xs : List ℕ) → IsBetween n links xs → IsBetween n links (kept xs)
  kept_is_between xs between =
      let test = λ (s : ℕ). has_node xs s && is_cut_off n links xs s in
      record {
        rising = IsRising-filter ◌<◌ test (nodes_below n) (IsRising-range 0 n);
        below = filter-below test n;
        removed = λ s h.
            let both = and_parts (has_node xs s) (is_cut_off n links xs s) (IsAmong-from_filter test s (nodes_below n) h).1 in
            between.removed s (has_node-from_true xs s both.0);
        lost = λ s h.
            let below = (lost_nodes-lost n links s h).0 in
            IsAmong-filter test s (nodes_below n) (IsAmong-range s 0 n (omega arith) (omega arith))
            (ap (λ b. b && is_cut_off n links xs s) (has_node-member xs s (between.lost s h)) ∙ lost_is_cut_off xs between.lost s h);
      }

  -- it is the same set, or it has fewer members
  pub kept_shortens : (xs : List ℕ) → IsBetween n links xs → (kept xs ≡ xs) ⊎ (length (kept xs) < length xs)
  kept_shortens xs between =
      subst (λ ys. (ys ≡ xs) ⊎ (length ys < length xs)) (sym (filter-members n (is_cut_off n links xs) xs between.rising between.below))
      (filter_shortens (is_cut_off n links xs) xs)

  -- a set of which all is kept is the set of the lost nodes
  pub kept_all : (xs : List ℕ) → IsBetween n links xs → kept xs ≡ xs → xs ≡ lost_nodes n links
  kept_all xs between all =
      let test = λ (s : ℕ). has_node xs s && is_cut_off n links xs s in
      rising_nodes-same xs (lost_nodes n links) between.rising (lost_nodes-rise n links)
      (lost_nodes-greatest n links xs (λ s h.
      let source = (removed_nodes-sources n links s).0 (between.removed s h) in
      let passes = (IsAmong-from_filter test s (nodes_below n) (subst (IsAmong s) (sym all) h)).1 in
      let cut_off = (and_parts (has_node xs s) (is_cut_off n links xs s) passes).1 in (
        source.0,
        source.1,
        λ d l outside. elim (or_cases (has_node xs d) (has_link links s d) (list_all-true (λ k. has_node xs k || has_link links s k) d (nodes_below n) cut_off (IsAmong-range d 0 n (omega arith) (omega arith)))) [
          | inl inside ↦ absurd (outside (has_node-from_true xs d inside))
          | inr linked ↦ (has_link-decides links s d).0 linked
        ],
      )))
      between.lost

-- the removed and the lost nodes depend on the links alone
pub removed_nodes-same : (n : ℕ) (links more : List (ℕ × ℕ)) → IsPart links more → IsPart more links → removed_nodes n links ≡ removed_nodes n more
removed_nodes-same n links more p q =
    rising_nodes-same (removed_nodes n links) (removed_nodes n more) (removed_nodes-rise n links) (removed_nodes-rise n more) (removed_nodes-grow n links more p) (removed_nodes-grow n more links q)

pub lost_nodes-same : (n : ℕ) (links more : List (ℕ × ℕ)) → IsPart links more → IsPart more links → lost_nodes n links ≡ lost_nodes n more
lost_nodes-same n links more p q =
    rising_nodes-same (lost_nodes n links) (lost_nodes n more) (lost_nodes-rise n links) (lost_nodes-rise n more) (lost_nodes-grow n links more p) (lost_nodes-grow n more links q)
