-- What follows where readers see the same in two graphs, and when they do.
use Rattle.std.proofs.Common.{◌≡◌, ◌<◌, ◌≤◌, ◌&&◌, ◌||◌, ℕ, Bool, true, false, cond, count_by, int_lt, not, List, [], ◌∷◌, Some, get_or, length, map, pos, refl, sym, ◌∙◌, ap, arith, zero, suc}
use Rattle.std.proofs.lemmas.Bool.{false≢true}
use Rattle.std.proofs.lemmas.Bool.Decides.{same_from_decides}
use Rattle.std.proofs.lemmas.List.{length-map}
use Rattle.std.proofs.lemmas.List.Sums.{length-filter}
use Rattle.std.proofs.lemmas.Map.Keys.{IsDistinct-from_apart}
use Rattle.std.proofs.lemmas.Map.Steps.{length-le_from_keys}
use Rattle.std.specs.Cmp.{IsEquivalence}
use Rattle.std.specs.List.{IsDistinct, filter, list_any}
use Rattle.std.specs.Map.{lookup}
use Rattle.std.specs.Option.{IsSome}
use Rattle.crgc_ids.proofs.ActorLaws.{same_actor-apart, same_actor-decides}
use Rattle.crgc_ids.proofs.MembersLaws.{IsAmong-filter, IsAmong-from_filter, all-from_members, all-member}
use Rattle.crgc_ids.specs.Actor.{Actor, same_actor}
use Rattle.crgc_ids.specs.Nodes.{has_node}
use Rattle.history_model.proofs.Basics.{same_actor-sym}
use Rattle.history_model.proofs.RisingActors.{among-decides}
use Rattle.history_model.specs.Cluster.{Cluster}
use Rattle.history_model.specs.Folds.{Fold}
use Rattle.edge_table.specs.Table.{no_edge}
use Rattle.shadow_table.specs.Shadows.{blank, is_named, place_in, shadow_at}
use Rattle.shadow_table.specs.declared.table.Shadow.{Shadow}
use Rattle.shadow_graph.proofs.GraphLemmas.{lost-same}
use Rattle.shadow_graph.proofs.OwnersLemmas.{owns-value}
use Rattle.shadow_graph.specs.Graph.{Graph, lost_in}
use Rattle.shadow_graph.specs.Owners.{AreOwners, owns}
use Rattle.shadow_rows.specs.Pairs.{edge_between}
use Rattle.shadow_graph.specs.Places.{ArePlaced, actor_of}
use Rattle.shadow_graph.specs.Same.{AreSame, edge_value}
use Rattle.shadow_graph.specs.Seen.{is_dropped, is_known}
use Rattle.shadow_graph.specs.Stands.{IsGraphOf}
use Rattle.shadow_rows.specs.Tabled.{no_actor}

-- ---- two graphs that stand for one fold

same-shadow : (s t : Shadow) → s.received ≡ t.received → s.told ≡ t.told → s.admitted ≡ t.admitted → s.flags ≡ t.flags → s.dropped ≡ t.dropped → s ≡ t
same-shadow s t p q r f d = λ i. record { received = p i; told = q i; admitted = r i; flags = f i; dropped = d i }

module _ (cl : Cluster) (f : Fold) (g h : Graph) (stands : IsGraphOf cl f g) (stands' : IsGraphOf cl f h) (dropped : (a : Actor) → is_dropped g a ≡ is_dropped h a) where
  named-same : (a : Actor) → is_named g.shadows.names a ≡ is_named h.shadows.names a
  named-same a = same_from_decides (is_named g.shadows.names a) (is_named h.shadows.names a) (among-decides g.shadows.names a) (
    (λ t. (stands.known a).1 ((stands'.known a).0 ((among-decides h.shadows.names a).0 t))),
    (λ m. (among-decides h.shadows.names a).1 ((stands'.known a).1 ((stands.known a).0 m))),
  )

  shadow-same : (a : Actor) → shadow_at g.shadows a ≡ shadow_at h.shadows a
  shadow-same a = same-shadow (shadow_at g.shadows a) (shadow_at h.shadows a)
      (stands.counts.received a ∙ sym (stands'.counts.received a))
      (stands.counts.told a ∙ sym (stands'.counts.told a))
      (stands.counts.admitted a ∙ sym (stands'.counts.admitted a))
      (stands.counts.flags a ∙ sym (stands'.counts.flags a))
      (dropped a)

  count-same : (b a : Actor) → (edge_between g.edges b a).count ≡ (edge_between h.edges b a).count
  count-same b a = stands.counts.count b a ∙ sym (stands'.counts.count b a)

  value-same : (b a : Actor) → edge_value g b a ≡ edge_value h b a
  value-same b a =
      ap (λ v. (cond v no_edge (edge_between g.edges b a)).count) (dropped a)
      ∙ either (is_dropped h a)
    where
      either : (v : Bool) → (cond v no_edge (edge_between g.edges b a)).count ≡ (cond v no_edge (edge_between h.edges b a)).count
      either true = refl
      either false = count-same b a

  pub fold-same : AreSame g h
  fold-same = record {
    actors = λ a. record {
      known = λ i. named-same a i && not (dropped a i);
      shadow = ap (λ (s : Shadow). cond s.dropped blank s) (shadow-same a);
    };
    edges = λ b a. record { value = value-same b a };
    lost = lost-same cl f g stands ∙ sym (lost-same cl f h stands');
  }

-- ---- owners

owns-same : (g h : Graph) → AreSame g h → (b a : Actor) → owns g b a ≡ owns h b a
owns-same g h same b a =
    sym (owns-value g b a (edge_value g b a) (int_lt (pos 0) (edge_value g b a) && not (has_node (lost_in g) b.node)) refl refl)
    ∙ (λ i. int_lt (pos 0) ((same.edges b a).value i) && not (has_node (same.lost i) b.node))
    ∙ owns-value h b a (edge_value h b a) (int_lt (pos 0) (edge_value h b a) && not (has_node (lost_in h) b.node)) refl refl

pub owners-same : (g h : Graph) (a : Actor) (bs : List Actor) → AreSame g h → AreOwners g a bs → AreOwners h a bs
owners-same g h a bs same are = record {
  rising = are.rising;
  owners = λ b. ((λ m. sym (owns-same g h same b a) ∙ (are.owners b).0 m), (λ t. (are.owners b).1 (owns-same g h same b a ∙ t)));
}

-- ---- how many actors are known

same_actor-laws : IsEquivalence same_actor
same_actor-laws = record {
  refl = λ a. (same_actor-decides a a).1 refl;
  symm = same_actor-sym;
  congr = λ a b c t. ap (λ x. same_actor x c) ((same_actor-decides a b).0 t);
}

-- each actor of a graph has one place
names-distinct : (g : Graph) → ArePlaced g → IsDistinct same_actor g.shadows.names
names-distinct g placed = IsDistinct-from_apart same_actor g.shadows.names (λ i j d less inside.
    let in_i : i < length g.shadows.names = omega (arith, less, inside) in
    same_actor-apart (get_or g.shadows.names i d) (get_or g.shadows.names j d) (λ e. (
    let same : actor_of g i ≡ actor_of g j = default-apart g.shadows.names i d in_i ∙ e ∙ sym (default-apart g.shadows.names j d inside) in
    let place : i ≡ j = sym (placed.actor i in_i).1 ∙ ap (place_in g.shadows.names) same ∙ (placed.actor j inside).1 in
    absurd (omega (arith, less, place))
    )))
  where
    default-apart : (xs : List Actor) (k : ℕ) (d : Actor) → k < length xs → get_or xs k no_actor ≡ get_or xs k d
    default-apart [] k d inside = absurd (omega arith)
    default-apart (x ∷ xs) zero d inside = refl
    default-apart (x ∷ xs) (suc k) d inside = default-apart xs k d (omega arith)

filter-distinct : (test : Actor → Bool) (xs : List Actor) → IsDistinct same_actor xs → IsDistinct same_actor (filter test xs)
unfolding IsDistinct
filter-distinct test [] distinct = tt
filter-distinct test (x ∷ xs) distinct =
    let later = filter-distinct test xs distinct.1 in
    let apart = all-from_members (λ y. same_actor x y ≡ false) (filter test xs) (λ y h. all-member (λ y. same_actor x y ≡ false) y xs distinct.0 (IsAmong-from_filter test y xs h).0) in
    elim (test x) as (λ b. IsDistinct same_actor (cond b (x ∷ filter test xs) (filter test xs))) [ true ↦ (apart, later) | false ↦ later ]

among-keys : (q : Actor) (ys : List Actor) → list_any (same_actor q) ys ≡ true → IsSome (lookup (same_actor q) (map (λ a. (a, a)) ys))
among-keys q [] t = absurd (false≢true t)
among-keys q (y ∷ ys) t =
    let Case : Bool → Type 0 = λ b. (b || list_any (same_actor q) ys) ≡ true → IsSome (cond b (Some y) (lookup (same_actor q) (map (λ a. (a, a)) ys))) in
    let case : Case (same_actor q y) = elim (same_actor q y) as Case [ true ↦ λ _. refl | false ↦ among-keys q ys ] in
    case t

fewer-known : (g h : Graph) → ArePlaced g → ((a : Actor) → is_known g a ≡ true → is_known h a ≡ true) → count_by (is_known g) g.shadows.names ≤ count_by (is_known h) h.shadows.names
fewer-known g h placed known =
    let xs = filter (is_known g) g.shadows.names in
    let ys = filter (is_known h) h.shadows.names in
    let there = λ (q : Actor) (t : list_any (same_actor q) xs ≡ true). (
    let kept = IsAmong-from_filter (is_known g) q g.shadows.names ((among-decides xs q).0 t) in
    let is = known q kept.1 in
    among-keys q ys ((among-decides ys q).1 (IsAmong-filter (is_known h) q h.shadows.names ((among-decides h.shadows.names q).0 (known-named (is_named h.shadows.names q) (is_dropped h q) is)) is))
    ) in
    let short = length-le_from_keys same_actor-laws xs (map (λ a. (a, a)) ys) (filter-distinct (is_known g) g.shadows.names (names-distinct g placed)) there in
    let all = length-map {B = Actor × Actor} ys (λ a. (a, a)) in
    let left = length-filter (is_known g) g.shadows.names in
    let right = length-filter (is_known h) h.shadows.names in
    omega (arith, short, all, left, right)
  where
    known-named : (v w : Bool) → (v && not w) ≡ true → v ≡ true
    known-named true w t = refl
    known-named false w t = t

pub known-count-same : (g h : Graph) → ArePlaced g → ArePlaced h → AreSame g h → count_by (is_known g) g.shadows.names ≡ count_by (is_known h) h.shadows.names
known-count-same g h placed placed' same =
    let fewer = fewer-known g h placed (λ a t. sym (same.actors a).known ∙ t) in
    let more = fewer-known h g placed' (λ a t. (same.actors a).known ∙ t) in
    omega (arith, fewer, more)
