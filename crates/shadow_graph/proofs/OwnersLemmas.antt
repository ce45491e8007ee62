-- The owners of references to an actor.
use Rattle.std.proofs.Common.{◌≡◌, ◌<◌, ◌+◌, ◌&&◌, ◌-ℤ◌, ℕ, ℤ, Bool, true, false, cond, int_lt, not, List, [], ◌∷◌, ◌++◌, get_or, length, map, nat_lt, pos, refl, sym, take, ◌∙◌, ap, subst, inl, arith}
use Rattle.std.proofs.lemmas.Bool.{false≢true}
use Rattle.std.proofs.lemmas.Int.{ints}
use Rattle.std.proofs.lemmas.List.{append-nil, take_more}
use Rattle.std.proofs.lemmas.List.Sorted.{list_any-IsPermutation}
use Rattle.std.proofs.lemmas.Map.Keys.{IsDistinct-IsPermutation, apart_from_distinct, sorted_from_all_adjacent}
use Rattle.std.specs.List.{AllByRecursion, IsDistinct, filter, flat_map}
use Rattle.std.specs.List.Sorted.{IsPermutation, IsSorted, IsStrictlySortedBy}
use Rattle.std.specs.Ordering.{MatchOrdering, is_lt}
use Rattle.std.specs.declared.cmp.Ordering.{Ordering}
use Rattle.std.specs.declared.cmp.Ordering.TheVariants.{Equal, Greater, Less}
use Rattle.crgc_ids.proofs.ActorLaws.{IsActorBelow-apart, IsActorBelow-trans, same_actor-decides}
use Rattle.crgc_ids.proofs.ActorOrder.{actor_cmp-below, actor_cmp-tells, actor_cmp-total}
use Rattle.crgc_ids.proofs.MembersLaws.{IsAmong-filter, IsAmong-from_filter}
use Rattle.crgc_ids.proofs.RisingLaws.{IsRising-filter, rising-same}
use Rattle.crgc_ids.specs.Actor.{Actor, IsActorBelow, actor_cmp, same_actor}
use Rattle.crgc_ids.specs.Members.{IsAmong}
use Rattle.crgc_ids.specs.Nodes.{has_node, nodes_below}
use Rattle.crgc_ids.specs.Rising.{IsRising}
use Rattle.history_model.proofs.Basics.{same_actor-sym}
use Rattle.history_model.proofs.RisingActors.{among-decides, rising_actors-rise}
use Rattle.history_model.specs.Cluster.{Cluster}
use Rattle.history_model.specs.Folds.{Fold, is_lost}
use Rattle.history_model.specs.Graph.{has_edge, known_actors, named_by, notice_facts, released_count}
use Rattle.history_model.specs.Sweeps.{stop_of}
use Rattle.edge_table.specs.Table.{is_positive, no_edge}
use Rattle.edge_table.specs.declared.table.Edge.{Edge}
use Rattle.shadow_table.specs.Shadows.{is_named, place_in}
use Rattle.shadow_graph.proofs.GraphLemmas.{lost-same}
use Rattle.shadow_graph.proofs.PlacedLemmas.{among-from_map, among-map, distinct-filter, distinct-map}
use Rattle.shadow_graph.proofs.SeenLemmas.{none-passes}
use Rattle.shadow_graph.specs.Graph.{Graph, lost_in}
use Rattle.shadow_graph.specs.Owners.{AreOwners, owners_at, owns}
use Rattle.shadow_rows.specs.Pairs.{edge_between, has_pair}
use Rattle.shadow_graph.specs.Places.{ArePlaced, actor_of, owners_of}
use Rattle.shadow_graph.specs.Seen.{is_dropped, seen_edge}
use Rattle.shadow_graph.specs.Stands.{IsGraphOf}

-- ---- what the code tests

-- a difference is positive where the first number is the greater
pub positive-less : (more less : ℕ) → int_lt (pos 0) (pos more -ℤ pos less) ≡ nat_lt less more
positive-less more less = grind (arith, ints)

owns-by : (lost positive : Bool) (r : Bool) → r ≡ (positive && not lost) → r ≡ (not lost && positive)
owns-by true true r tells = tells
owns-by true false r tells = tells
owns-by false true r tells = tells
owns-by false false r tells = tells

pub owns-value : (g : Graph) (b a : Actor) (value : ℤ) (r : Bool) → value ≡ (seen_edge g b a).count → r ≡ (int_lt (pos 0) value && not (has_node (lost_in g) b.node)) → r ≡ owns g b a
owns-value g b a value r is tells = owns-by (has_node (lost_in g) b.node) (is_positive (seen_edge g b a)) r (tells ∙ ap (λ v. int_lt (pos 0) v && not (has_node (lost_in g) b.node)) is)

-- one place more
pub owner-none : (g : Graph) (a : Actor) (k : ℕ) (xs : List Actor) → owns g (actor_of g k) a ≡ false → xs ≡ xs ++ owners_at g a (k ∷ [])
owner-none g a k xs none = sym (append-nil xs) ∙ ap (λ v. xs ++ map (actor_of g) (cond v (k ∷ []) [])) (sym none)

pub owner-more : (g : Graph) (a b : Actor) (k : ℕ) (xs ys : List Actor) → owns g (actor_of g k) a ≡ true → b ≡ actor_of g k → ys ≡ xs ++ b ∷ [] → ys ≡ xs ++ owners_at g a (k ∷ [])
owner-more g a b k xs ys owner is pushed = pushed ∙ ap (λ c. xs ++ c ∷ []) is ∙ ap (λ v. xs ++ map (actor_of g) (cond v (k ∷ []) [])) (sym owner)

owners-append : (g : Graph) (a : Actor) (ps qs : List ℕ) → owners_at g a (ps ++ qs) ≡ owners_at g a ps ++ owners_at g a qs
owners-append g a [] qs = refl
owners-append g a (p ∷ ps) qs =
    let later = owners-append g a ps qs in
    elim (owns g (actor_of g p) a) as (λ v. map (actor_of g) (cond v (p ∷ filter (λ p. owns g (actor_of g p) a) (ps ++ qs)) (filter (λ p. owns g (actor_of g p) a) (ps ++ qs))) ≡ map (actor_of g) (cond v (p ∷ filter (λ p. owns g (actor_of g p) a) ps) (filter (λ p. owns g (actor_of g p) a) ps)) ++ owners_at g a qs) [
      | true ↦ ap (λ bs. actor_of g p ∷ bs) later
      | false ↦ later
    ]

pub owners-next : (g : Graph) (a : Actor) (ps : List ℕ) (i : ℕ) (was now : List Actor) → i < length ps → was ≡ owners_at g a (take i ps) → now ≡ was ++ owners_at g a (get_or ps i 0 ∷ []) → now ≡ owners_at g a (take (i + 1) ps)
owners-next g a ps i was now inside before is =
    is ∙ ap (λ bs. bs ++ owners_at g a (get_or ps i 0 ∷ [])) before
    ∙ sym (owners-append g a (take i ps) (get_or ps i 0 ∷ [])) ∙ ap (owners_at g a) (sym (take_more ps i 0 inside))

-- nobody owns an actor that was not named
pub unnamed-owners : (g : Graph) → ArePlaced g → (a : Actor) → is_named g.shadows.names a ≡ false → owners_at g a (owners_of g (place_in g.shadows.names a)) ≡ []
unnamed-owners g placed a none =
    let past : place_in g.shadows.names a ≡ length g.shadows.names = none-passes (same_actor a) g.shadows.names none in
    ap (owners_at g a) (empty (owners_of g (place_in g.shadows.names a)) (λ p h. (let inside = ((placed.owners p (place_in g.shadows.names a)).0 h).1 in absurd (omega arith))))
  where
    empty : (xs : List ℕ) → ((x : ℕ) → IsAmong x xs → ⊥) → xs ≡ []
    empty [] none = refl
    empty (x ∷ xs) none = absurd (none x (inl refl))

-- ---- who owns

both-true : (a b : Bool) → (a && b) ≡ true → (a ≡ true) × (b ≡ true)
both-true true b e = (refl, e)
both-true false b e = absurd (false≢true e)

positive-parts : (dropped : Bool) (e : Edge) → is_positive (cond dropped no_edge e) ≡ true → is_positive e ≡ true
positive-parts true e t = absurd (false≢true t)
positive-parts false e t = t

nothing-positive : (e : Edge) → e ≡ no_edge → is_positive e ≡ true → ⊥
nothing-positive e is t = false≢true (ap is_positive (sym is) ∙ t)

owns-there : (g : Graph) → ArePlaced g → (b a : Actor) → owns g b a ≡ true → has_pair g.edges.pairs b a ≡ true
owns-there g placed b a owner =
    let positive = positive-parts (is_dropped g a) (edge_between g.edges b a) (both-true (not (has_node (lost_in g) b.node)) _ owner).1 in
    let Case : Bool → Type 0 = λ v. has_pair g.edges.pairs b a ≡ v → v ≡ true in
    let case : Case (has_pair g.edges.pairs b a) = elim (has_pair g.edges.pairs b a) as Case [
      | true ↦ λ _. refl
      | false ↦ λ apart. absurd (nothing-positive (edge_between g.edges b a) (placed.none b a apart) positive)
    ] in
    case refl

module _ (g : Graph) (placed : ArePlaced g) (a : Actor) where
  -- the places of the owners of edges to a
  abbrev places_of : List ℕ
  places_of = owners_of g (place_in g.shadows.names a)

  owner-owns : (b : Actor) → IsAmong b (owners_at g a places_of) → owns g b a ≡ true
  owner-owns b h =
      let found = among-from_map (actor_of g) b (filter (λ p. owns g (actor_of g p) a) places_of) h in
      ap (λ c. owns g c a) found.2 ∙ (IsAmong-from_filter (λ p. owns g (actor_of g p) a) found.0 places_of found.1).1

  owns-owner : (b : Actor) → owns g b a ≡ true → IsAmong b (owners_at g a places_of)
  owns-owner b owner =
      let there = owns-there g placed b a owner in
      let both = placed.named b a there in
      let at_b = placed.place b both.0 in
      let at_a = placed.place a both.1 in
      let p = place_in g.shadows.names b in
      let pair = (λ i. has_pair g.edges.pairs (at_b.1 i) (at_a.1 i)) ∙ there in
      let listed = (placed.owners p (place_in g.shadows.names a)).1 (at_b.0, at_a.0, pair) in
      let kept = IsAmong-filter (λ q. owns g (actor_of g q) a) p places_of listed (ap (λ c. owns g c a) at_b.1 ∙ owner) in
      subst (λ c. IsAmong c (owners_at g a places_of)) at_b.1 (among-map (actor_of g) p (filter (λ q. owns g (actor_of g q) a) places_of) kept)

  owners-distinct : IsDistinct same_actor (owners_at g a places_of)
  owners-distinct =
      distinct-map same_actor same_actor-decides (actor_of g) (filter (λ p. owns g (actor_of g p) a) places_of)
      (distinct-filter (λ p. owns g (actor_of g p) a) places_of (placed.owners_once (place_in g.shadows.names a))) (λ n m h k same. (
      let n_in = ((placed.owners n (place_in g.shadows.names a)).0 (IsAmong-from_filter (λ p. owns g (actor_of g p) a) n places_of h).0).0 in
      let m_in = ((placed.owners m (place_in g.shadows.names a)).0 (IsAmong-from_filter (λ p. owns g (actor_of g p) a) m places_of k).0).0 in
      sym (placed.actor n n_in).1 ∙ ap (place_in g.shadows.names) same ∙ (placed.actor m m_in).1
      ))

-- ---- sorted, they rise

below-from_cmp : (x y : Actor) → is_lt (actor_cmp y x) ≡ false → same_actor x y ≡ false → actor_cmp x y ≡ Less
below-from_cmp x y not_below apart = go (actor_cmp x y) (actor_cmp-tells x y) refl
  where
    go : (o : Ordering) → MatchOrdering o (IsActorBelow x y) (x ≡ y) (IsActorBelow y x) → actor_cmp x y ≡ o → actor_cmp x y ≡ Less
    go Less m e = e
    go Equal m e = absurd (false≢true (sym apart ∙ (same_actor-decides x y).1 m))
    go Greater m e = absurd (false≢true (sym not_below ∙ ap is_lt (actor_cmp-below y x m)))

strict-rises : (xs : List Actor) → IsStrictlySortedBy actor_cmp xs → IsRising IsActorBelow xs
unfolding IsStrictlySortedBy
strict-rises [] h = tt
strict-rises (x ∷ xs) h = (all-below x xs h.0, strict-rises xs h.1)
  where
    all-below : (x : Actor) (xs : List Actor) → AllByRecursion (λ y. actor_cmp x y ≡ Less) xs → AllByRecursion (IsActorBelow x) xs
    all-below x [] h = tt
    all-below x (y ∷ ys) h = (subst (λ o. MatchOrdering o (IsActorBelow x y) (x ≡ y) (IsActorBelow y x)) h.0 (actor_cmp-tells x y), all-below x ys h.1)

pub sorted-owners : (g : Graph) → ArePlaced g → (a : Actor) (sorted : List Actor) → IsPermutation (owners_at g a (owners_of g (place_in g.shadows.names a))) sorted → IsSorted actor_cmp sorted → AreOwners g a sorted
sorted-owners g placed a sorted moved up =
    let names = owners_at g a (owners_of g (place_in g.shadows.names a)) in
    let same : (b : Actor) → is_named names b ≡ is_named sorted b = λ b. list_any-IsPermutation (same_actor b) names sorted moved in
    let distinct = IsDistinct-IsPermutation same_actor same_actor-sym names sorted moved (owners-distinct g placed a) in
    record {
      rising = strict-rises sorted (sorted_from_all_adjacent actor_cmp-total sorted a (λ k inside. (
          let next : k < k + 1 = omega arith in
          below-from_cmp (get_or sorted k a) (get_or sorted (k + 1) a) (up k a (omega arith) inside) (apart_from_distinct same_actor sorted k (k + 1) a distinct next inside)
          )));
      owners = λ b. (
        (λ h. owner-owns g placed a b ((among-decides names b).0 (same b ∙ (among-decides sorted b).1 h))),
        (λ t. (among-decides sorted b).0 (sym (same b) ∙ (among-decides names b).1 (owns-owner g placed a b t))),
      );
    }

-- ---- they are those of a stop

pub owners-stop : (g : Graph) → ArePlaced g → (a : Actor) (owners : List Actor) → AreOwners g a owners → (cl : Cluster) (f : Fold) → IsGraphOf cl f g → is_dropped g a ≡ false → owners ≡ (stop_of cl (is_lost cl f) f a).owners
owners-stop g placed a owners are cl f stands kept =
    let test : Actor → Bool = λ b. not (is_lost cl f b.node) && has_edge cl (is_lost cl f) f b a in
    let same : (b : Actor) → owns g b a ≡ test b = λ b.
    ap (λ v. not (has_node (lost_in g) b.node) && is_positive (cond v no_edge (edge_between g.edges b a))) kept
    ∙ (λ i. not (has_node (lost-same cl f g stands i) b.node) && int_lt (pos 0) (stands.counts.count b a i))
    ∙ ap (λ v. not (is_lost cl f b.node) && v) (positive-less _ (released_count cl f b a)) in
    let known : (b : Actor) → is_named g.shadows.names b ≡ true → IsAmong b (known_actors cl f) = λ b named. (stands.known b).0 ((among-decides g.shadows.names b).0 named) in
    rising-same IsActorBelow IsActorBelow-apart IsActorBelow-trans owners (filter test (known_actors cl f)) are.rising (IsRising-filter IsActorBelow test (known_actors cl f) (rising_actors-rise (flat_map named_by (flat_map (λ o. notice_facts (f o)) (nodes_below cl.nodes)))))
    (λ b h. (
    let t = (are.owners b).0 h in
    let named = (placed.named b a (owns-there g placed b a t)).0 in
    IsAmong-filter test b (known_actors cl f) (known b named) (sym (same b) ∙ t)
    ))
    (λ b h. (are.owners b).1 (same b ∙ (IsAmong-from_filter test b (known_actors cl f) h).1))
