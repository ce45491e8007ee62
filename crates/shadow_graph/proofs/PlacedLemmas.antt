-- Each actor has its place, and each pair is listed at the places of both.
use Rattle.std.proofs.Common.{◌≡◌, ◌<◌, ◌||◌, ℕ, ℤ, SFits, of_z, to_z, w64, zero, suc, Bool, true, false, cond, List, [], ◌∷◌, length, get_or, map, refl, sym, ◌∙◌, ap, subst, inl, inr, arith}
use Rattle.std.proofs.lemmas.Bool.{eq-eqb, eqb-true, false_from_ne_true, false≢true}
use Rattle.std.proofs.lemmas.Int.{to_z-of_z}
use Rattle.std.proofs.lemmas.List.{get_or-map, length-map}
use Rattle.std.proofs.lemmas.List.Sums.{position_or_len_is}
use Rattle.std.proofs.lemmas.Map.Keys.{apart_from_distinct}
use Rattle.std.specs.Bool.{Decides}
use Rattle.std.specs.List.{IsDistinct, filter, list_any, position_or_len}
use Rattle.std.specs.Prelude.{nat_eq}
use Rattle.crgc_ids.proofs.ActorLaws.{same_actor-decides}
use Rattle.crgc_ids.proofs.MembersLaws.{IsAmong-from_filter, all-from_members, all-member}
use Rattle.crgc_ids.specs.Actor.{Actor, same_actor}
use Rattle.crgc_ids.specs.Members.{IsAmong}
use Rattle.edge_table.proofs.ListedLemmas.{listed, numbers-distinct}
use Rattle.edge_table.proofs.EndsLemmas.{ends-long}
use Rattle.edge_table.specs.Table.{Edges, edge_at, edges_from, edges_to, ends_from, ends_of, ends_to, no_edge, same_pair}
use Rattle.edge_table.specs.declared.table.Edge.{Edge}
use Rattle.shadow_table.proofs.KeyedLemmas.{key-at, place-within}
use Rattle.shadow_table.specs.Shadows.{Shadows, blank, is_named, place_in, shadow_at}
use Rattle.shadow_rows.proofs.PairLemmas.{same_pair-decides}
use Rattle.shadow_graph.proofs.SeenLemmas.{none-passes, past-end, unnamed-blank}
use Rattle.shadow_graph.specs.Graph.{Graph}
use Rattle.shadow_rows.specs.Pairs.{edge_between, has_pair}
use Rattle.shadow_graph.specs.Places.{ArePlaced, actor_of, owners_of, targets_of}
use Rattle.shadow_graph.specs.Seen.{is_dropped, seen_edge}
use Rattle.shadow_rows.specs.Tabled.{AreTabled, no_actor, pair_at}

-- ---- members of lists

pub among-at : {X : Type 0} (xs : List X) (i : ℕ) (d : X) → i < length xs → IsAmong (get_or xs i d) xs
among-at [] i d inside = absurd (omega arith)
among-at (x ∷ xs) zero d inside = inl refl
among-at (x ∷ xs) (suc i) d inside = inr (among-at xs i d (omega arith))

pub among-map : {X Y : Type 0} (f : X → Y) (x : X) (xs : List X) → IsAmong x xs → IsAmong (f x) (map f xs)
among-map f x [] h = h
among-map f x (y ∷ ys) h = elim h [ inl e ↦ inl (ap f e) | inr later ↦ inr (among-map f x ys later) ]

pub among-from_map : {X Y : Type 0} (f : X → Y) (y : Y) (xs : List X) → IsAmong y (map f xs) → (x : X) × IsAmong x xs × (y ≡ f x)
among-from_map f y [] h = absurd h
among-from_map f y (x ∷ xs) h = elim h [
  | inl e ↦ (x, inl refl, e)
  | inr later ↦ (let rest = among-from_map f y xs later in (rest.0, inr rest.1, rest.2))
]

any-at : {X : Type 0} (test : X → Bool) (xs : List X) (i : ℕ) (d : X) → i < length xs → test (get_or xs i d) ≡ true → list_any test xs ≡ true
any-at test [] i d inside passes = absurd (omega arith)
any-at test (x ∷ xs) zero d inside passes = ap (λ b. b || list_any test xs) passes
any-at test (x ∷ xs) (suc i) d inside passes =
    let later = any-at test xs i d (omega arith) passes in
    elim (test x) as (λ b. (b || list_any test xs) ≡ true) [ true ↦ refl | false ↦ later ]

-- what differs by a function that tells them apart stays distinct
pub distinct-map : {Y : Type 0} (same : Y → Y → Bool) (told : (x y : Y) → Decides (same x y) (x ≡ y)) (f : ℕ → Y) (xs : List ℕ) → IsDistinct nat_eq xs → ((n m : ℕ) → IsAmong n xs → IsAmong m xs → f n ≡ f m → n ≡ m) → IsDistinct same (map f xs)
unfolding IsDistinct
distinct-map same told f [] distinct one = tt
distinct-map same told f (x ∷ xs) distinct one = (
  all-from_members (λ y. same (f x) y ≡ false) (map f xs) (λ y h. (
      let there = among-from_map f y xs h in
      false_from_ne_true (same (f x) y) (λ t. differs there.0 there.1 (one x there.0 (inl refl) (inr there.1) ((told (f x) y).0 t ∙ there.2)))
      )),
  distinct-map same told f xs distinct.1 (λ n m h k. one n m (inr h) (inr k)),
)
  where
    differs : (n : ℕ) → IsAmong n xs → x ≡ n → ⊥
    differs n h e = false≢true (sym (all-member (λ y. nat_eq x y ≡ false) n xs distinct.0 h) ∙ eq-eqb x n e)

-- and so do those of them that a test lets through
pub distinct-filter : (test : ℕ → Bool) (xs : List ℕ) → IsDistinct nat_eq xs → IsDistinct nat_eq (filter test xs)
unfolding IsDistinct
distinct-filter test [] distinct = tt
distinct-filter test (x ∷ xs) distinct =
    let later = distinct-filter test xs distinct.1 in
    let apart = all-from_members (λ y. nat_eq x y ≡ false) (filter test xs) (λ y h. all-member (λ y. nat_eq x y ≡ false) y xs distinct.0 (IsAmong-from_filter test y xs h).0) in
    elim (test x) as (λ b. IsDistinct nat_eq (cond b (x ∷ filter test xs) (filter test xs))) [ true ↦ (apart, later) | false ↦ later ]

pub same_number : (n m : ℕ) → Decides (nat_eq n m) (n ≡ m)
same_number n m = (eqb-true n m, eq-eqb n m)

-- ---- keys and their places

module _ {K : Type 0} (same : K → K → Bool) (told : (j k : K) → Decides (same j k) (j ≡ k)) (ks : List K) (d : K) where
  -- the key at a place has it
  pub key-place : (i : ℕ) → IsDistinct same ks → i < length ks → position_or_len (same (get_or ks i d)) ks ≡ i
  key-place i distinct inside =
      let x = get_or ks i d in
      let before : (k : ℕ) → k < i → same x (get_or ks k d) ≡ false = λ k less. (
      let apart = apart_from_distinct same ks k i d distinct less inside in
      flipped x (get_or ks k d) apart
      ) in
      position_or_len_is (same x) ks i d (omega arith) before (λ _. (told x x).1 refl)
    where
      flipped : (x y : K) → same y x ≡ false → same x y ≡ false
      flipped x y apart =
          let Case : Bool → Type 0 = λ b. same x y ≡ b → b ≡ false in
          let case : Case (same x y) = elim (same x y) as Case [
            | true ↦ λ t. absurd (false≢true (sym apart ∙ (told y x).1 (sym ((told x y).0 t))))
            | false ↦ λ _. refl
          ] in
          case refl

  pub key-there : (i : ℕ) → i < length ks → list_any (same (get_or ks i d)) ks ≡ true
  key-there i inside = any-at (same (get_or ks i d)) ks i d inside ((told (get_or ks i d) (get_or ks i d)).1 refl)

-- ---- the places of a graph

-- names and pairs are distinct, and each edge has its pair and the places of both actors
pub record AreKeyed (names : List Actor) (edges : Edges) : Type 0 where
  pub actors : IsDistinct same_actor names
  pub pairs : IsDistinct same_pair edges.pairs
  pub long : length edges.edges ≡ length edges.pairs
  pub tabled : AreTabled names edges

abbrev pub name_at : List Actor → ℕ → Actor
name_at names p = get_or names p no_actor

-- this is what is kept of the actors at its ends
pub record IsEdge (names : List Actor) (edges : Edges) (e : Edge) : Type 0 where
  pub owner : e.owner < length names
  pub target : e.target < length names
  pub there : has_pair edges.pairs (name_at names e.owner) (name_at names e.target) ≡ true
  pub between : edge_between edges (name_at names e.owner) (name_at names e.target) ≡ e

-- what is kept of an edge with a number
pub record IsNumbered (names : List Actor) (edges : Edges) (n : ℕ) : Type 0 where
  pub edge : IsEdge names edges (edge_at edges n)
  pub owner_is : name_at names (edge_at edges n).owner ≡ (pair_at edges.pairs n).0
  pub target_is : name_at names (edge_at edges n).target ≡ (pair_at edges.pairs n).1

module _ (names : List Actor) (edges : Edges) (keyed : AreKeyed names edges) where
  -- the actor at an end of an edge, which is named
  end-there : (end : ℕ) (a : Actor) → end ≡ place_in names a → is_named names a ≡ true → end < length names
  end-there end a is named = subst (λ n. n < length names) (sym is) (place-within (same_actor a) names named)

  end-is : (end : ℕ) (a : Actor) → end ≡ place_in names a → is_named names a ≡ true → name_at names end ≡ a
  end-is end a is named = ap (name_at names) is ∙ key-at same_actor same_actor-decides names no_actor a named

  pub numbered : (n : ℕ) → n < length edges.edges → IsNumbered names edges n
  numbered n inside =
      let tabled = keyed.tabled in
      let long = keyed.long in
      let within : n < length edges.pairs = omega arith in
      let pair = pair_at edges.pairs n in
      let owner_is = end-is (edge_at edges n).owner pair.0 (tabled.owner n within) (tabled.owner_named n within) in
      let target_is = end-is (edge_at edges n).target pair.1 (tabled.target n within) (tabled.target_named n within) in
      let there = key-there same_pair same_pair-decides edges.pairs (no_actor, no_actor) n within in
      let place = key-place same_pair same_pair-decides edges.pairs (no_actor, no_actor) n keyed.pairs within in
      record {
        edge = record {
          owner = end-there (edge_at edges n).owner pair.0 (tabled.owner n within) (tabled.owner_named n within);
          target = end-there (edge_at edges n).target pair.1 (tabled.target n within) (tabled.target_named n within);
          there = (λ i. has_pair edges.pairs (owner_is i) (target_is i)) ∙ there;
          between = (λ i. edge_between edges (owner_is i) (target_is i)) ∙ ap (λ k. get_or edges.edges k no_edge) place;
        };
        owner_is = owner_is;
        target_is = target_is;
      }

  -- a pair that is there has a number
  pub number-of : (b a : Actor) → has_pair edges.pairs b a ≡ true → (n : ℕ) × (n < length edges.edges) × (pair_at edges.pairs n ≡ (b, a))
  number-of b a there =
      let within = place-within (same_pair (b, a)) edges.pairs there in
      let long = keyed.long in
      (position_or_len (same_pair (b, a)) edges.pairs, omega arith, key-at same_pair same_pair-decides edges.pairs (no_actor, no_actor) (b, a) there)

  pub both-named : (b a : Actor) → has_pair edges.pairs b a ≡ true → (is_named names b ≡ true) × (is_named names a ≡ true)
  both-named b a there =
      let found = number-of b a there in
      let long = keyed.long in
      let inside = found.1 in
      let within : found.0 < length edges.pairs = omega arith in (
        ap (is_named names) (sym (ap (λ p. p.0) found.2)) ∙ keyed.tabled.owner_named found.0 within,
        ap (is_named names) (sym (ap (λ p. p.1) found.2)) ∙ keyed.tabled.target_named found.0 within,
      )

  -- the edge between the actors of two places
  edge-at : (p k : ℕ) → p < length names → k < length names → has_pair edges.pairs (name_at names p) (name_at names k) ≡ true
      → (n : ℕ) × (n < length edges.edges) × ((edge_at edges n).owner ≡ p) × ((edge_at edges n).target ≡ k)
  edge-at p k in_p in_k there =
      let found = number-of (name_at names p) (name_at names k) there in
      let long = keyed.long in
      let inside = found.1 in
      let within : found.0 < length edges.pairs = omega arith in (
        found.0,
        inside,
        keyed.tabled.owner found.0 within ∙ ap (place_in names) (ap (λ q. q.0) found.2) ∙ key-place same_actor same_actor-decides names no_actor p keyed.actors in_p,
        keyed.tabled.target found.0 within ∙ ap (place_in names) (ap (λ q. q.1) found.2) ∙ key-place same_actor same_actor-decides names no_actor k keyed.actors in_k,
      )

  -- two edges with the same ends are one
  one-edge : (n m : ℕ) → n < length edges.edges → m < length edges.edges → (edge_at edges n).owner ≡ (edge_at edges m).owner → (edge_at edges n).target ≡ (edge_at edges m).target → n ≡ m
  one-edge n m in_n in_m owners targets =
      let a = numbered n in_n in
      let b = numbered m in_m in
      let long = keyed.long in
      let same : pair_at edges.pairs n ≡ pair_at edges.pairs m = λ i. (
        (sym a.owner_is ∙ ap (name_at names) owners ∙ b.owner_is) i,
        (sym a.target_is ∙ ap (name_at names) targets ∙ b.target_is) i,
      ) in
      let place = λ (k : ℕ) (h : k < length edges.pairs). key-place same_pair same_pair-decides edges.pairs (no_actor, no_actor) k keyed.pairs h in
      sym (place n (omega arith)) ∙ ap (λ p. position_or_len (same_pair p) edges.pairs) same ∙ place m (omega arith)

abbrev owner_of : Edge → ℕ
owner_of e = e.owner

abbrev target_of : Edge → ℕ
target_of e = e.target

-- an edge that is listed at a place leads from it, or to it
pub from-at : (edges : List Edge) (p i : ℕ) (ends : List (ℕ × ℕ)) → ends ≡ ends_from edges p → i < length ends
    → (let n = (get_or ends i (0, 0)).1 in (n < length edges) × ((get_or edges n no_edge).owner ≡ p))
from-at edges p i ends is inside =
    let found = among-from_map (λ n. ((get_or edges n no_edge).target, n)) (get_or ends i (0, 0)) (edges_from edges p) (subst (IsAmong (get_or ends i (0, 0))) is (among-at ends i (0, 0) inside)) in
    (listed owner_of refl edges p (get_or ends i (0, 0)).1).0 (subst (λ n. IsAmong n (edges_from edges p)) (sym (ap (λ (e : ℕ × ℕ). e.1) found.2)) found.1)

pub to-at : (edges : List Edge) (p i : ℕ) (ends : List (ℕ × ℕ)) → ends ≡ ends_to edges p → i < length ends
    → (let n = (get_or ends i (0, 0)).1 in (n < length edges) × ((get_or edges n no_edge).target ≡ p))
to-at edges p i ends is inside =
    let found = among-from_map (λ n. ((get_or edges n no_edge).owner, n)) (get_or ends i (0, 0)) (edges_to edges p) (subst (IsAmong (get_or ends i (0, 0))) is (among-at ends i (0, 0) inside)) in
    (listed target_of refl edges p (get_or ends i (0, 0)).1).0 (subst (λ n. IsAmong n (edges_to edges p)) (sym (ap (λ (e : ℕ × ℕ). e.1) found.2)) found.1)

-- an index of the list of the targets, or of the owners, is one of the list of ends, and the edge whose number is there has that
-- target, or owner
module _ (other : Edge → ℕ) (edges : List Edge) (ns : List ℕ) (ends : List (ℕ × ℕ)) (is : ends ≡ ends_of other edges ns) where
  pub inside-ends : (i : ℕ) → i < length (map (λ n. other (get_or edges n no_edge)) ns) → i < length ends
  inside-ends i inside = subst (λ n. i < n) (length-map ns (λ n. other (get_or edges n no_edge)) ∙ sym (ends-long other edges ns) ∙ sym (ap length is)) inside

  pub end-at : (i : ℕ) → i < length ends → get_or (map (λ n. other (get_or edges n no_edge)) ns) i 0 ≡ other (get_or edges (get_or ends i (0, 0)).1 no_edge)
  end-at i inside =
      let long = ap length is ∙ ends-long other edges ns in
      let number = ap (λ (es : List (ℕ × ℕ)). (get_or es i (0, 0)).1) is
      ∙ ap (λ (e : ℕ × ℕ). e.1) (get_or-map (λ n. (other (get_or edges n no_edge), n)) ns i 0 (0, 0) (omega arith)) in
      get_or-map (λ n. other (get_or edges n no_edge)) ns i 0 0 (omega arith) ∙ ap (λ n. other (get_or edges n no_edge)) (sym number)

-- the shadow of the actor at a place
pub shadow-there : (t : Shadows) (k : ℕ) → IsDistinct same_actor t.names → k < length t.names → shadow_at t (name_at t.names k) ≡ get_or t.shadows k blank
shadow-there t k distinct inside = ap (λ p. get_or t.shadows p blank) (key-place same_actor same_actor-decides t.names no_actor k distinct inside)

-- the value of an edge is that of what is kept between the actors at its ends
pub between-value : (g : Graph) (b a : Actor) (e : Edge) (r : ℤ) → edge_between g.edges b a ≡ e → r ≡ (cond (is_dropped g a) no_edge e).count → SFits w64 r → to_z w64 (of_z w64 r) ≡ (seen_edge g b a).count
between-value g b a e r between is fits =
    to_z-of_z w64 r fits ∙ is ∙ ap (λ (x : Edge). (cond (is_dropped g a) no_edge x).count) (sym between)

pub placed : (g : Graph) (room : ℕ) → AreKeyed g.shadows.names (record g.edges { places = room }) → length g.shadows.shadows ≡ length g.shadows.names → ArePlaced g
placed g room keyed long = record {
  actor = λ p inside. (
    key-there same_actor same_actor-decides g.shadows.names no_actor p inside,
    key-place same_actor same_actor-decides g.shadows.names no_actor p keyed.actors inside,
  );
  place = λ a named. (place-within (same_actor a) g.shadows.names named, key-at same_actor same_actor-decides g.shadows.names no_actor a named);
  unnamed = λ a none. unnamed-blank g.shadows a long none;
  none = λ b a apart. (
      let long = keyed.long in
      let last = none-passes (same_pair (b, a)) g.edges.pairs apart in
      past-end g.edges.edges (position_or_len (same_pair (b, a)) g.edges.pairs) no_edge (omega arith)
      );
  named = both-named g.shadows.names (record g.edges { places = room }) keyed;
  targets = λ p k. (
    (λ h. (
        let found = among-from_map (λ n. (edge_at g.edges n).target) k (edges_from g.edges.edges p) h in
        let from = (listed owner_of refl g.edges.edges p found.0).0 found.1 in
        ends p k found.0 from.0 from.1 (sym found.2)
        )),
    (λ h. (
        let found = edge-at g.shadows.names (record g.edges { places = room }) keyed p k h.0 h.1 h.2 in
        let from = (listed owner_of refl g.edges.edges p found.0).1 (found.1, found.2) in
        subst (λ x. IsAmong x (targets_of g p)) found.3 (among-map (λ n. (edge_at g.edges n).target) found.0 (edges_from g.edges.edges p) from)
        )),
  );
  owners = λ p k. (
    (λ h. (
        let found = among-from_map (λ n. (edge_at g.edges n).owner) p (edges_to g.edges.edges k) h in
        let to = (listed target_of refl g.edges.edges k found.0).0 found.1 in
        ends p k found.0 to.0 (sym found.2) to.1
        )),
    (λ h. (
        let found = edge-at g.shadows.names (record g.edges { places = room }) keyed p k h.0 h.1 h.2 in
        let to = (listed target_of refl g.edges.edges k found.0).1 (found.1, found.3) in
        subst (λ x. IsAmong x (owners_of g k)) found.2 (among-map (λ n. (edge_at g.edges n).owner) found.0 (edges_to g.edges.edges k) to)
        )),
  );
  targets_once = λ p. distinct-map nat_eq same_number (λ n. (edge_at g.edges n).target) (edges_from g.edges.edges p) (numbers-distinct p 0 (map owner_of g.edges.edges)) (λ n m h k same. (
      let a = (listed owner_of refl g.edges.edges p n).0 h in
      let b = (listed owner_of refl g.edges.edges p m).0 k in
      one-edge g.shadows.names (record g.edges { places = room }) keyed n m a.0 b.0 (a.1 ∙ sym b.1) same
      ));
  owners_once = λ k. distinct-map nat_eq same_number (λ n. (edge_at g.edges n).owner) (edges_to g.edges.edges k) (numbers-distinct k 0 (map target_of g.edges.edges)) (λ n m h l same. (
      let a = (listed target_of refl g.edges.edges k n).0 h in
      let b = (listed target_of refl g.edges.edges k m).0 l in
      one-edge g.shadows.names (record g.edges { places = room }) keyed n m a.0 b.0 same (a.1 ∙ sym b.1)
      ));
  numbered = λ n inside. (let is = (numbered g.shadows.names (record g.edges { places = room }) keyed n inside).edge in (is.owner, is.target, is.between));
  number = λ p k in_p in_k there. edge-at g.shadows.names (record g.edges { places = room }) keyed p k in_p in_k there;
}
  where
    ends : (p k n : ℕ) → n < length g.edges.edges → (edge_at g.edges n).owner ≡ p → (edge_at g.edges n).target ≡ k
        → (p < length g.shadows.names) × (k < length g.shadows.names) × (has_pair g.edges.pairs (actor_of g p) (actor_of g k) ≡ true)
    ends p k n inside owner target =
        let is = (numbered g.shadows.names (record g.edges { places = room }) keyed n inside).edge in (
          subst (λ x. x < length g.shadows.names) owner is.owner,
          subst (λ x. x < length g.shadows.names) target is.target,
          ap (has_pair g.edges.pairs (actor_of g p)) (ap (actor_of g) (sym target)) ∙ ap (λ x. has_pair g.edges.pairs (actor_of g x) (actor_of g (edge_at g.edges n).target)) (sym owner) ∙ is.there,
        )
