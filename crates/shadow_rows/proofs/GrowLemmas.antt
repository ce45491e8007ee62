-- Edges that are added to others, or cut back to the first ones.
use Rattle.std.proofs.Common.{◌≡◌, ◌+◌, ◌<◌, ◌≤◌, ◌||◌, ℕ, zero, suc, Bool, true, false, cond, not, ltb, List, [], ◌∷◌, ◌++◌, Option, Some, None, length, get_or, pos, take, position, refl, sym, ◌∙◌, ap, subst, inl, inr, arith, rules, tests, append-nil, append_assoc}
use Rattle.std.proofs.lemmas.Bool.{cases_eq, false≢true}
use Rattle.std.proofs.lemmas.List.{get_or_append_left, length-append}
use Rattle.std.proofs.lemmas.List.Folds.{list_any-append}
use Rattle.std.specs.List.{list_any, position_or_len}
use Rattle.std.specs.Option.{is_some}
use Rattle.crgc_ids.specs.Actor.{Actor, same_actor}
use Rattle.crgc_ids.specs.declared.rising.PairCount.{PairCount}
use Rattle.crgc_ids.proofs.MembersLaws.{all-implied}
use Rattle.edge_table.specs.Table.{Edges, edge_at, no_edge, same_pair}
use Rattle.edge_table.specs.declared.table.Edge.{Edge}
use Rattle.shadow_table.specs.Shadows.{is_named, place_in}
use Rattle.shadow_rows.specs.Pairs.{has_pair}
use Rattle.shadow_rows.specs.Tabled.{ArePairs, AreTabled, ExtendsEdges, no_actor, pair_at}
use Rattle.shadow_table.proofs.KeyedLemmas.{found-pushed}
use Rattle.shadow_table.proofs.NameLemmas.{named-kept, place-kept}
use Rattle.shadow_rows.proofs.PairLemmas.{same_pair-decides}

-- ---- edges that go on

pub edges-extend-self : (t : Edges) → ExtendsEdges t t
edges-extend-self t = record { more = []; more_edges = []; pairs = sym (append-nil t.pairs); edges = sym (append-nil t.edges); count = λ b a. refl }

pub edges-extend-more : (t u v : Edges) → ExtendsEdges t u → ExtendsEdges u v → ExtendsEdges t v
edges-extend-more t u v first then = record {
  more = first.more ++ then.more;
  more_edges = first.more_edges ++ then.more_edges;
  pairs = then.pairs ∙ ap (λ ps. ps ++ then.more) first.pairs ∙ append_assoc t.pairs first.more then.more;
  edges = then.edges ∙ ap (λ es. es ++ then.more_edges) first.edges ∙ append_assoc t.edges first.more_edges then.more_edges;
  count = λ b a. then.count b a ∙ first.count b a;
}

pub edges-same : (t u : Edges) → u.pairs ≡ t.pairs → u.edges ≡ t.edges → ExtendsEdges t u
edges-same t u pairs edges = record {
  more = [];
  more_edges = [];
  pairs = pairs ∙ sym (append-nil t.pairs);
  edges = edges ∙ sym (append-nil t.edges);
  count = λ b a. (λ i. (get_or (edges i) (position_or_len (same_pair (b, a)) (pairs i)) no_edge).count);
}

-- an edge that is added has count 0
pub edge-added : (t u : Edges) (owner target : Actor) (e : Edge) → length t.edges ≡ length t.pairs → e.count ≡ pos 0 → u ≡ record t { pairs = t.pairs ++ (owner, target) ∷ []; edges = t.edges ++ e ∷ [] } → ExtendsEdges t u
edge-added t u owner target e long none is = record {
  more = (owner, target) ∷ [];
  more_edges = e ∷ [];
  pairs = ap (λ (x : Edges). x.pairs) is;
  edges = ap (λ (x : Edges). x.edges) is;
  count = λ b a. ap (λ (x : Edges). (get_or x.edges (position_or_len (same_pair (b, a)) x.pairs) no_edge).count) is
      ∙ found-pushed same_pair same_pair-decides no_edge (λ x. x.count) t.pairs t.edges (owner, target) e none long (b, a);
}

-- the new edge's ends are the places of its actors
pub tabled-added : (names : List Actor) (t u : Edges) (owner target : Actor) (e : Edge) → AreTabled names t → length t.edges ≡ length t.pairs → is_named names owner ≡ true → is_named names target ≡ true → e.owner ≡ place_in names owner → e.target ≡ place_in names target → u ≡ record t { pairs = t.pairs ++ (owner, target) ∷ []; edges = t.edges ++ e ∷ [] } → AreTabled names u
tabled-added names t u owner target e tabled long owner_named target_named owner_is target_is is =
    subst (AreTabled names) (sym is) (record {
      room = tabled.room;
      owner_named = λ k inside. at (λ x p. is_named names p.0 ≡ true) k inside (tabled.owner_named k) owner_named;
      target_named = λ k inside. at (λ x p. is_named names p.1 ≡ true) k inside (tabled.target_named k) target_named;
      owner = λ k inside. at (λ x p. x.owner ≡ place_in names p.0) k inside (tabled.owner k) owner_is;
      target = λ k inside. at (λ x p. x.target ≡ place_in names p.1) k inside (tabled.target k) target_is;
    })
  where
    last : {X : Type 0} (d x : X) (xs : List X) → get_or (xs ++ x ∷ []) (length xs) d ≡ x
    last d x [] = refl
    last d x (y ∷ ys) = last d x ys

    at : (P : Edge → Actor × Actor → Type 0) (k : ℕ) → k < length (t.pairs ++ (owner, target) ∷ []) → (k < length t.pairs → P (edge_at t k) (pair_at t.pairs k)) → P e (owner, target) → P (get_or (t.edges ++ e ∷ []) k no_edge) (get_or (t.pairs ++ (owner, target) ∷ []) k (no_actor, no_actor))
    at P k inside before here =
        let more = length-append t.pairs ((owner, target) ∷ []) in
        let one : length {A = Actor × Actor} ((owner, target) ∷ []) ≡ 1 = refl in
        elim (cases_eq k (length t.pairs)) [
          | inl at_end ↦ (
              let at_edge : length t.edges ≡ k = omega arith in
              let this_edge = ap (λ i. get_or (t.edges ++ e ∷ []) i no_edge) (sym at_edge) ∙ last no_edge e t.edges in
              let this_pair = ap (λ i. get_or (t.pairs ++ (owner, target) ∷ []) i (no_actor, no_actor)) at_end ∙ last (no_actor, no_actor) (owner, target) t.pairs in
              subst (λ x. P x (get_or (t.pairs ++ (owner, target) ∷ []) k (no_actor, no_actor))) (sym this_edge) (subst (P e) (sym this_pair) here)
              )
          | inr apart ↦ (
              let within : k < length t.pairs = omega arith in
              let old_edge = get_or_append_left t.edges (e ∷ []) no_edge k (omega arith) in
              let old_pair = get_or_append_left t.pairs ((owner, target) ∷ []) (no_actor, no_actor) k within in
              subst (λ x. P x (get_or (t.pairs ++ (owner, target) ∷ []) k (no_actor, no_actor))) (sym old_edge) (subst (P (edge_at t k)) (sym old_pair) (before within))
              )
        ]

-- as more actors are named, edges keep their places
pub tabled-named : (names more new : List Actor) (t u : Edges) → new ≡ names ++ more → u.pairs ≡ t.pairs → u.edges ≡ t.edges → length new ≤ u.places → AreTabled names t → AreTabled new u
tabled-named names more new t u is same_pairs same_edges room tabled =
    let tu : Edges = record t { places = u.places } in
    let same : tu ≡ u = λ i. record { pairs = sym same_pairs i; edges = sym same_edges i; places = u.places } in
    let there : (a : Actor) → is_named names a ≡ true → place_in new a ≡ place_in names a = λ a named. ap (λ ns. place_in ns a) is ∙ place-kept (same_actor a) names more named in
    subst (AreTabled new) same (record {
      room = room;
      owner_named = λ k inside. named-kept names more new (pair_at t.pairs k).0 is (tabled.owner_named k inside);
      target_named = λ k inside. named-kept names more new (pair_at t.pairs k).1 is (tabled.target_named k inside);
      owner = λ k inside. tabled.owner k inside ∙ sym (there (pair_at t.pairs k).0 (tabled.owner_named k inside));
      target = λ k inside. tabled.target k inside ∙ sym (there (pair_at t.pairs k).1 (tabled.target_named k inside));
    })

-- ---- pairs that are there

pub pair-kept : (old new more : List (Actor × Actor)) (owner target : Actor) → new ≡ old ++ more → has_pair old owner target ≡ true → has_pair new owner target ≡ true
pair-kept old new more owner target is there =
    ap (list_any (same_pair (owner, target))) is ∙ list_any-append (same_pair (owner, target)) old more
    ∙ ap (λ b. b || list_any (same_pair (owner, target)) more) there

pub pair-added : (old new : List (Actor × Actor)) (owner target : Actor) → new ≡ old ++ (owner, target) ∷ [] → has_pair new owner target ≡ true
pair-added old new owner target is =
    ap (list_any (same_pair (owner, target))) is ∙ list_any-append (same_pair (owner, target)) old ((owner, target) ∷ [])
    ∙ ap (λ b. list_any (same_pair (owner, target)) old || (b || false)) ((same_pair-decides (owner, target) (owner, target)).1 refl)
    ∙ last (list_any (same_pair (owner, target)) old)
  where
    last : (b : Bool) → (b || true) ≡ true
    last true = refl
    last false = refl

pub pairs-kept : (old new more : List (Actor × Actor)) (rows : List PairCount) → new ≡ old ++ more → ArePairs old rows → ArePairs new rows
pairs-kept old new more rows is = all-implied (λ r. has_pair old r.owner r.target ≡ true) (λ r. has_pair new r.owner r.target ≡ true) (λ r. pair-kept old new more r.owner r.target is) rows

-- a pair that has a number is there
pub pair-numbered : (pairs : List (Actor × Actor)) (owner target : Actor) (number : Option ℕ) (b : Bool) → number ≡ position (same_pair (owner, target)) pairs → b ≡ is_some number → b ≡ true → has_pair pairs owner target ≡ true
pair-numbered pairs owner target number b is tells some =
    elim-any (same_pair (owner, target)) pairs (sym (ap is_some is) ∙ sym tells ∙ some)
  where
    none_there : {X : Type 0} (test : X → Bool) (xs : List X) → list_any test xs ≡ false → length xs ≤ position_or_len test xs
    none_there test [] h = omega arith
    none_there test (x ∷ xs) h =
        let Case : Bool → Type 0 = λ v. test x ≡ v → (v || list_any test xs) ≡ false → suc (length xs) ≤ position_or_len test (x ∷ xs) in
        let case : Case (test x) = elim (test x) as Case [
          | true ↦ λ _ t. absurd (false≢true (sym t))
          | false ↦ λ f later. (
              let rest = none_there test xs later in
              let step : position_or_len test (x ∷ xs) ≡ 1 + position_or_len test xs = ap (λ v. cond (not v) (1 + position_or_len test xs) 0) f in
              omega arith
              )
        ] in
        case refl h

    not-below : (i n : ℕ) → n ≤ i → ltb i n ≡ false
    not-below i n h = search (rules, tests)

    elim-any : {X : Type 0} (test : X → Bool) (xs : List X) → is_some (position test xs) ≡ true → list_any test xs ≡ true
    elim-any test xs some =
        let Case : Bool → Type 0 = λ v. list_any test xs ≡ v → v ≡ true in
        let case : Case (list_any test xs) = elim (list_any test xs) as Case [
          | true ↦ λ _. refl
          | false ↦ λ f. (
              let past = none_there test xs f in
              let no_number : position test xs ≡ None = ap (λ v. cond v (Some (position_or_len test xs)) None) (not-below (position_or_len test xs) (length xs) past) in
              sym (ap is_some no_number) ∙ some
              )
        ] in
        case refl

-- ---- edges that are cut back

pub cut-shorter : {X : Type 0} (n m : ℕ) (now first : List X) → n ≤ m → take n now ≡ take n first → take n (take m now) ≡ take n first
cut-shorter n m now first less same = shorter n m now less ∙ same
  where
    shorter : {X : Type 0} (n m : ℕ) (xs : List X) → n ≤ m → take n (take m xs) ≡ take n xs
    shorter zero m xs h = refl
    shorter (suc n) zero xs h = absurd (omega arith)
    shorter (suc n) (suc m) [] h = refl
    shorter (suc n) (suc m) (x ∷ xs) h = ap (λ ys. x ∷ ys) (shorter n m xs (omega arith))
