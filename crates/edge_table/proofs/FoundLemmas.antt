-- That each edge is found: it is listed near, or far.
use Rattle.std.proofs.Common.{◌≡◌, ◌⊎◌, ◌<◌, ◌≤◌, ◌↔◌, ℕ, zero, suc, Bool, true, false, cond, List, [], ◌∷◌, ◌++◌, Option, Some, None, eqb, eq-eqb, get_or, length, map, take, refl, sym, ◌∙◌, ap, subst, inl, inr, arith}
use Rattle.std.proofs.Math.Seq.{get_or-append_seam}
use Rattle.std.proofs.lemmas.Bool.{cases_lt, false≢true}
use Rattle.std.proofs.lemmas.List.{get_or_append_left, get_or_default, length-append, length-map}
use Rattle.std.proofs.lemmas.Option.{none-some}
use Rattle.std.specs.Bool.{Decides}
use Rattle.std.specs.Option.{IfNone, IfSome}
use Rattle.crgc_ids.specs.Members.{IsAmong}
use Rattle.edge_table.proofs.FarLemmas.{added-alone, added-kept, added-put, removed-alone, removed-kept}
use Rattle.edge_table.proofs.EndsLemmas.{among-first, ends-listed, ends-long, ends_at, numbers-of-ends}
use Rattle.edge_table.proofs.ListedLemmas.{end_at, listed, longer}
use Rattle.edge_table.proofs.TableLemmas.{owner_of, target_of}
use Rattle.edge_table.specs.Ends.{PlaceEnds, no_ends, numbers_of}
use Rattle.edge_table.specs.Far.{AreFound, Entries, IsFar, IsFarAdded, IsFarRemoved, IsNear, far_number}
use Rattle.edge_table.specs.Partition.{numbers_in}
use Rattle.edge_table.specs.Table.{IsBetween, edges_from, edges_to, ends_from, ends_to, no_edge}
use Rattle.edge_table.specs.declared.near.TheConstants.{NEAR}
use Rattle.edge_table.specs.declared.table.Edge.{Edge}

-- ---- the first of a list

-- they stay the first of a longer one
first-longer : (n m : ℕ) (xs ys : List ℕ) → IsAmong n (take m xs) → IsAmong n (take m (xs ++ ys))
first-longer n zero xs ys h = absurd h
first-longer n (suc m) [] ys h = absurd h
first-longer n (suc m) (x ∷ xs) ys (inl e) = inl e
first-longer n (suc m) (x ∷ xs) ys (inr h) = inr (first-longer n m xs ys h)

-- where another comes last, they were the first before
first-shorter : (n m last : ℕ) (b : Bool) (xs : List ℕ) → (n ≡ last → ⊥) → IsAmong n (take m (xs ++ cond b (last ∷ []) [])) → IsAmong n (take m xs)
first-shorter n zero last b xs differ h = absurd h
first-shorter n (suc m) last true [] differ (inl e) = absurd (differ e)
first-shorter n (suc zero) last true [] differ (inr h) = absurd h
first-shorter n (suc (suc m)) last true [] differ (inr h) = absurd h
first-shorter n (suc m) last false [] differ h = absurd h
first-shorter n (suc m) last b (x ∷ xs) differ (inl e) = inl e
first-shorter n (suc m) last b (x ∷ xs) differ (inr h) = inr (first-shorter n m last b xs differ h)

-- the last of few is one of the first
first-last : (n m : ℕ) (xs : List ℕ) → length xs < m → IsAmong n (take m (xs ++ n ∷ []))
first-last n zero xs few = absurd (omega arith)
first-last n (suc m) [] few = inl refl
first-last n (suc m) (x ∷ xs) few = inr (first-last n m xs (omega arith))

-- all of few are the first
first-all : (n m : ℕ) (xs : List ℕ) → length xs ≤ m → IsAmong n xs → IsAmong n (take m xs)
first-all n m [] few h = absurd h
first-all n zero (x ∷ xs) few h = absurd (omega arith)
first-all n (suc m) (x ∷ xs) few (inl e) = inl e
first-all n (suc m) (x ∷ xs) few (inr h) = inr (first-all n m xs (omega arith) h)

-- ---- near at one end

module _ (end : Edge → ℕ) (none : end no_edge ≡ 0) where
  -- the edge is one of the first that have its end
  abbrev pub NearAt : List Edge → ℕ → Type 0
  NearAt edges n = IsAmong n (take NEAR (numbers_of (end (get_or edges n no_edge)) 0 (map end edges)))

  near-longer : (edges : List Edge) (e : Edge) (n : ℕ) → n < length edges → NearAt edges n → NearAt (edges ++ e ∷ []) n
  near-longer edges e n inside near =
      let p = end (get_or edges n no_edge) in
      let same = get_or_append_left edges (e ∷ []) no_edge n inside in
      subst (λ x. IsAmong n (take NEAR (numbers_of (end x) 0 (map end (edges ++ e ∷ []))))) (sym same)
      (subst (λ xs. IsAmong n (take NEAR xs)) (sym (longer end edges e p)) (first-longer n NEAR (numbers_of p 0 (map end edges)) (cond (eqb p (end e)) (length edges ∷ []) []) near))

  near-shorter : (edges : List Edge) (e : Edge) (n : ℕ) → n < length edges → NearAt (edges ++ e ∷ []) n → NearAt edges n
  near-shorter edges e n inside near =
      let p = end (get_or edges n no_edge) in
      let same = get_or_append_left edges (e ∷ []) no_edge n inside in
      first-shorter n NEAR (length edges) (eqb p (end e)) (numbers_of p 0 (map end edges)) (λ is. absurd (omega arith))
      (subst (λ xs. IsAmong n (take NEAR xs)) (longer end edges e p) (subst (λ x. IsAmong n (take NEAR (numbers_of (end x) 0 (map end (edges ++ e ∷ []))))) same near))

  -- the last edge, where few before it have its end
  near-last : (edges : List Edge) (e : Edge) → length (numbers_of (end e) 0 (map end edges)) < NEAR → NearAt (edges ++ e ∷ []) (length edges)
  near-last edges e few =
      let n = length edges in
      let same = get_or-append_seam edges e [] no_edge in
      let is = longer end edges e (end e) ∙ ap (λ b. numbers_of (end e) 0 (map end edges) ++ cond b (n ∷ []) []) (eq-eqb (end e) (end e) refl) in
      subst (λ x. IsAmong n (take NEAR (numbers_of (end x) 0 (map end (edges ++ e ∷ []))))) (sym same)
      (subst (λ xs. IsAmong n (take NEAR xs)) (sym is) (first-last n NEAR (numbers_of (end e) 0 (map end edges)) few))

  -- an edge keeps its end
  end-same : (edges edges' : List Edge) → map end edges' ≡ map end edges → (n : ℕ) → end (get_or edges' n no_edge) ≡ end (get_or edges n no_edge)
  end-same edges edges' ends n = sym (end_at end none edges' n) ∙ ap (λ l. get_or l n 0) ends ∙ end_at end none edges n

  near-same : (edges edges' : List Edge) (n : ℕ) → map end edges' ≡ map end edges → NearAt edges n → NearAt edges' n
  near-same edges edges' n ends near =
      let at = end-same edges edges' ends n in
      subst (λ p. IsAmong n (take NEAR (numbers_of p 0 (map end edges')))) (sym at)
      (subst (λ l. IsAmong n (take NEAR (numbers_of (end (get_or edges n no_edge)) 0 l))) (sym ends) near)

-- ---- each edge is found

-- where there is no edge
pub found_none : (entries : Entries) (edges : List Edge) → entries ≡ [] → edges ≡ [] → AreFound entries edges
found_none entries edges no_entry no_edge = subst (λ es. AreFound es edges) (sym no_entry) (subst (AreFound []) (sym no_edge) (record { right = λ p q n e. absurd (none-some n e); found = λ n inside. absurd (omega arith) }))

-- the last edge is listed near, unless both of its lists were full before it
pub last-near : (edges : List Edge) (e : Edge) (b : Bool) (froms tos : List (ℕ × ℕ)) → froms ≡ ends_from edges e.owner → tos ≡ ends_to edges e.target → Decides b ((NEAR ≤ length froms) × (NEAR ≤ length tos)) → b ≡ false → IsNear (edges ++ e ∷ []) (length edges)
last-near edges e b froms tos from to full not_full =
    elim (cases_lt (length froms) NEAR) [
      | inl few ↦ inl (near-last owner_of refl edges e (subst (λ n. n < NEAR) (ap length from ∙ ends-long target_of edges (edges_from edges e.owner)) few))
      | inr many ↦ elim (cases_lt (length tos) NEAR) [
        | inl few ↦ inr (near-last target_of refl edges e (subst (λ n. n < NEAR) (ap length to ∙ ends-long owner_of edges (edges_to edges e.target)) few))
        | inr more ↦ absurd (false≢true (sym not_full ∙ full.1 (many, more)))
      ]
    ]

-- an edge comes last, and is listed near where it is not far
module _ (old new : Entries) (edges : List Edge) (e : Edge) (is_far : Bool) (added : IsFarAdded old new e.owner e.target (length edges) is_far) (near : is_far ≡ false → IsNear (edges ++ e ∷ []) (length edges)) (found : AreFound old edges) where
  -- the map has numbers of edges between the places
  right-added : (p q n : ℕ) → far_number new p q ≡ Some n → IsBetween (edges ++ e ∷ []) n p q
  right-added p q n has =
      let long = length-append edges (e ∷ []) in
      elim (added-alone old new e.owner e.target (length edges) is_far added p q n has) [
        | inl was ↦ (
            let is = found.right p q n was in
            let inside = is.0 in
            subst (λ x. (n < length (edges ++ e ∷ [])) × (x.owner ≡ p) × (x.target ≡ q)) (sym (get_or_append_left edges (e ∷ []) no_edge n inside)) (omega arith, is.1, is.2)
            )
        | inr last ↦ (
            let at = last.2 in
            subst (λ x. (n < length (edges ++ e ∷ [])) × (x.owner ≡ p) × (x.target ≡ q)) (sym (ap (λ k. get_or (edges ++ e ∷ []) k no_edge) at ∙ get_or-append_seam edges e [] no_edge)) (omega arith, sym last.0, sym last.1)
            )
      ]

  -- the new edge is found
  last-found : IsNear (edges ++ e ∷ []) (length edges) ⊎ IsFar new (edges ++ e ∷ []) (length edges)
  last-found = elim is_far as (λ b. is_far ≡ b → IsNear (edges ++ e ∷ []) (length edges) ⊎ IsFar new (edges ++ e ∷ []) (length edges)) [
    | true ↦ λ far. (
        let put = added-put old new e.owner e.target (length edges) is_far added far in
        let inside = (right-added e.owner e.target put.0 put.1).0 in
        let long = length-append edges (e ∷ []) in
        inr (put.0, subst (λ x. far_number new x.owner x.target ≡ Some put.0) (sym (get_or-append_seam edges e [] no_edge)) put.1, omega arith)
        )
    | false ↦ λ not_far. inl (near not_far)
  ] refl

  -- and each other one still is
  pub found-added : AreFound new (edges ++ e ∷ [])
  found-added = record {
    right = right-added;
    found = λ n inside. elim (cases_lt n (length edges)) [
      | inl less ↦ elim (found.found n less) [
        | inl was ↦ inl (elim was [
          | inl from ↦ inl (near-longer owner_of refl edges e n less from)
          | inr to ↦ inr (near-longer target_of refl edges e n less to)
        ])
        | inr far ↦ (
            let edge = get_or edges n no_edge in
            let kept = added-kept old new e.owner e.target (length edges) is_far added edge.owner edge.target far.0 far.1 in
            inr (far.0, subst (λ x. far_number new x.owner x.target ≡ Some far.0) (sym (get_or_append_left edges (e ∷ []) no_edge n less)) kept, far.2)
            )
      ]
      | inr past ↦ (
          let long = length-append edges (e ∷ []) in
          let is : length edges ≡ n = omega arith in
          subst (λ k. IsNear (edges ++ e ∷ []) k ⊎ IsFar new (edges ++ e ∷ []) k) is last-found
          )
    ];
  }

-- the last edge is taken away
pub found-removed : (old new : Entries) (edges all : List Edge) (e : Edge) → all ≡ edges ++ e ∷ [] → IsFarRemoved old new e.owner e.target (length edges) → AreFound old all → AreFound new edges
found-removed old new edges all e is removed before =
    let found : AreFound old (edges ++ e ∷ []) = subst (AreFound old) is before in
    let long = length-append edges (e ∷ []) in
    record {
      right = λ p q n has. (
          let was = removed-alone old new e.owner e.target (length edges) removed p q n has in
          let between = found.right p q n was.0 in
          let inside = between.0 in
          elim (cases_lt n (length edges)) [
            | inl less ↦ subst (λ x. (n < length edges) × (x.owner ≡ p) × (x.target ≡ q)) (get_or_append_left edges (e ∷ []) no_edge n less) (less, between.1, between.2)
            | inr past ↦ (
                let last : n ≡ length edges = omega arith in
                let edge : get_or (edges ++ e ∷ []) n no_edge ≡ e = ap (λ k. get_or (edges ++ e ∷ []) k no_edge) last ∙ get_or-append_seam edges e [] no_edge in
                absurd (was.1 (sym between.1 ∙ ap owner_of edge) (sym between.2 ∙ ap target_of edge) last)
                )
          ]
          );
      found = λ n inside. (
          let same = get_or_append_left edges (e ∷ []) no_edge n inside in
          elim (found.found n (omega arith)) [
            | inl was ↦ inl (elim was [
              | inl from ↦ inl (near-shorter owner_of refl edges e n inside from)
              | inr to ↦ inr (near-shorter target_of refl edges e n inside to)
            ])
            | inr far ↦ (
                let less = far.2 in
                let has = subst (λ x. far_number old x.owner x.target ≡ Some far.0) same far.1 in
                let edge = get_or edges n no_edge in
                inr (far.0, removed-kept old new e.owner e.target (length edges) removed edge.owner edge.target far.0 has (λ last. absurd (omega arith)), far.2)
                )
          ]
          );
    }

-- an edge keeps its ends
pub found-changed : (entries : Entries) (edges edges' : List Edge) → map owner_of edges' ≡ map owner_of edges → map target_of edges' ≡ map target_of edges → AreFound entries edges → AreFound entries edges'
found-changed entries edges edges' owners targets found =
    let long : length edges' ≡ length edges = sym (length-map edges' owner_of) ∙ ap length owners ∙ length-map edges owner_of in
    record {
      right = λ p q n has. (
          let is = found.right p q n has in
          let inside = is.0 in
          (omega arith, end-same owner_of refl edges edges' owners n ∙ is.1, end-same target_of refl edges edges' targets n ∙ is.2)
          );
      found = λ n inside. elim (found.found n (omega arith)) [
        | inl near ↦ inl (elim near [
          | inl from ↦ inl (near-same owner_of refl edges edges' n owners from)
          | inr to ↦ inr (near-same target_of refl edges edges' n targets to)
        ])
        | inr far ↦ inr (far.0, (λ i. far_number entries (end-same owner_of refl edges edges' owners n i) (end-same target_of refl edges edges' targets n i)) ∙ far.1, far.2)
      ];
    }

-- ---- a look-up

-- the list of a place, as it is read
pub list-read : (side : PlaceEnds → List (ℕ × ℕ)) (lists : ℕ → List (ℕ × ℕ)) (places : List PlaceEnds) (place : ℕ) (e : PlaceEnds) (list : List (ℕ × ℕ)) → place < length places → e ≡ get_or places place e → list ≡ side e → ((p : ℕ) → side (get_or places p no_ends) ≡ lists p) → list ≡ lists place
list-read side lists places place e list inside read is all = is ∙ ap side (read ∙ get_or_default places place e no_ends inside) ∙ all place

module _ (end other : Edge → ℕ) (none : end no_edge ≡ 0) (edges : List Edge) (place : ℕ) (list : List (ℕ × ℕ)) (is : list ≡ ends_at end other edges place) where
  numbers_are : numbers_in list ≡ numbers_of place 0 (map end edges)
  numbers_are = ap numbers_in is ∙ numbers-of-ends other edges (numbers_of place 0 (map end edges))

  -- its numbers are those of edges
  pub list-within : (n : ℕ) → IsAmong n (numbers_in list) → n < length edges
  list-within n h = ((listed end none edges place n).0 (subst (IsAmong n) numbers_are h)).0

  -- each of it is an edge between the two places
  pub list-found : (q n : ℕ) → IsAmong (q, n) list → (n < length edges) × (end (get_or edges n no_edge) ≡ place) × (other (get_or edges n no_edge) ≡ q)
  list-found q n h = ends-listed end other none edges place q n (subst (IsAmong (q, n)) is h)

  -- an edge that is near at that end is one of the first
  pub list-near : (q n : ℕ) → end (get_or edges n no_edge) ≡ place → other (get_or edges n no_edge) ≡ q → IsAmong n (take NEAR (numbers_of (end (get_or edges n no_edge)) 0 (map end edges))) → IsAmong (q, n) (take NEAR list)
  list-near q n at to near =
      subst (λ x. IsAmong (x, n) (take NEAR list)) to
      (subst (λ xs. IsAmong (other (get_or edges n no_edge), n) (take NEAR xs)) (sym is)
      (among-first other edges n NEAR (numbers_of place 0 (map end edges)) (subst (λ p. IsAmong n (take NEAR (numbers_of p 0 (map end edges)))) at near)))

  -- so is one with that end, where the list has few
  pub list-first : (q n : ℕ) → n < length edges → end (get_or edges n no_edge) ≡ place → other (get_or edges n no_edge) ≡ q → length list ≤ NEAR → IsAmong (q, n) (take NEAR list)
  list-first q n inside at to few =
      let long = ap length is ∙ ends-long other edges (numbers_of place 0 (map end edges)) in
      subst (λ x. IsAmong (x, n) (take NEAR list)) to
      (subst (λ xs. IsAmong (other (get_or edges n no_edge), n) (take NEAR xs)) (sym is)
      (among-first other edges n NEAR (numbers_of place 0 (map end edges)) (first-all n NEAR (numbers_of place 0 (map end edges)) (omega arith) ((listed end none edges place n).1 (inside, at)))))

-- where no number is that of a pair, there is none
pub none_there : (o : Option ℕ) → ((n : ℕ) → o ≡ Some n → ⊥) → o ≡ None
none_there None never = refl
none_there (Some n) never = absurd (never n refl)

-- what is found near is right where only what is near can be found
pub near_is_right : (o m : Option ℕ) (P Q R : ℕ → Type 0) → ((n : ℕ) → (o ≡ Some n) ↔ P n) → ((n : ℕ) → P n → Q n) → ((n : ℕ) → R n → P n) → IfSome m R → IfNone m ((n : ℕ) → Q n → ⊥) → m ≡ o
near_is_right o None P Q R is near right found none = sym (none_there o (λ n there. none n (near n ((is n).0 there))))
near_is_right o (Some n) P Q R is near right found none = sym ((is n).1 (right n found))

-- what a map has is right where it has each number, and no wrong one
pub map_is_right : (o m : Option ℕ) → IfSome m (λ n. o ≡ Some n) → ((n : ℕ) → o ≡ Some n → m ≡ Some n) → m ≡ o
map_is_right None None right has = refl
map_is_right None (Some n) right has = absurd (none-some n right)
map_is_right (Some n) m right has = has n refl

-- what is so of each number that a look-up can find
pub some_told : (o m : Option ℕ) (P : ℕ → Type 0) → m ≡ o → ((n : ℕ) → o ≡ Some n → P n) → IfSome m P
some_told o None P is told = tt
some_told o (Some n) P is told = told n (sym is)

-- what holds of a number found
pub all_some : (o : Option ℕ) (P Q : ℕ → Type 0) → ((n : ℕ) → P n → Q n) → IfSome o P → IfSome o Q
all_some None P Q more found = tt
all_some (Some n) P Q more found = more n found
