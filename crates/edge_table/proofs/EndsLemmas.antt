-- The edges that are listed at a place, each with its other end before its number.
use Rattle.std.proofs.Common.{◌≡◌, ◌<◌, ◌≤◌, ◌++◌, ℕ, suc, Bool, true, false, cond, List, [], ◌∷◌, eqb, get_or, length, map, take, refl, sym, ◌∙◌, ap, subst, inl, inr, arith}
use Rattle.std.proofs.Math.Seq.{get_or-append_seam}
use Rattle.std.proofs.lemmas.List.{append-nil, get_or_append_left, length-map, map_push, take-map}
use Rattle.crgc_ids.specs.Members.{IsAmong}
use Rattle.edge_table.specs.Ends.{numbers_of}
use Rattle.edge_table.specs.Partition.{numbers_in}
use Rattle.edge_table.specs.Table.{ends_of, no_edge}
use Rattle.edge_table.specs.declared.table.Edge.{Edge}
use Rattle.edge_table.proofs.ListedLemmas.{end_at, listed, longer, numbers-few}

-- the edges that have this place at the one end, each with the other
abbrev pub ends_at : (Edge → ℕ) → (Edge → ℕ) → List Edge → ℕ → List (ℕ × ℕ)
ends_at end other edges place = ends_of other edges (numbers_of place 0 (map end edges))

-- ---- numbers, and what stands before them

module _ (other : Edge → ℕ) (edges : List Edge) where
  pub numbers-of-ends : (ns : List ℕ) → numbers_in (ends_of other edges ns) ≡ ns
  numbers-of-ends [] = refl
  numbers-of-ends (n ∷ ns) = ap (λ ms. n ∷ ms) (numbers-of-ends ns)

  pub among-numbers : (q n : ℕ) (ns : List ℕ) → IsAmong (q, n) (ends_of other edges ns) → IsAmong n ns × (other (get_or edges n no_edge) ≡ q)
  among-numbers q n [] h = absurd h
  among-numbers q n (m ∷ ns) (inl e) =
      let is : n ≡ m = ap (λ (x : ℕ × ℕ). x.1) e in
      (inl is, ap (λ x. other (get_or edges x no_edge)) is ∙ sym (ap (λ (x : ℕ × ℕ). x.0) e))
  among-numbers q n (m ∷ ns) (inr h) = (let rest = among-numbers q n ns h in (inr rest.0, rest.1))

  pub among-ends : (n : ℕ) (ns : List ℕ) → IsAmong n ns → IsAmong (other (get_or edges n no_edge), n) (ends_of other edges ns)
  among-ends n [] h = absurd h
  among-ends n (m ∷ ns) (inl is) = inl (λ i. (other (get_or edges (is i) no_edge), is i))
  among-ends n (m ∷ ns) (inr h) = inr (among-ends n ns h)

  pub ends-long : (ns : List ℕ) → length (ends_of other edges ns) ≡ length ns
  ends-long [] = refl
  ends-long (n ∷ ns) = ap suc (ends-long ns)

  -- among the first
  pub among-first : (n k : ℕ) (ns : List ℕ) → IsAmong n (take k ns) → IsAmong (other (get_or edges n no_edge), n) (take k (ends_of other edges ns))
  among-first n k ns h = subst (IsAmong (other (get_or edges n no_edge), n)) (sym (take-map (λ m. (other (get_or edges m no_edge), m)) k ns)) (among-ends n (take k ns) h)

  -- where the edges of the numbers have the same other end
  pub ends-alike : (edges' : List Edge) (ns : List ℕ) → ((n : ℕ) → IsAmong n ns → other (get_or edges' n no_edge) ≡ other (get_or edges n no_edge)) → ends_of other edges' ns ≡ ends_of other edges ns
  ends-alike edges' [] same = refl
  ends-alike edges' (n ∷ ns) same = λ i. (same n (inl refl) i, n) ∷ ends-alike edges' ns (λ m h. same m (inr h)) i

  -- an edge more, where its number comes last or not
  pub longer-ends : (e : Edge) (ns : List ℕ) → ((n : ℕ) → IsAmong n ns → n < length edges) → (b : Bool) → ends_of other (edges ++ e ∷ []) (ns ++ cond b (length edges ∷ []) []) ≡ ends_of other edges ns ++ cond b ((other e, length edges) ∷ []) []
  longer-ends e ns within b = elim b as (λ b. ends_of other (edges ++ e ∷ []) (ns ++ cond b (length edges ∷ []) []) ≡ ends_of other edges ns ++ cond b ((other e, length edges) ∷ []) []) [
    | true ↦ map_push {X = ℕ} {Y = ℕ × ℕ} (λ n. (other (get_or (edges ++ e ∷ []) n no_edge), n)) ns (length edges) ∙ (λ i. before i ++ here i ∷ [])
    | false ↦ ap (ends_of other (edges ++ e ∷ [])) (append-nil ns) ∙ before ∙ sym (append-nil (ends_of other edges ns))
  ]
    where
      before : ends_of other (edges ++ e ∷ []) ns ≡ ends_of other edges ns
      before = ends-alike (edges ++ e ∷ []) ns (λ n h. ap other (get_or_append_left edges (e ∷ []) no_edge n (within n h)))

      here : ◌≡◌ {A = ℕ × ℕ} (other (get_or (edges ++ e ∷ []) (length edges) no_edge), length edges) (other e, length edges)
      here = ap (λ x. (other x, length edges)) (get_or-append_seam edges e [] no_edge)

-- ---- at a place

module _ (end other : Edge → ℕ) (none : end no_edge ≡ 0) where
  -- which edges are listed at it
  pub ends-listed : (edges : List Edge) (place q n : ℕ) → IsAmong (q, n) (ends_at end other edges place) → (n < length edges) × (end (get_or edges n no_edge) ≡ place) × (other (get_or edges n no_edge) ≡ q)
  ends-listed edges place q n h =
      let there = among-numbers other edges q n (numbers_of place 0 (map end edges)) h in
      let is = (listed end none edges place n).0 there.0 in
      (is.0, is.1, there.1)

  pub ends-back : (edges : List Edge) (place n : ℕ) → n < length edges → end (get_or edges n no_edge) ≡ place → IsAmong (other (get_or edges n no_edge), n) (ends_at end other edges place)
  ends-back edges place n inside at = among-ends other edges n (numbers_of place 0 (map end edges)) ((listed end none edges place n).1 (inside, at))

  -- an edge more
  pub ends-longer : (edges : List Edge) (e : Edge) (p : ℕ) → ends_at end other (edges ++ e ∷ []) p ≡ ends_at end other edges p ++ cond (eqb p (end e)) ((other e, length edges) ∷ []) []
  ends-longer edges e p =
      ap (ends_of other (edges ++ e ∷ [])) (longer end edges e p)
      ∙ longer-ends other edges e (numbers_of p 0 (map end edges)) (λ n h. ((listed end none edges p n).0 h).0) (eqb p (end e))

  -- edges that keep their ends
  pub ends-same : (edges edges' : List Edge) → other no_edge ≡ 0 → map end edges' ≡ map end edges → map other edges' ≡ map other edges → (p : ℕ) → ends_at end other edges' p ≡ ends_at end other edges p
  ends-same edges edges' no_other same_end same_other p =
      ap (λ l. ends_of other edges' (numbers_of p 0 l)) same_end
      ∙ ends-alike other edges edges' (numbers_of p 0 (map end edges)) (λ n h. sym (end_at other no_other edges' n) ∙ ap (λ l. get_or l n 0) same_other ∙ end_at other no_other edges n)

  -- no more than the edges
  pub ends-few : (edges : List Edge) (p : ℕ) → length (ends_at end other edges p) ≤ length edges
  ends-few edges p =
      let same = ends-long other edges (numbers_of p 0 (map end edges)) in
      let few = numbers-few p 0 (map end edges) in
      let long = length-map edges end in
      omega arith
