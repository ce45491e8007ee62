-- The positive edges of a place, and what is kept of them as edges come, change and go.
use Rattle.std.proofs.Common.{◌≡◌, ◌≢◌, ◌<◌, ◌≤◌, ◌++◌, ℕ, Bool, cond, List, [], ◌∷◌, None, length, get_or, set, map, take, refl, sym, ◌∙◌, ap, subst, inl, inr, arith, get_or-set_other, get_or-set_same}
use Rattle.std.proofs.lemmas.Bool.{cases_eq, eq-eqb, ne_eqb}
use Rattle.std.proofs.lemmas.List.{append-nil, get_or-take, get_or_append_left, length-take-le}
use Rattle.crgc_ids.specs.Members.{IsAmong}
use Rattle.edge_table.specs.Ends.{numbers_of}
use Rattle.edge_table.specs.Partition.{AreParted, AreRising, CountsAt, IsKeptOf, IsParted, Kept, Parted, kept_of, nth_end, nth_of, numbers_in}
use Rattle.edge_table.specs.Table.{ArePositive, is_positive, is_positive_at, no_edge}
use Rattle.edge_table.specs.declared.table.Edge.{Edge}
use Rattle.edge_table.proofs.IndexLemmas.{among-at}
use Rattle.edge_table.proofs.EndsLemmas.{ends-back, ends-few, ends-listed, ends-longer, ends-same, ends_at, numbers-of-ends}
use Rattle.edge_table.proofs.ListedLemmas.{listed, numbers-rising}
use Rattle.edge_table.proofs.PartitionLemmas.{among-place, kept-alike, kept-none, nth-number, order-is}

-- the edge with this number is another now
pub counts-written : (edges : List Edge) (i : ℕ) (e : Edge) → i < length edges → CountsAt (is_positive_at edges) (is_positive_at (set edges i e)) i (is_positive e)
counts-written edges i e inside = record {
  here = ap is_positive (get_or-set_same edges i e no_edge inside);
  others = λ n apart. ap is_positive (get_or-set_other edges i n e no_edge apart);
}

-- where it is positive as before, all are
pub counts-same : (edges : List Edge) (i : ℕ) (e : Edge) → i < length edges → is_positive (get_or edges i no_edge) ≡ is_positive e → (n : ℕ) → is_positive_at (set edges i e) n ≡ is_positive_at edges n
counts-same edges i e inside same n = elim (cases_eq n i) [
  | inl is ↦ ap (is_positive_at (set edges i e)) is ∙ (counts-written edges i e inside).here ∙ sym same ∙ ap (is_positive_at edges) (sym is)
  | inr apart ↦ (counts-written edges i e inside).others n apart
]

-- an edge more changes none of the others
pub counts-longer : (edges : List Edge) (e : Edge) (n : ℕ) → n < length edges → is_positive_at (edges ++ e ∷ []) n ≡ is_positive_at edges n
counts-longer edges e n inside = ap is_positive (get_or_append_left edges (e ∷ []) no_edge n inside)

module _ (end other : Edge → ℕ) (none : end no_edge ≡ 0) where
  -- the numbers of the edges that have this place at the end
  numbers_are : (edges : List Edge) (place : ℕ) → numbers_in (ends_at end other edges place) ≡ numbers_of place 0 (map end edges)
  numbers_are edges place = numbers-of-ends other edges (numbers_of place 0 (map end edges))

  listed_is : (edges : List Edge) (place n : ℕ) → IsAmong n (numbers_in (ends_at end other edges place)) → (n < length edges) × (end (get_or edges n no_edge) ≡ place)
  listed_is edges place n h = (listed end none edges place n).0 (subst (IsAmong n) (numbers_are edges place) h)

  pub listed_back : (edges : List Edge) (place n : ℕ) → (n < length edges) × (end (get_or edges n no_edge) ≡ place) → IsAmong n (numbers_in (ends_at end other edges place))
  listed_back edges place n h = subst (IsAmong n) (sym (numbers_are edges place)) ((listed end none edges place n).1 h)

  -- they rise
  pub list-rising : (edges : List Edge) (place : ℕ) (list : List (ℕ × ℕ)) → list ≡ ends_at end other edges place → AreRising (numbers_in list)
  list-rising edges place list is = subst AreRising (sym (ap numbers_in is ∙ numbers_are edges place)) (numbers-rising place 0 (map end edges))

  -- and are no more than the edges
  pub list-few : (edges : List Edge) (place : ℕ) (list : List (ℕ × ℕ)) → list ≡ ends_at end other edges place → length list ≤ length edges
  list-few edges place list is =
      let few = ends-few end other none edges place in
      let same = ap length is in
      omega arith

  -- all edges of the place
  pub positive-whole : (edges : List Edge) (place : ℕ) (list : List (ℕ × ℕ)) → list ≡ ends_at end other edges place → ArePositive end other edges place list
  positive-whole edges place list is = record {
    all = λ n inside at positive. subst (IsAmong (other (get_or edges n no_edge), n)) (sym is) (ends-back end other none edges place n inside at);
    alone = λ p n among. ends-listed end other none edges place p n (subst (IsAmong (p, n)) is among);
  }

  -- those that stand first in what is kept
  pub positive-front : (edges : List Edge) (place : ℕ) (s : Parted) → IsParted (ends_at end other edges place) (is_positive_at edges) s → ArePositive end other edges place (take s.front s.order)
  positive-front edges place s parted = record {
    all = λ n inside at positive.
        let stands = among-place (other (get_or edges n no_edge), n) (ends_at end other edges place) (0, 0) (ends-back end other none edges place n inside at) in
        let k = stands.0 in
        let number : nth_of (numbers_in (ends_at end other edges place)) k ≡ n = nth-number (ends_at end other edges place) k ∙ ap (λ (x : ℕ × ℕ). x.1) stands.2 in
        let first = (parted.first k stands.1).1 (ap (is_positive_at edges) number ∙ positive) in
        let index = nth_of s.indices k in
        let long = front_long in
        let is : nth_end (take s.front s.order) index ≡ (other (get_or edges n no_edge), n) = get_or-take s.front s.order index (0, 0) first ∙ parted.there k stands.1 ∙ stands.2 in
        subst (λ x. IsAmong x (take s.front s.order)) is (among-at (take s.front s.order) index (0, 0) (omega arith));
    alone = λ p n among.
        let stands = among-place (p, n) (take s.front s.order) (0, 0) among in
        let i = stands.0 in
        let below = stands.1 in
        let few = parted.few in
        let long = front_long in
        let inside : i < length (ends_at end other edges place) = omega arith in
        let is : nth_end (ends_at end other edges place) (nth_of s.places i) ≡ (p, n) = sym (order-is (ends_at end other edges place) (is_positive_at edges) s parted i inside)
        ∙ sym (get_or-take s.front s.order i (0, 0) (omega arith)) ∙ stands.2 in
        ends-listed end other none edges place p n
        (subst (λ x. IsAmong x (ends_at end other edges place)) is (among-at (ends_at end other edges place) (nth_of s.places i) (0, 0) (parted.inside i inside)));
  }
    where
      front_long : length (take s.front s.order) ≡ s.front
      front_long = (let few = parted.few in let long = parted.long in length-take-le s.front s.order (omega arith))

  -- ---- an edge changes

  module _ (edges : List Edge) (i : ℕ) (e : Edge) (inside : i < length edges) (no_other : other no_edge ≡ 0) (ends : map end (set edges i e) ≡ map end edges) (others_stay : map other (set edges i e) ≡ map other edges) where
    list-same : (p : ℕ) → ends_at end other edges p ≡ ends_at end other (set edges i e) p
    list-same p = sym (ends-same end other none edges (set edges i e) no_other ends others_stay p)

    -- and is positive as before
    pub parted-same : (kept : Kept) → is_positive (get_or edges i no_edge) ≡ is_positive e → AreParted (ends_at end other edges) (is_positive_at edges) kept → AreParted (ends_at end other (set edges i e)) (is_positive_at (set edges i e)) kept
    parted-same kept same parted p =
        subst (λ ns. IsKeptOf ns (is_positive_at (set edges i e)) (kept_of kept p)) (list-same p)
        (kept-alike (ends_at end other edges p) (is_positive_at edges) (is_positive_at (set edges i e)) (kept_of kept p) (λ n among. counts-same edges i e inside same n) (parted p))

    -- or is set in what is kept of its place
    pub parted-set : (old new : Kept) (place : ℕ) (list : List (ℕ × ℕ)) → list ≡ ends_at end other edges place → end (get_or edges i no_edge) ≡ place → AreParted (ends_at end other edges) (is_positive_at edges) old
        → ((before after : ℕ → Bool) → CountsAt before after i (is_positive e) → IsKeptOf list before (kept_of old place) → IsKeptOf list after (kept_of new place))
        → ((p : ℕ) → p ≢ place → kept_of new p ≡ kept_of old p) → AreParted (ends_at end other (set edges i e)) (is_positive_at (set edges i e)) new
    parted-set old new place list is at parted set_there others p = elim (cases_eq p place) [
      | inl same ↦ subst (λ q. IsKeptOf (ends_at end other (set edges i e) q) (is_positive_at (set edges i e)) (kept_of new q)) (sym same)
          (subst (λ ns. IsKeptOf ns (is_positive_at (set edges i e)) (kept_of new place)) (is ∙ list-same place)
          (set_there (is_positive_at edges) (is_positive_at (set edges i e)) (counts-written edges i e inside) (subst (λ ns. IsKeptOf ns (is_positive_at edges) (kept_of old place)) (sym is) (parted place))))
      | inr apart ↦ subst (λ ns. IsKeptOf ns (is_positive_at (set edges i e)) (kept_of new p)) (list-same p)
          (subst (IsKeptOf (ends_at end other edges p) (is_positive_at (set edges i e))) (sym (others p apart))
          (kept-alike (ends_at end other edges p) (is_positive_at edges) (is_positive_at (set edges i e)) (kept_of old p)
          (λ n among. (counts-written edges i e inside).others n (λ is_i. apart (sym (listed_is edges p n among).1 ∙ ap (λ m. end (get_or edges m no_edge)) is_i ∙ at)))
          (parted p)))
    ]

  -- ---- an edge comes last, or is taken away

  module _ (edges : List Edge) (e : Edge) where
    more_at : (p : ℕ) → p ≡ end e → ends_at end other (edges ++ e ∷ []) p ≡ ends_at end other edges p ++ (other e, length edges) ∷ []
    more_at p is = ends-longer end other none edges e p ∙ ap (λ b. ends_at end other edges p ++ cond b ((other e, length edges) ∷ []) []) (eq-eqb p (end e) is)

    more_apart : (p : ℕ) → p ≢ end e → ends_at end other (edges ++ e ∷ []) p ≡ ends_at end other edges p
    more_apart p apart = ends-longer end other none edges e p ∙ ap (λ b. ends_at end other edges p ++ cond b ((other e, length edges) ∷ []) []) (ne_eqb p (end e) apart) ∙ append-nil (ends_at end other edges p)

    alike : (p n : ℕ) → IsAmong n (numbers_in (ends_at end other edges p)) → is_positive_at (edges ++ e ∷ []) n ≡ is_positive_at edges n
    alike p n among = counts-longer edges e n (listed_is edges p n among).0

    -- what was kept of its place is right for the longer list of edges
    pub kept-before : (kept : Kept) (list : List (ℕ × ℕ)) → list ≡ ends_at end other (edges ++ e ∷ []) (end e) → AreParted (ends_at end other edges) (is_positive_at edges) kept
        → (before : List (ℕ × ℕ)) × (list ≡ before ++ (other e, length edges) ∷ []) × IsKeptOf before (is_positive_at (edges ++ e ∷ [])) (kept_of kept (end e))
    kept-before kept list is parted =
        (ends_at end other edges (end e), is ∙ more_at (end e) refl, kept-alike (ends_at end other edges (end e)) (is_positive_at edges) (is_positive_at (edges ++ e ∷ [])) (kept_of kept (end e)) (alike (end e)) (parted (end e)))

    -- its place has grown
    pub parted-grown : (old new : Kept) (list : List (ℕ × ℕ)) → list ≡ ends_at end other (edges ++ e ∷ []) (end e) → AreParted (ends_at end other edges) (is_positive_at edges) old
        → IsKeptOf list (is_positive_at (edges ++ e ∷ [])) (kept_of new (end e)) → ((p : ℕ) → p ≢ end e → kept_of new p ≡ kept_of old p) → AreParted (ends_at end other (edges ++ e ∷ [])) (is_positive_at (edges ++ e ∷ [])) new
    parted-grown old new list is parted there others p = elim (cases_eq p (end e)) [
      | inl same ↦ subst (λ q. IsKeptOf (ends_at end other (edges ++ e ∷ []) q) (is_positive_at (edges ++ e ∷ [])) (kept_of new q)) (sym same)
          (subst (λ ns. IsKeptOf ns (is_positive_at (edges ++ e ∷ [])) (kept_of new (end e))) is there)
      | inr apart ↦ subst (λ ns. IsKeptOf ns (is_positive_at (edges ++ e ∷ [])) (kept_of new p)) (sym (more_apart p apart))
          (subst (IsKeptOf (ends_at end other edges p) (is_positive_at (edges ++ e ∷ []))) (sym (others p apart))
          (kept-alike (ends_at end other edges p) (is_positive_at edges) (is_positive_at (edges ++ e ∷ [])) (kept_of old p) (alike p) (parted p)))
    ]

    -- nothing is kept of its place
    pub parted-forgotten : (old new : Kept) → AreParted (ends_at end other (edges ++ e ∷ [])) (is_positive_at (edges ++ e ∷ [])) old
        → kept_of new (end e) ≡ None → ((p : ℕ) → p ≢ end e → kept_of new p ≡ kept_of old p) → AreParted (ends_at end other edges) (is_positive_at edges) new
    parted-forgotten old new parted gone others p = elim (cases_eq p (end e)) [
      | inl same ↦ kept-none (ends_at end other edges p) (is_positive_at edges) (kept_of new p) (ap (kept_of new) same ∙ gone)
      | inr apart ↦ subst (IsKeptOf (ends_at end other edges p) (is_positive_at edges)) (sym (others p apart))
          (kept-alike (ends_at end other edges p) (is_positive_at (edges ++ e ∷ [])) (is_positive_at edges) (kept_of old p) (λ n among. sym (alike p n among))
          (subst (λ ns. IsKeptOf ns (is_positive_at (edges ++ e ∷ [])) (kept_of old p)) (more_apart p apart) (parted p)))
    ]
