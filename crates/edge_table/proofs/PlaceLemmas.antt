-- Where a place stands in a list of places, and the lists that edges have by place.
use Rattle.std.proofs.Common.{◌≡◌, ◌≢◌, ◌+◌, ◌-◌, ◌<◌, ℕ, zero, suc, Bool, true, false, cond, List, [], ◌∷◌, ◌++◌, eqb, length, get_or, set, take, get_or-set_other, get_or-set_same, refl, sym, ◌∙◌, ap, inl, inr, arith}
use Rattle.std.proofs.Math.Seq.{take-append_seam}
use Rattle.std.proofs.lemmas.Bool.{cases_eq, eq-eqb, ne_eqb}
use Rattle.std.proofs.lemmas.List.{append-nil, get_or_default, length-append}
use Rattle.std.proofs.lemmas.Bool.Decides.{nat_tests}
use Rattle.std.specs.List.{AllByRecursion}
use Rattle.edge_table.proofs.EndsLemmas.{ends-longer, ends_at}
use Rattle.edge_table.specs.Ends.{PlaceEnds, no_ends, numbers_of}
use Rattle.edge_table.specs.Table.{no_edge}
use Rattle.edge_table.specs.declared.table.Edge.{Edge}

-- a place that has no number stands nowhere
pub numbers-none : (p k : ℕ) (xs : List ℕ) → numbers_of p k xs ≡ [] → AllByRecursion (λ x. x ≢ p) xs
numbers-none p k [] e = tt
numbers-none p k (x ∷ xs) e =
    let Case : Bool → Type 0 = λ b. eqb p x ≡ b → cond b (k ∷ numbers_of p (k + 1) xs) (numbers_of p (k + 1) xs) ≡ [] → AllByRecursion (λ y. y ≢ p) (x ∷ xs) in
    let case : Case (eqb p x) = elim (eqb p x) as Case [
      | true ↦ λ t f. absurd (cc)
      | false ↦ λ t f. ((λ same. differs x p t same), numbers-none p (k + 1) xs f)
    ] in
    case refl e
  where
    differs : (x p : ℕ) → eqb p x ≡ false → x ≡ p → ⊥
    differs x p t same = grind (arith, nat_tests)

-- what a side of each place has, by one end of the edges
abbrev pub Lists : (PlaceEnds → List (ℕ × ℕ)) → (Edge → ℕ) → (Edge → ℕ) → List PlaceEnds → List Edge → Type 0
Lists side end other places edges = (p : ℕ) → side (get_or places p no_ends) ≡ ends_at end other edges p

module _ (side : PlaceEnds → List (ℕ × ℕ)) (none : side no_ends ≡ []) where
  -- a place without edges may be added
  pub place-added : (places : List PlaceEnds) (new : PlaceEnds) (p : ℕ) → side new ≡ [] → side (get_or (places ++ new ∷ []) p no_ends) ≡ side (get_or places p no_ends)
  place-added [] new zero e = e ∙ sym none
  place-added [] new (suc p) e = refl
  place-added (x ∷ places) new zero e = refl
  place-added (x ∷ places) new (suc p) e = place-added places new p e

  -- and taken away
  pub place-removed : (f : ℕ → List (ℕ × ℕ)) (places : List PlaceEnds) (last : PlaceEnds) (p : ℕ) → ((q : ℕ) → side (get_or (places ++ last ∷ []) q no_ends) ≡ f q) → f (length places) ≡ [] → side (get_or places p no_ends) ≡ f p
  place-removed f [] last zero all e = none ∙ sym e
  place-removed f [] last (suc p) all e = all (suc p)
  place-removed f (x ∷ places) last zero all e = all zero
  place-removed f (x ∷ places) last (suc p) all e = place-removed (λ q. f (suc q)) places last p (λ q. all (suc q)) e

module _ (side : PlaceEnds → List (ℕ × ℕ)) where
  -- a place that changes on the other side alone
  pub side-stays : (places : List PlaceEnds) (i : ℕ) (v w : PlaceEnds) (p : ℕ) → i < length places → w ≡ get_or places i w → side v ≡ side w → side (get_or (set places i v) p no_ends) ≡ side (get_or places p no_ends)
  side-stays places i v w p inside read same =
      elim (cases_eq p i) [
        | inl e ↦ (
            let new = ap (λ q. side (get_or (set places i v) q no_ends)) e ∙ ap side (get_or-set_same places i v no_ends inside) in
            let old = ap (λ q. side (get_or places q no_ends)) e ∙ ap side (get_or_default places i no_ends w inside ∙ sym read) in
            new ∙ same ∙ sym old
            )
        | inr differ ↦ ap side (get_or-set_other places i p v no_ends differ)
      ]

  module _ (end other : Edge → ℕ) (none : end no_edge ≡ 0) where
    -- an edge comes last in the list of its end, and in no other
    pub edge-pushed : (places : List PlaceEnds) (edges : List Edge) (e : Edge) (i n : ℕ) (v w : PlaceEnds) → Lists side end other places edges → i < length places → i ≡ end e → n ≡ length edges → w ≡ get_or places i w → side v ≡ side w ++ (other e, n) ∷ [] → Lists side end other (set places i v) (edges ++ e ∷ [])
    edge-pushed places edges e i n v w lists inside is last read pushed = λ p.
        elim (cases_eq p i) [
          | inl same ↦ (
              let own : side w ≡ ends_at end other edges p = ap side (read ∙ get_or_default places i w no_ends inside) ∙ ap (λ q. side (get_or places q no_ends)) (sym same) ∙ lists p in
              let here : eqb p (end e) ≡ true = eq-eqb p (end e) (same ∙ is) in
              ap (λ q. side (get_or (set places i v) q no_ends)) same ∙ ap side (get_or-set_same places i v no_ends inside) ∙ pushed
              ∙ ap (λ ns. ns ++ (other e, n) ∷ []) own ∙ ap (λ m. ends_at end other edges p ++ (other e, m) ∷ []) last
              ∙ sym (ends-longer end other none edges e p ∙ ap (λ b. ends_at end other edges p ++ cond b ((other e, length edges) ∷ []) []) here)
              )
          | inr differ ↦ (
              let there : eqb p (end e) ≡ false = ne_eqb p (end e) (λ f. differ (f ∙ sym is)) in
              ap side (get_or-set_other places i p v no_ends differ) ∙ lists p ∙ sym (append-nil (ends_at end other edges p))
              ∙ sym (ends-longer end other none edges e p ∙ ap (λ b. ends_at end other edges p ++ cond b ((other e, length edges) ∷ []) []) there)
              )
        ]

    -- the last edge is taken away where it comes last
    pub edge-popped : (places : List PlaceEnds) (edges : List Edge) (e : Edge) (i : ℕ) (v w : PlaceEnds) → Lists side end other places (edges ++ e ∷ []) → i < length places → i ≡ end e → w ≡ get_or places i w → side v ≡ take (length (side w) - 1) (side w) → Lists side end other (set places i v) edges
    edge-popped places edges e i v w lists inside is read popped = λ p.
        elim (cases_eq p i) [
          | inl same ↦ (
              let ns = ends_at end other edges p in
              let here : eqb p (end e) ≡ true = eq-eqb p (end e) (same ∙ is) in
              let own : side w ≡ ns ++ (other e, length edges) ∷ [] = ap side (read ∙ get_or_default places i w no_ends inside) ∙ ap (λ q. side (get_or places q no_ends)) (sym same) ∙ lists p ∙ ends-longer end other none edges e p ∙ ap (λ b. ns ++ cond b ((other e, length edges) ∷ []) []) here in
              let long : length (side w) - 1 ≡ length ns = (let l = ap length own ∙ length-append ns ((other e, length edges) ∷ []) in let one : length {A = ℕ × ℕ} ((other e, length edges) ∷ []) ≡ 1 = refl in omega arith) in
              ap (λ q. side (get_or (set places i v) q no_ends)) same ∙ ap side (get_or-set_same places i v no_ends inside) ∙ popped
              ∙ ap (λ m. take m (side w)) long ∙ ap (take (length ns)) own ∙ take-append_seam ns ((other e, length edges) ∷ [])
              )
          | inr differ ↦ (
              let there : eqb p (end e) ≡ false = ne_eqb p (end e) (λ f. differ (f ∙ sym is)) in
              ap side (get_or-set_other places i p v no_ends differ) ∙ lists p
              ∙ ends-longer end other none edges e p ∙ ap (λ b. ends_at end other edges p ++ cond b ((other e, length edges) ∷ []) []) there ∙ append-nil (ends_at end other edges p)
              )
        ]
