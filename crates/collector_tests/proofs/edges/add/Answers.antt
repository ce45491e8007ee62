use Rattle.std.proofs.Common.{◌≡◌, ◌+◌, ◌++◌, ℕ, [], ◌∷◌, Some, ap, arith, get_or, inl, inr, length, pos, position, subst, sym, ◌∙◌}
use Rattle.std.proofs.Math.Seq.{get_or-append_seam}
use Rattle.std.proofs.lemmas.Bool.{cases_lt}
use Rattle.std.proofs.lemmas.List.{get_or_append_left, length-append}
use Rattle.std.specs.List.{IsDistinct}
use Rattle.crgc_ids.specs.Actor.{Actor}
use Rattle.edge_table.specs.Table.{Edges, HasEnds, IsBetween, no_edge, same_pair}
use Rattle.edge_table.specs.declared.table.Edge.{Edge}
use Rattle.edge_table.proofs.IndexLemmas.{number-at, position-more, position-pushed}
use Rattle.crgc_ids.proofs.KeyOrders.{pair_order}
use Rattle.collector_tests.proofs.edges.add.Goals as goal

-- actors of one node with one serial are the same
one_actor : (a b : Actor) → a.node ≡ 0 → b.node ≡ 0 → a.serial ≡ b.serial → a ≡ b
one_actor a b a_node b_node same = λ i. record { node = (a_node ∙ sym b_node) i; serial = same i }

-- the ends of an edge that is added are its actors' serials, as those of the others are
module _ (t : Edges) (owner target : Actor) (e : Edge) (long : length t.edges ≡ length t.pairs) (distinct : IsDistinct same_pair (t.pairs ++ (owner, target) ∷ [])) (owner_is : e.owner ≡ owner.serial) (target_is : e.target ≡ target.serial) (owner_node : owner.node ≡ 0) (target_node : target.node ≡ 0) where
  abbrev edges : ℕ → Edge
  edges n = get_or (t.edges ++ e ∷ []) n no_edge

  last : edges (length t.edges) ≡ e
  last = get_or-append_seam t.edges e [] no_edge

  longer : length (t.edges ++ e ∷ []) ≡ length t.edges + 1
  longer = length-append t.edges (e ∷ [])

  has : (a b : Actor) → HasEnds t a b a.serial b.serial → (n : ℕ) → position (same_pair (a, b)) (t.pairs ++ (owner, target) ∷ []) ≡ Some n → IsBetween (t.edges ++ e ∷ []) n a.serial b.serial
  has a b ends n there = elim (position-pushed (a, b) (owner, target) t.pairs n there) [
    | inl before ↦ (
        let old = (ends n).0 before in
        let inside = old.0 in
        let more = longer in
        let same = get_or_append_left t.edges (e ∷ []) no_edge n inside in
        (omega arith, ap (λ (x : Edge). x.owner) same ∙ old.1, ap (λ (x : Edge). x.target) same ∙ old.2)
        )
    | inr is_last ↦ (
        let at = ap edges (sym (long ∙ is_last.1)) ∙ last in
        let number = is_last.1 in
        let more = longer in
        let same = long in (
          omega arith,
          ap (λ (x : Edge). x.owner) at ∙ owner_is ∙ ap (λ (p : Actor × Actor). p.0.serial) (sym is_last.0),
          ap (λ (x : Edge). x.target) at ∙ target_is ∙ ap (λ (p : Actor × Actor). p.1.serial) (sym is_last.0),
        )
        )
  ]

  is : (a b : Actor) → a.node ≡ 0 → b.node ≡ 0 → HasEnds t a b a.serial b.serial → (n : ℕ) → IsBetween (t.edges ++ e ∷ []) n a.serial b.serial → position (same_pair (a, b)) (t.pairs ++ (owner, target) ∷ []) ≡ Some n
  is a b a_node b_node ends n at = elim (cases_lt n (length t.edges)) [
    | inl before ↦ (
        let same = get_or_append_left t.edges (e ∷ []) no_edge n before in
        position-more (same_pair (a, b)) t.pairs ((owner, target) ∷ []) n ((ends n).1 (before, sym (ap (λ (x : Edge). x.owner) same) ∙ at.1, sym (ap (λ (x : Edge). x.target) same) ∙ at.2))
        )
    | inr past ↦ (
        let inside = at.0 in
        let more = longer in
        let number : length t.edges ≡ n = omega arith in
        let edge_is = ap edges (sym number) ∙ last in
        let owner_same = one_actor owner a owner_node a_node (sym owner_is ∙ ap (λ (x : Edge). x.owner) (sym edge_is) ∙ at.1) in
        let target_same = one_actor target b target_node b_node (sym target_is ∙ ap (λ (x : Edge). x.target) (sym edge_is) ∙ at.2) in
        let pair_is : (owner, target) ≡ (a, b) = λ i. (owner_same i, target_same i) in
        let d : Actor × Actor = (owner, target) in
        let stands : get_or (t.pairs ++ (owner, target) ∷ []) n d ≡ (a, b) = ap (λ k. get_or (t.pairs ++ (owner, target) ∷ []) k d) (sym (sym long ∙ number)) ∙ get_or-append_seam t.pairs (owner, target) [] d ∙ pair_is in
        let pairs_longer = length-append t.pairs ((owner, target) ∷ []) in
        let same = long in
        (number-at (a, b) (t.pairs ++ (owner, target) ∷ []) n d distinct (omega arith)).0 ((pair_order.told (get_or (t.pairs ++ (owner, target) ∷ []) n d) (a, b)).1 stands)
        )
  ]

-- so it is for the table with the edge
added : (t u : Edges) (owner target : Actor) (e : Edge) → length t.edges ≡ length t.pairs → IsDistinct same_pair u.pairs → u ≡ record t { pairs = t.pairs ++ (owner, target) ∷ []; edges = t.edges ++ e ∷ [] } → e.owner ≡ owner.serial → e.target ≡ target.serial → owner.node ≡ 0 → target.node ≡ 0 → ((a b : Actor) → a.node ≡ 0 → b.node ≡ 0 → HasEnds t a b a.serial b.serial) → (a b : Actor) → a.node ≡ 0 → b.node ≡ 0 → HasEnds u a b a.serial b.serial
added t u owner target e long distinct u_is owner_is target_is owner_node target_node ends a b a_node b_node =
    let apart = subst (IsDistinct same_pair) (ap (λ (x : Edges). x.pairs) u_is) distinct in
    let old = ends a b a_node b_node in
    subst (λ (x : Edges). HasEnds x a b a.serial b.serial) (sym u_is) (λ n. (
      has t owner target e long apart owner_is target_is owner_node target_node a b old n,
      is t owner target e long apart owner_is target_is owner_node target_node a b a_node b_node old n,
    ))

pub number_of-requires-clause-ends : goal.number_of-requires-clause-ends
number_of-requires-clause-ends c =
    let from = c.in_ok-from.ensures in
    let to = c.in_ok-to.ensures in
    subst (λ p. HasEnds c.args.table.now c.in_ok-from.from c.in_ok-to.to p c.args.target) from.serial
    (subst (λ q. HasEnds c.args.table.now c.in_ok-from.from c.in_ok-to.to c.in_ok-from.from.serial q) to.serial (c.requires c.in_ok-from.from c.in_ok-to.to from.node to.node))

pub returns : goal.returns
returns c =
    added c.args.table.now c.add.new.self c.in_ok-from.from c.in_ok-to.to (record { owner = c.args.owner; target = c.args.target; count = pos 0 })
    c.number_of.ensures.long c.edge_count-edges.ensures.distinct c.in_ok-number.ensures.ok (sym c.in_ok-from.ensures.serial) (sym c.in_ok-to.ensures.serial) c.in_ok-from.ensures.node c.in_ok-to.ensures.node c.requires
