-- Edges by the pair of their owner and their target.
use Rattle.std.proofs.Common.{◌≡◌, ◌+◌, ◌<◌, ◌+ℤ◌, ◌-ℤ◌, ℕ, ℤ, pos, zero, suc, Bool, true, false, cond, List, [], ◌∷◌, Some, None, length, get_or, set, take, position, refl, sym, ◌∙◌, ap, arith}
use Rattle.std.proofs.lemmas.Bool.{lt-ltb}
use Rattle.std.proofs.lemmas.Int.{ints}
use Rattle.std.proofs.lemmas.Bool.Decides.{Decides-and, Decides-like}
use Rattle.std.proofs.lemmas.List.{length-set}
use Rattle.std.specs.Bool.{Decides}
use Rattle.std.specs.List.{list_any, position_or_len}
use Rattle.crgc_ids.specs.Actor.{Actor, same_actor}
use Rattle.crgc_ids.specs.declared.rising.PairCount.{PairCount}
use Rattle.crgc_ids.proofs.ActorLaws.{same_actor-decides}
use Rattle.history_model.specs.Ledgers.{pair_total}
use Rattle.edge_table.specs.Table.{Edges, edge_at, no_edge, same_pair, with_edge, with_given, with_released}
use Rattle.edge_table.specs.declared.table.Edge.{Edge}
use Rattle.shadow_rows.specs.Pairs.{ChangesEdge, ChangesEdges, KeepsEnds, edge_between, has_pair}
use Rattle.shadow_table.proofs.KeyedLemmas.{found-changed, place-within}
use Rattle.shadow_table.proofs.RowLemmas.{total-more}

pub same_pair-decides : (p q : Actor × Actor) → Decides (same_pair p q) (p ≡ q)
same_pair-decides p q =
    Decides-like (same_pair p q) (λ h. (λ i. (h.0 i, h.1 i))) (λ e. (ap (λ x. x.0) e, ap (λ x. x.1) e))
    (Decides-and (same_actor p.0 q.0) (same_actor p.1 q.1) (same_actor-decides p.0 q.0) (same_actor-decides p.1 q.1))

-- a pair that is there has a number
pub number-there : {K : Type 0} (test : K → Bool) (ks : List K) → list_any test ks ≡ true → position test ks ≡ Some (position_or_len test ks)
number-there test ks there =
    ap (λ b. cond b (Some (position_or_len test ks)) None) (lt-ltb (position_or_len test ks) (length ks) (place-within test ks there))

-- an edge that keeps its ends is changed
pub edge-changed : (t : Edges) (owner target : Actor) (number : ℕ) (now : Edge) (change : Edge → Edge) → has_pair t.pairs owner target ≡ true → number ≡ position_or_len (same_pair (owner, target)) t.pairs → number < length t.edges → now.owner ≡ (edge_at t number).owner → now.target ≡ (edge_at t number).target → now ≡ change (edge_at t number) → ChangesEdge t (with_edge t number now) owner target change
edge-changed t owner target number now change there is inside same_owner same_target changed = record {
  ends = record {
    pairs = refl;
    places = refl;
    long = length-set t.edges number now;
    owner = kept (λ e. e.owner) t.edges number inside same_owner;
    target = kept (λ e. e.target) t.edges number inside same_target;
  };
  edges = λ b a. (
      let old : Edge = edge_between t b a in
      let Case : Bool → Type 0 = λ v. same_pair (b, a) (owner, target) ≡ v → cond v now old ≡ cond v (change old) old in
      let case : Case (same_pair (b, a) (owner, target)) = elim (same_pair (b, a) (owner, target)) as Case [
        | true ↦ λ v. changed ∙ ap (λ i. change (get_or t.edges i no_edge)) (is ∙ ap (λ p. position_or_len (same_pair p) t.pairs) (sym ((same_pair-decides (b, a) (owner, target)).0 v)))
        | false ↦ λ _. refl
      ] in
      let within = place-within (same_pair (owner, target)) t.pairs there in
      found-changed same_pair same_pair-decides no_edge t.pairs t.edges (owner, target) number now (omega arith) is inside (b, a) ∙ case refl
      );
}
  where
    kept : (end : Edge → ℕ) (edges : List Edge) (i : ℕ) → i < length edges → end now ≡ end (get_or edges i no_edge) → (k : ℕ) → end (get_or (set edges i now) k no_edge) ≡ end (get_or edges k no_edge)
    kept end [] i inside same k = absurd (omega arith)
    kept end (e ∷ edges) zero inside same zero = same
    kept end (e ∷ edges) zero inside same (suc k) = refl
    kept end (e ∷ edges) (suc i) inside same zero = refl
    kept end (e ∷ edges) (suc i) inside same (suc k) = kept end edges i (omega arith) same k

-- ---- ends

pub keeps-self : (e : Edges) → KeepsEnds e e
keeps-self e = record { pairs = refl; places = refl; long = refl; owner = λ k. refl; target = λ k. refl }

pub keeps-more : (t u v : Edges) → KeepsEnds t u → KeepsEnds u v → KeepsEnds t v
keeps-more t u v first then = record {
  pairs = then.pairs ∙ first.pairs;
  places = then.places ∙ first.places;
  long = then.long ∙ first.long;
  owner = λ k. then.owner k ∙ first.owner k;
  target = λ k. then.target k ∙ first.target k;
}

-- ---- edges that change row by row

module _ (change : ℕ → Edge → Edge) (adds : (m n : ℕ) (e : Edge) → change n (change m e) ≡ change (m + n) e) where
  row-or-none : (v : Bool) (m n : ℕ) (e : Edge) → cond v (change n (change m e)) (change m e) ≡ change (m + cond v n 0) e
  row-or-none true m n e = adds m n e
  row-or-none false m n e = ap (λ k. change k e) (omega arith)

  -- the edges with one row more
  pub row-changed : (rows : List PairCount) (i : ℕ) (r : PairCount) (t u v : Edges) → i < length rows → r ≡ get_or rows i r → ChangesEdges t u (λ b a e. change (pair_total b a (take i rows)) e) → ChangesEdge u v r.owner r.target (change r.count) → ChangesEdges t v (λ b a e. change (pair_total b a (take (i + 1) rows)) e)
  row-changed rows i r t u v inside is before here = record {
    ends = keeps-more t u v before.ends here.ends;
    edges = λ b a. (
        let named = same_pair (b, a) (r.owner, r.target) in
        let more = total-more {K = Actor × Actor} same_pair (λ (x : PairCount). (x.owner, x.target)) (λ (x : PairCount). x.count) (b, a) rows i r inside is in
        here.edges b a
        ∙ ap (λ (e : Edge). cond named (change r.count e) e) (before.edges b a)
        ∙ row-or-none named (pair_total b a (take i rows)) r.count (edge_between t b a)
        ∙ ap (λ k. change k (edge_between t b a)) (sym more)
        );
  }

pub given-adds : (m n : ℕ) (e : Edge) → with_given n (with_given m e) ≡ with_given (m + n) e
given-adds m n e = ap (λ count. record e { count = count }) (sum e.count)
  where
    sum : (z : ℤ) → (z +ℤ pos m) +ℤ pos n ≡ z +ℤ pos (m + n)
    sum z = omega (arith, ints)

pub released-adds : (m n : ℕ) (e : Edge) → with_released n (with_released m e) ≡ with_released (m + n) e
released-adds m n e = ap (λ count. record e { count = count }) (sum e.count)
  where
    sum : (z : ℤ) → (z -ℤ pos m) -ℤ pos n ≡ z -ℤ pos (m + n)
    sum z = omega (arith, ints)
