-- Rows that count actors, and rows that count pairs, as they are sorted and added up.
use Rattle.std.proofs.Common.{◌≡◌, ◌⊎◌, ◌+◌, ◌<◌, ◌≤◌, ℕ, Bool, true, false, cond, min, Ordering, sym, ◌∙◌, ap, inl, inr, arith}
use Rattle.std.proofs.lemmas.Bool.{false≢true}
use Rattle.std.specs.Ordering.{MatchOrdering, is_lt, ordering_then}
use Rattle.std.specs.declared.cmp.Ordering.TheVariants.{Equal, Greater, Less}
use Rattle.crgc_ids.proofs.ActorOrder.{actor_cmp-tells}
use Rattle.crgc_ids.specs.Actor.{Actor, IsActorBelow}
use Rattle.row_sums.specs.Orders.{compare_actors, compare_pairs}
use Rattle.row_sums.proofs.SumLemmas.{AtMost, TakesIn}
use Rattle.crgc_ids.proofs.KeyOrders.{PairBelow}

-- where the second key does not come before the first, it is above the first, or the two are one and what comes next
-- decides
pub not_less : {K : Type 0} (cmp : K → K → Ordering) (below : K → K → Type 0) (tells : (j k : K) → MatchOrdering (cmp j k) (below j k) (j ≡ k) (below k j)) (j k : K) (next : Ordering) → is_lt (ordering_then (cmp k j) next) ≡ false → below j k ⊎ ((j ≡ k) × (is_lt next ≡ false))
not_less cmp below tells j k next h =
    let Case : Ordering → Type 0 = λ o. MatchOrdering o (below k j) (k ≡ j) (below j k) → is_lt (ordering_then o next) ≡ false → below j k ⊎ ((j ≡ k) × (is_lt next ≡ false)) in
    let case : Case (cmp k j) = elim (cmp k j) as Case [
      | Less ↦ λ _ t. absurd (false≢true (sym t))
      | Equal ↦ λ same t. inr (sym same, t)
      | Greater ↦ λ above _. inl above
    ] in
    case (tells k j) h

-- of two actors that sorting left in their order, the first is not above the second
pub actors-sorted : (a b : Actor) → is_lt (compare_actors b a) ≡ false → AtMost IsActorBelow a b
actors-sorted a b h =
    let Case : Ordering → Type 0 = λ o. MatchOrdering o (IsActorBelow b a) (b ≡ a) (IsActorBelow a b) → is_lt o ≡ false → AtMost IsActorBelow a b in
    let case : Case (compare_actors b a) = elim (compare_actors b a) as Case [
      | Less ↦ λ _ t. absurd (false≢true (sym t))
      | Equal ↦ λ same _. inl (sym same)
      | Greater ↦ λ above _. inr above
    ] in
    case (actor_cmp-tells b a) h

-- so it is with pairs
pub pairs-sorted : (p q : Actor × Actor) → is_lt (compare_pairs q p) ≡ false → AtMost PairBelow p q
pairs-sorted p q h =
    elim (not_less compare_actors IsActorBelow actor_cmp-tells p.0 q.0 (compare_actors q.1 p.1) h) [
      | inl below ↦ inr (inl below)
      | inr owner ↦ elim (actors-sorted p.1 q.1 owner.1) [ inl target ↦ inl (λ i. (owner.0 i, target i)) | inr below ↦ inr (inr (owner.0, below)) ]
    ]

-- a row that takes in the next one up to the greatest count that it has room for
module _ {K X : Type 0} (same : K → K → Bool) (key : X → K) (count : X → ℕ) (limit most : ℕ) (room : limit ≤ most + 1) where
  pub takes_in : (next last : X) (b : Bool) (next' last' summed : X) → key summed ≡ key last → count summed ≡ min (count last + count next) most → b ≡ same (key last) (key next) → next' ≡ next → last' ≡ cond b summed last → TakesIn same key count limit next last b next' last'
  takes_in next last true next' last' summed one sum tells passes is = record {
    tells = tells;
    passes = passes;
    stays = ap key is ∙ one;
    adds = λ _ fits. (let here = ap count is in omega arith);
    leaves = λ e. absurd (false≢true (sym e));
  }
  takes_in next last false next' last' summed one sum tells passes is = record {
    tells = tells;
    passes = passes;
    stays = ap key is;
    adds = λ e. absurd (false≢true e);
    leaves = λ _. is;
  }

-- a count from 1 stays one
pub stays_positive : {X : Type 0} (count : X → ℕ) (next last : X) (b : Bool) (next' last' summed : X) → count summed ≡ min (count last + count next) 4294967295 → next' ≡ next → last' ≡ cond b summed last → 0 < count next → 0 < count last → (0 < count next') × (0 < count last')
stays_positive count next last true next' last' summed sum passes is some_next some_last =
    let here = ap count is in
    let there = ap count passes in
    (omega arith, omega arith)
stays_positive count next last false next' last' summed sum passes is some_next some_last =
    let here = ap count is in
    let there = ap count passes in
    (omega arith, omega arith)
