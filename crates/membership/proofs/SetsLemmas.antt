-- Sets of nodes that are made or tested one node after another.
use Rattle.std.proofs.Common.{◌≡◌, ◌<◌, ◌+◌, ◌&&◌, ℕ, zero, suc, Bool, true, false, cond, List, [], ◌∷◌, ◌++◌, refl, sym, ◌∙◌, ap, subst, inl, inr, arith, add-one, zero-add}
use Rattle.std.proofs.lemmas.Bool.{and_parts, cases_lt, false≢true, le-ltb, ne_eqb, false_from_ne_true}
use Rattle.std.proofs.lemmas.List.{append-nil}
use Rattle.std.specs.List.{AllByRecursion, filter, list_all, range_with_len}
use Rattle.crgc_ids.proofs.MembersLaws.{IsAmong-filter, IsAmong-from_filter, IsAmong-from_range, IsAmong-range, all-member, list_all-members, list_all-true, all-from_members}
use Rattle.crgc_ids.proofs.NodesLaws.{has_node-from_true, has_node-member}
use Rattle.crgc_ids.proofs.RisingLaws.{IsRising-filter, IsRising-range, rising_nodes-same}
use Rattle.crgc_ids.specs.Members.{IsAmong}
use Rattle.crgc_ids.specs.Nodes.{has_node, nodes_below, with_node}
use Rattle.crgc_ids.specs.Rising.{IsRising}

-- a node above all others is put last
with_node-last : (k : ℕ) (xs : List ℕ) → AllByRecursion (λ x. x < k) xs → with_node k xs ≡ xs ++ k ∷ []
with_node-last k [] h = refl
with_node-last k (x ∷ xs) h =
    let above : x < k = h.0 in
    rw (le-ltb k x (omega arith), ne_eqb k x (λ e. omega arith)) (ap (λ ys. x ∷ ys) (with_node-last k xs h.1))

filter-range_more : (p : ℕ → Bool) (a n : ℕ) → filter p (range_with_len a (suc n)) ≡ filter p (range_with_len a n) ++ cond (p (a + n)) ((a + n) ∷ []) []
filter-range_more p a zero = let here : a + 0 ≡ a = omega arith in rw here refl
filter-range_more p a (suc n) =
    let later = filter-range_more p (a + 1) n in
    let there : a + suc n ≡ (a + 1) + n = omega arith in
    let most = filter p (range_with_len (a + 1) n) in
    let last = cond (p ((a + 1) + n)) (((a + 1) + n) ∷ []) [] in
    rw there (elim (p a) as (λ b. cond b (a ∷ filter p (range_with_len (a + 1) (suc n))) (filter p (range_with_len (a + 1) (suc n))) ≡ cond b (a ∷ most) most ++ last) [
      | true ↦ ap (λ ys. a ∷ ys) later
      | false ↦ later
    ])

-- the nodes below n that pass are below n
pub filter-below : (p : ℕ → Bool) (n : ℕ) → AllByRecursion (λ x. x < n) (filter p (nodes_below n))
filter-below p n =
    all-from_members (λ x. x < n) (filter p (nodes_below n)) (λ x m.
    let range = IsAmong-from_range x 0 n (IsAmong-from_filter p x (nodes_below n) m).0 in
    omega arith)

filter_more : (p : ℕ → Bool) (n : ℕ) → filter p (nodes_below (n + 1)) ≡ filter p (nodes_below n) ++ cond (p n) (n ∷ []) []
filter_more p n =
    subst (λ k. filter p (nodes_below k) ≡ filter p (nodes_below n) ++ cond (p n) (n ∷ []) []) (sym (add-one n))
    (rw (zero-add n) at (filter-range_more p 0 n))

-- one node more is tried: it is put in exactly where it passes
pub filter_more_yes : (p : ℕ → Bool) (n : ℕ) → p n ≡ true → with_node n (filter p (nodes_below n)) ≡ filter p (nodes_below (n + 1))
filter_more_yes p n passes =
    with_node-last n (filter p (nodes_below n)) (filter-below p n)
    ∙ sym (filter_more p n ∙ ap (λ b. filter p (nodes_below n) ++ cond b (n ∷ []) []) passes)

pub filter_more_no : (p : ℕ → Bool) (n : ℕ) → p n ≡ false → filter p (nodes_below n) ≡ filter p (nodes_below (n + 1))
filter_more_no p n fails =
    sym (filter_more p n ∙ ap (λ b. filter p (nodes_below n) ++ cond b (n ∷ []) []) fails ∙ append-nil (filter p (nodes_below n)))

-- all nodes below n pass, and so does n
pub all_more : (p : ℕ → Bool) (n : ℕ) → list_all p (nodes_below n) ≡ true → p n ≡ true → list_all p (nodes_below (n + 1)) ≡ true
all_more p n all passes =
    list_all-members p (nodes_below (n + 1)) (λ k m.
    let range = IsAmong-from_range k 0 (n + 1) m in
    elim (cases_lt k n) [
      | inl below ↦ list_all-true p k (nodes_below n) all (IsAmong-range k 0 n (omega arith) (omega arith))
      | inr most ↦ (let last : n ≡ k = omega arith in subst (λ x. p x ≡ true) last passes)
    ])

-- one node below n that does not pass
pub all_fails : (p : ℕ → Bool) (n k : ℕ) → k < n → p k ≡ false → list_all p (nodes_below n) ≡ false
all_fails p n k below fails =
    false_from_ne_true (list_all p (nodes_below n)) (λ all.
    false≢true (sym fails ∙ list_all-true p k (nodes_below n) all (IsAmong-range k 0 n (omega arith) (omega arith))))

-- to try all nodes below n for being members that pass is to try the members
pub filter-members : (n : ℕ) (p : ℕ → Bool) (xs : List ℕ) → IsRising ◌<◌ xs → AllByRecursion (λ x. x < n) xs → filter (λ s. has_node xs s && p s) (nodes_below n) ≡ filter p xs
filter-members n p xs rising below =
    let member = λ (s : ℕ). has_node xs s && p s in
    rising_nodes-same (filter member (nodes_below n)) (filter p xs)
    (IsRising-filter ◌<◌ member (nodes_below n) (IsRising-range 0 n))
    (IsRising-filter ◌<◌ p xs rising)
    (λ s h. let both = and_parts (has_node xs s) (p s) (IsAmong-from_filter member s (nodes_below n) h).1 in IsAmong-filter p s xs (has_node-from_true xs s both.0) both.1)
    (λ s h.
    let kept = IsAmong-from_filter p s xs h in
    let less = all-member (λ x. x < n) s xs below kept.0 in
    IsAmong-filter member s (nodes_below n) (IsAmong-range s 0 n (omega arith) (omega arith)) (ap (λ b. b && p s) (has_node-member xs s kept.0) ∙ kept.1))

-- a test of members that fails says that the node is none
pub has_node-apart : (xs : List ℕ) (k : ℕ) {r : Bool} → (IsAmong k xs → r ≡ true) → r ≡ false → has_node xs k ≡ false
has_node-apart xs k tells fails =
    false_from_ne_true (has_node xs k) (λ member. false≢true (sym fails ∙ tells (has_node-from_true xs k member)))
