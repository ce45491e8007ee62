-- A set of nodes by the flags of its members, and how the set gives the flags back.
use Rattle.std.specs.Prelude.{ℕ, Bool, cond, List, [], ◌∷◌}
use Rattle.std.proofs.Common.{◌≡◌, ◌<◌, ◌+◌, ◌||◌, zero, suc, true, false, length, map, get_or, refl, sym, ◌∙◌, ap, arith}
use Rattle.std.proofs.lemmas.Bool.{eq-eqb, ne_eqb}
use Rattle.std.proofs.lemmas.List.FromFn.{fill_by_all}
use Rattle.std.specs.List.{AllByRecursion}
use Rattle.crgc_ids.specs.Nodes.{has_node, nodes_below}

-- the nodes whose flags are set, where the first flag is that of k
abbrev pub flagged_from : ℕ → List Bool → List ℕ
flagged_from k [] = []
flagged_from k (b ∷ bs) = cond b (k ∷ flagged_from (k + 1) bs) (flagged_from (k + 1) bs)

-- the flags of the nodes below n, by a set of nodes
abbrev pub flags_below : ℕ → List ℕ → List Bool
flags_below n xs = map (has_node xs) (nodes_below n)

-- a number below k is below all flagged nodes from k on
pub flagged-above : (l k : ℕ) (bs : List Bool) → l < k → AllByRecursion (λ x. l < x) (flagged_from k bs)
flagged-above l k [] h = tt
flagged-above l k (b ∷ bs) h =
    let later = flagged-above l (k + 1) bs (omega arith) in
    elim b as (λ v. AllByRecursion (λ x. l < x) (cond v (k ∷ flagged_from (k + 1) bs) (flagged_from (k + 1) bs))) [ true ↦ (h, later) | false ↦ later ]

-- no node below all members is a member
has_node-below : (k : ℕ) (xs : List ℕ) → AllByRecursion (λ x. k < x) xs → has_node xs k ≡ false
has_node-below k [] h = refl
has_node-below k (x ∷ xs) h = rw (ne_eqb k x (λ e. omega arith)) (has_node-below k xs h.1)

-- the flag says whether its node is a member
pub has_node-flagged : (k i : ℕ) (bs : List Bool) → i < length bs → has_node (flagged_from k bs) (k + i) ≡ get_or bs i false
has_node-flagged k i [] h = absurd (omega arith)
has_node-flagged k zero (b ∷ bs) h =
    let ms = flagged_from (k + 1) bs in
    let here : k + 0 ≡ k = omega arith in
    rw here (elim b as (λ v. has_node (cond v (k ∷ ms) ms) k ≡ v) [
      | true ↦ ap (λ t. t || has_node ms k) (eq-eqb k k refl)
      | false ↦ has_node-below k ms (flagged-above k (k + 1) bs (omega arith))
    ])
has_node-flagged k (suc i) (b ∷ bs) h =
    let ms = flagged_from (k + 1) bs in
    let there : k + suc i ≡ (k + 1) + i = omega arith in
    let later : has_node ms (k + suc i) ≡ get_or bs i false = rw there (has_node-flagged (k + 1) i bs (omega arith)) in
    elim b as (λ v. has_node (cond v (k ∷ ms) ms) (k + suc i) ≡ get_or bs i false) [
      | true ↦ ap (λ t. t || has_node ms (k + suc i)) (ne_eqb (k + suc i) k (λ e. omega arith)) ∙ later
      | false ↦ later
    ]

-- the flags are those of the nodes that they flag
pub flags-flagged : (n : ℕ) (bs : List Bool) → length bs ≡ n → flags_below n (flagged_from 0 bs) ≡ bs
flags-flagged n bs e =
    sym (fill_by_all (has_node (flagged_from 0 bs)) bs n false e (λ k l.
    let here : 0 + k ≡ k = omega arith in
    sym (rw here at (has_node-flagged 0 k bs (omega arith)))))
