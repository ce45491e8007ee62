-- Rising lists of nodes, and the flags that stand for them.
use Rattle.std.proofs.Common.{◌≡◌, ◌≤◌, ◌<◌, ◌+◌, ◌↔◌, ◌⊎◌, ℕ, zero, suc, Bool, true, false, cond, List, [], ◌∷◌, length, set, get_or, eqb, ltb, refl, sym, ◌∙◌, ap, subst, inl, inr, arith}
use Rattle.std.proofs.lemmas.Bool.{eq-eqb, eqb-true, false≢true, le-ltb, lt-ltb, ne_eqb}
use Rattle.std.proofs.lemmas.Bool.Decides.{Decides-eqb, Decides-like, same_from_decides}
use Rattle.std.proofs.lemmas.Slice.Eq.{slice_eq-Decides}
use Rattle.std.specs.Bool.{Decides, beq}
use Rattle.std.specs.Cmp.Lexicographic.{pointwise}
use Rattle.std.specs.List.{AllByRecursion}
use Rattle.crgc_ids.specs.Members.{IsAmong}
use Rattle.crgc_ids.specs.NodeFlags.{flagged-above, flagged_from, flags-flagged, flags_below, has_node-flagged}
use Rattle.crgc_ids.specs.Nodes.{has_node, with_node}
use Rattle.crgc_ids.specs.Rising.{IsRising}
use Rattle.crgc_ids.proofs.MembersLaws.{list_any-member, list_any-true}

-- the test `has_node` tells the members
pub has_node-from_true : (xs : List ℕ) (k : ℕ) → has_node xs k ≡ true → IsAmong k xs
has_node-from_true xs k t =
    let found = list_any-true (λ x. eqb k x) xs t in
    subst (λ x. IsAmong x xs) (sym (eqb-true k found.0 found.2)) found.1

pub has_node-member : (xs : List ℕ) (k : ℕ) → IsAmong k xs → has_node xs k ≡ true
has_node-member xs k h = list_any-member (λ x. eqb k x) k xs h (eq-eqb k k refl)

-- the flagged nodes end below the number of flags
pub flagged-below : (n k : ℕ) (bs : List Bool) → k + length bs ≤ n → AllByRecursion (λ x. x < n) (flagged_from k bs)
flagged-below n k [] h = tt
flagged-below n k (b ∷ bs) h =
    let later = flagged-below n (k + 1) bs (omega arith) in
    elim b as (λ v. AllByRecursion (λ x. x < n) (cond v (k ∷ flagged_from (k + 1) bs) (flagged_from (k + 1) bs))) [ true ↦ (omega arith, later) | false ↦ later ]

-- and they rise
pub flagged-rise : (k : ℕ) (bs : List Bool) → IsRising ◌<◌ (flagged_from k bs)
flagged-rise k [] = tt
flagged-rise k (b ∷ bs) =
    let later = flagged-rise (k + 1) bs in
    elim b as (λ v. IsRising ◌<◌ (cond v (k ∷ flagged_from (k + 1) bs) (flagged_from (k + 1) bs))) [ true ↦ (flagged-above k (k + 1) bs (omega arith), later) | false ↦ later ]

-- a node below all others is put first
with_node-first : (k : ℕ) (xs : List ℕ) → AllByRecursion (λ x. k < x) xs → with_node k xs ≡ k ∷ xs
with_node-first k [] h = refl
with_node-first k (x ∷ xs) h = rw (lt-ltb k x h.0) refl

-- to set the flag of a node is to put the node in
flagged-set : (k i : ℕ) (bs : List Bool) → i < length bs → flagged_from k (set bs i true) ≡ with_node (k + i) (flagged_from k bs)
flagged-set k i [] h = absurd (omega arith)
flagged-set k zero (b ∷ bs) h =
    let ms = flagged_from (k + 1) bs in
    let here : k + 0 ≡ k = omega arith in
    let first : with_node k ms ≡ k ∷ ms = with_node-first k ms (flagged-above k (k + 1) bs (omega arith)) in
    let twice : with_node k (k ∷ ms) ≡ k ∷ ms = rw (le-ltb k k (omega arith), eq-eqb k k refl) refl in
    rw here (elim b as (λ v. k ∷ ms ≡ with_node k (cond v (k ∷ ms) ms)) [ true ↦ sym twice | false ↦ sym first ])
flagged-set k (suc i) (b ∷ bs) h =
    let ms = flagged_from (k + 1) bs in
    let there : k + suc i ≡ (k + 1) + i = omega arith in
    let later : flagged_from (k + 1) (set bs i true) ≡ with_node (k + suc i) ms = rw there (flagged-set (k + 1) i bs (omega arith)) in
    let beyond : with_node (k + suc i) (k ∷ ms) ≡ k ∷ with_node (k + suc i) ms = rw (le-ltb (k + suc i) k (omega arith), ne_eqb (k + suc i) k (λ e. omega arith)) refl in
    elim b as (λ v. cond v (k ∷ flagged_from (k + 1) (set bs i true)) (flagged_from (k + 1) (set bs i true)) ≡ with_node (k + suc i) (cond v (k ∷ ms) ms)) [
      | true ↦ ap (λ xs. k ∷ xs) later ∙ sym beyond
      | false ↦ later
    ]

pub flagged-with : (i : ℕ) (bs : List Bool) → i < length bs → flagged_from 0 (set bs i true) ≡ with_node i (flagged_from 0 bs)
flagged-with i bs h =
    let here : 0 + i ≡ i = omega arith in
    rw here at (flagged-set 0 i bs h)

-- a node is flagged exactly where it is a member
pub flagged-member : (k : ℕ) (bs : List Bool) → k < length bs → (get_or bs k false ≡ true) ↔ IsAmong k (flagged_from 0 bs)
flagged-member k bs l =
    let here : 0 + k ≡ k = omega arith in
    let tells : has_node (flagged_from 0 bs) k ≡ get_or bs k false = rw here at (has_node-flagged 0 k bs l) in
    (λ t. has_node-from_true (flagged_from 0 bs) k (tells ∙ t), λ h. sym tells ∙ has_node-member (flagged_from 0 bs) k h)

beq_decides : (a b : Bool) → Decides (beq a b) (a ≡ b)
beq_decides true true = (λ _. refl, λ _. refl)
beq_decides true false = (λ t. absurd (false≢true t), λ e. sym e)
beq_decides false true = (λ t. absurd (false≢true t), λ e. e)
beq_decides false false = (λ _. refl, λ _. refl)

-- sets are equal exactly where their flags are
pub flags-equal : (n : ℕ) (bs cs : List Bool) → length bs ≡ n → length cs ≡ n → pointwise beq bs cs ≡ pointwise eqb (flagged_from 0 bs) (flagged_from 0 cs)
flags-equal n bs cs p q =
    let flags : Decides (pointwise beq bs cs) (bs ≡ cs) = slice_eq-Decides beq_decides bs cs (pointwise beq bs cs) refl in
    let nodes = slice_eq-Decides Decides-eqb (flagged_from 0 bs) (flagged_from 0 cs) (pointwise eqb (flagged_from 0 bs) (flagged_from 0 cs)) refl in
    same_from_decides (pointwise beq bs cs) (pointwise eqb (flagged_from 0 bs) (flagged_from 0 cs))
    (Decides-like (pointwise beq bs cs) (λ e. ap (flagged_from 0) e) (λ e. sym (flags-flagged n bs p) ∙ ap (flags_below n) e ∙ flags-flagged n cs q) flags)
    nodes

-- the members after a node is put in: the node, and those before
pub IsAmong-with_node : (x k : ℕ) (xs : List ℕ) → IsAmong x (with_node k xs) ↔ ((x ≡ k) ⊎ IsAmong x xs)
IsAmong-with_node x k [] = (λ h. h, λ h. h)
IsAmong-with_node x k (y ∷ ys) =
    let Told : List ℕ → Type 0 = λ zs. IsAmong x zs ↔ ((x ≡ k) ⊎ IsAmong x (y ∷ ys)) in
    let later = IsAmong-with_node x k ys in
    let beyond : Told (y ∷ with_node k ys) = (
      λ h. elim h [ inl e ↦ inr (inl e) | inr m ↦ elim (later.0 m) [ inl e ↦ inl e | inr n ↦ inr (inr n) ] ],
      λ h. elim h [ inl e ↦ inr (later.1 (inl e)) | inr m ↦ elim m [ inl e ↦ inl e | inr n ↦ inr (later.1 (inr n)) ] ],
    ) in
    let Here : Bool → Type 0 = λ b. eqb k y ≡ b → Told (cond b (y ∷ ys) (y ∷ with_node k ys)) in
    let here : Here (eqb k y) = elim (eqb k y) as Here [
      | true ↦ λ t. (λ h. inr h, λ h. elim h [ inl e ↦ inl (e ∙ eqb-true k y t) | inr m ↦ m ])
      | false ↦ λ _. beyond
    ] in
    elim (ltb k y) as (λ b. Told (cond b (k ∷ y ∷ ys) (cond (eqb k y) (y ∷ ys) (y ∷ with_node k ys)))) [
      | true ↦ (λ h. h, λ h. h)
      | false ↦ here refl
    ]
