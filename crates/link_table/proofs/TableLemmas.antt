-- The places of the links in the table.
use Rattle.std.proofs.Common.{◌≡◌, ◌+◌, ◌-◌, ◌*◌, ◌/◌, ◌%◌, ◌<◌, ℕ, nat_lt, List, [], ◌∷◌, ◌++◌, get_or, length, sym, ◌∙◌, ap, ap₂, subst, inl, inr, arith}
use Rattle.std.proofs.Math.Seq.{get_or-append_seam}
use Rattle.std.proofs.lemmas.Bool.{cases_eq, cases_lt, cond-false, cond-true, le-ltb, lt-ltb}
use Rattle.std.proofs.lemmas.List.{get_or_append_left}
use Rattle.link_table.specs.LinkState.{LinkState}
use Rattle.link_table.specs.Table.{IsLink, blank, end_of, place, source_of}

-- the place below its node's, where the link leads to a lower node; else one less
place-lower : (s d : ℕ) → d < s → place s d ≡ s * 15 + d
place-lower s d less = ap (λ n. s * 15 + n) (cond-true (nat_lt d s) d (d - 1) (lt-ltb d s less))

place-higher : (s d : ℕ) → s < d → place s d ≡ s * 15 + (d - 1)
place-higher s d less = ap (λ n. s * 15 + n) (cond-false (nat_lt d s) d (d - 1) (le-ltb d s (omega arith)))

-- division by 15
quotient : (s r j : ℕ) → r < 15 → j ≡ s * 15 + r → (j / 15 ≡ s) × (j % 15 ≡ r)
quotient s r j below e = (omega arith, omega arith)

-- the link at its place leads between its nodes
pub ends-place : (s d : ℕ) → IsLink s d → (source_of (place s d) ≡ s) × (end_of (place s d) ≡ d) × (place s d < 240)
ends-place s d link =
    let s_below = link.0 in
    let d_below = link.1 in
    elim (cases_lt d s) [
      | inl less ↦ (
          let there = place-lower s d less in
          let both = quotient s d (place s d) (omega arith) there in
          let test : nat_lt (place s d % 15) (place s d / 15) ≡ nat_lt d s = ap₂ nat_lt both.1 both.0 in
          (both.0, cond-true (nat_lt (place s d % 15) (place s d / 15)) (place s d % 15) (place s d % 15 + 1) (test ∙ lt-ltb d s less) ∙ both.1, omega arith)
          )
      | inr le ↦ (
          let apart : d ≡ s → ⊥ = λ e. link.2 (sym e) in
          let more : s < d = omega (arith, apart) in
          let there = place-higher s d more in
          let both = quotient s (d - 1) (place s d) (omega arith) there in
          let test : nat_lt (place s d % 15) (place s d / 15) ≡ nat_lt (d - 1) s = ap₂ nat_lt both.1 both.0 in
          let last = both.1 in
          let plus : place s d % 15 + 1 ≡ d = omega arith in
          (both.0, cond-false (nat_lt (place s d % 15) (place s d / 15)) (place s d % 15) (place s d % 15 + 1) (test ∙ le-ltb (d - 1) s (omega arith)) ∙ plus, omega arith)
          )
    ]

-- what holds of each place of a list and of one more item holds of each place of the longer list
pub each-place_more : (P : ℕ → LinkState → Type 0) (links : List LinkState) (n : ℕ) (link : LinkState) → length links ≡ n → ((j : ℕ) → j < n → P j (get_or links j blank)) → P n link
    → (j : ℕ) → j < n + 1 → P j (get_or (links ++ link ∷ []) j blank)
each-place_more P links n link many each last j below =
    elim (cases_eq j n) [
      | inl same ↦ (
          let there : get_or (links ++ link ∷ []) n blank ≡ link = subst (λ i. get_or (links ++ link ∷ []) i blank ≡ link) many (get_or-append_seam links link [] blank) in
          subst (λ i. P i (get_or (links ++ link ∷ []) i blank)) (sym same) (subst (P n) (sym there) last)
          )
      | inr apart ↦ subst (P j) (sym (get_or_append_left links (link ∷ []) blank j (omega arith))) (each j (omega arith))
    ]
