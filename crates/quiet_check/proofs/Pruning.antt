-- When nothing is left to take away.
use Rattle.std.proofs.Common.{◌≡◌, ◌<◌, ◌-◌, ◌⊎◌, ℕ, zero, suc, Bool, List, length, sym, ◌∙◌, ap, inl, inr, arith}
use Rattle.std.specs.List.{filter}
use Rattle.crgc_ids.specs.Greatest.{prune}
use Rattle.crgc_ids.proofs.GreatestLaws.{prune-fixed}
use Rattle.crgc_ids.proofs.MembersLaws.{filter_shortens}

module _ {A : Type 0} (fit : List A → A → Bool) where
  -- a turn that leaves as many members as before is the last
  prune_stops : (n : ℕ) (xs : List A) → length (filter (fit xs) xs) ≡ length xs → prune fit (suc n) xs ≡ filter (fit xs) xs
  prune_stops n xs same = elim (filter_shortens (fit xs) xs) [
    | inl e ↦ prune-fixed fit (suc n) xs e ∙ sym e
    | inr l ↦ absurd (omega arith)
  ]

  -- one turn, where n are left, and none more once it takes nothing away
  pub prune_turn : (n t : ℕ) (xs ys : List A) → 0 < n → ys ≡ filter (fit xs) xs → ((length ys ≡ length xs) × (t ≡ 0)) ⊎ (t ≡ n - 1) → prune fit t ys ≡ prune fit n xs
  prune_turn zero t xs ys l e h = absurd (omega arith)
  prune_turn (suc n) t xs ys l e (inl h) =
      let same : length (filter (fit xs) xs) ≡ length xs = ap length (sym e) ∙ h.0 in
      ap (λ k. prune fit k ys) h.1 ∙ e ∙ sym (prune_stops n xs same)
  prune_turn (suc n) t xs ys l e (inr h) =
      let one : t ≡ n = omega arith in
      ap (λ k. prune fit k ys) one ∙ ap (prune fit n) e
