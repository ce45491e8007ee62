-- Rows that are counted one after another.
use Rattle.std.proofs.Common.{◌≡◌, ◌+◌, ◌<◌, ◌≤◌, ℕ, Bool, true, cond, List, length, get_or, take, sym, ◌∙◌, ap, arith, sum_by}
use Rattle.std.proofs.lemmas.List.Sums.{sum_by_more, sum_by_more_le}

-- how often rows count a key
abbrev pub total : {K X : Type 0} → (K → K → Bool) → (X → K) → (X → ℕ) → K → List X → ℕ
total same key count t rows = sum_by (λ r. cond (same t (key r)) (count r) 0) rows

module _ {K X : Type 0} (same : K → K → Bool) (key : X → K) (count : X → ℕ) where
  pub total-more : (t : K) (rows : List X) (i : ℕ) (r : X) → i < length rows → r ≡ get_or rows i r → total same key count t (take (i + 1) rows) ≡ total same key count t (take i rows) + cond (same t (key r)) (count r) 0
  total-more t rows i r inside is =
      sum_by_more (λ x. cond (same t (key x)) (count x) 0) rows i r inside
      ∙ ap (λ x. total same key count t (take i rows) + cond (same t (key x)) (count x) 0) (sym is)

  -- the row's own key has room for it
  pub total-fits : (rows : List X) (i : ℕ) (r : X) → i < length rows → r ≡ get_or rows i r → same (key r) (key r) ≡ true → total same key count (key r) (take i rows) + count r ≤ total same key count (key r) rows
  total-fits rows i r inside is own =
      let whole = sum_by_more_le (λ x. cond (same (key r) (key x)) (count x) 0) rows i r inside in
      let here : cond (same (key r) (key (get_or rows i r))) (count (get_or rows i r)) 0 ≡ count r = ap (λ x. cond (same (key r) (key x)) (count x) 0) (sym is) ∙ ap (λ b. cond b (count r) 0) own in
      omega arith
