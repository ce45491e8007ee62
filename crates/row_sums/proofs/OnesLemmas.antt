-- Rows that each count once: what they add up to, and whether a row has room for the sum.
use Rattle.std.proofs.Common.{◌≡◌, ◌+◌, ◌<◌, ℕ, Bool, true, false, cond, List, [], ◌∷◌, ◌++◌, map, refl, ap, arith}
use Rattle.std.proofs.lemmas.List.Sums.{sum_by-cons, sum_by_push}
use Rattle.std.specs.List.{AllByRecursion, count_by, sum_by}

-- rows that each count once count a key as often as it comes
pub total-ones : {X K : Type 0} (key : X → K) (count : X → ℕ) (p : K → Bool) (rows : List X) → AllByRecursion (λ r. count r ≡ 1) rows → sum_by (λ r. cond (p (key r)) (count r) 0) rows ≡ count_by p (map key rows)
total-ones key count p [] ones = refl
total-ones key count p (r ∷ rows) ones =
    let one : cond (p (key r)) (count r) 0 ≡ cond (p (key r)) 1 0 = ap (λ n. cond (p (key r)) n 0) ones.0 in
    let later = total-ones key count p rows ones.1 in
    let first = sum_by-cons (λ r. cond (p (key r)) (count r) 0) r rows in
    let other = sum_by-cons (λ k. cond (p k) 1 0) (key r) (map key rows) in
    omega arith

-- and each of them counts
pub ones-stand : {X : Type 0} (count : X → ℕ) (rows : List X) → AllByRecursion (λ r. count r ≡ 1) rows → AllByRecursion (λ r. 0 < count r) rows
ones-stand count [] ones = tt
ones-stand count (r ∷ rows) ones = (let one = ones.0 in omega arith, ones-stand count rows ones.1)

-- a key that comes once more still fits, and so does each other one
pub fits-push : {K : Type 0} (p : K → Bool) (keys : List K) (k : K) (limit : ℕ) → count_by p keys < limit → (p k ≡ true → count_by p keys + 1 < limit) → count_by p (keys ++ k ∷ []) < limit
fits-push p keys k limit fits own =
    let more = sum_by_push (λ k. cond (p k) 1 0) keys k in
    let Fits : Bool → Type 0 = λ b. p k ≡ b → count_by p keys + cond b 1 0 < limit in
    let room : Fits (p k) = elim (p k) as Fits [ true ↦ λ t. own t | false ↦ λ _. omega arith ] in
    let here = room refl in
    omega arith
