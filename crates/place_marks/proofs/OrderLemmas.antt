-- The order of marking has each marked place once.
use Rattle.std.proofs.Common.{◌≡◌, ◌<◌, ◌≤◌, ◌+◌, ◌-◌, ℕ, Bool, true, false, cond, List, [], ◌∷◌, ◌++◌, length, get_or, sym, ◌∙◌, ap, subst, take, inl, inr, suc, arith, get_or-set_other, get_or-set_same, length-append}
use Rattle.std.proofs.Math.ListN.{set, length-set, get_or-append, replicate}
use Rattle.std.proofs.Math.Seq.{get_or-append_right, get_or-append_seam}
use Rattle.std.proofs.lemmas.Bool.{cases_eq, cases_lt}
use Rattle.std.proofs.lemmas.List.{get_or-replicate, get_or_past, length-replicate, take_all}
use Rattle.std.proofs.lemmas.List.Sums.{count_by-le-length, sum_by-append, sum_by-set}
use Rattle.std.proofs.lemmas.List.Folds.{sum_by-replicate}
use Rattle.std.specs.List.{count_by, sum_by}
use Rattle.place_marks.specs.Marks.{IsOrdered}

-- one mark more
count-set : (marks : List Bool) (p : ℕ) → p < length marks → get_or marks p false ≡ false → count_by (λ m. m) (set marks p true) ≡ suc (count_by (λ m. m) marks)
count-set marks p inside free =
    let more = sum_by-set (λ m. cond m 1 0) marks p true false inside in
    let none : cond (get_or marks p false) 1 0 ≡ 0 = ap (λ m. cond m 1 0) free in
    subst-sum (sum_by (λ m. cond m 1 0) (set marks p true)) (sum_by (λ m. cond m 1 0) marks) (cond (get_or marks p false) 1 0) none more
  where
    subst-sum : (x y n : ℕ) → n ≡ 0 → x + n ≡ y + 1 → x ≡ suc y
    subst-sum x y n none more = omega arith

-- where a place is not marked, fewer are marked than there are
pub count-below : (marks : List Bool) (p : ℕ) → p < length marks → get_or marks p false ≡ false → count_by (λ m. m) marks < length marks
count-below marks p inside free =
    let more = count-set marks p inside free in
    let few = count_by-le-length (λ m. m) (set marks p true) in
    let long = length-set marks p true in
    omega arith

-- a mark more, and its place last
pub ordered-put : (marks : List Bool) (order : List ℕ) (p : ℕ) → IsOrdered marks order → p < length marks → get_or marks p false ≡ false → IsOrdered (set marks p true) (order ++ p ∷ [])
ordered-put marks order p ordered inside free =
    let long_append = length-append order (p ∷ []) in
    record {
      long = (let long = ordered.long in let more = count-set marks p inside free in omega arith);
      listed = λ q h. elim (cases_eq q p) [
        | inl same ↦ (length order, omega arith, get_or-append_seam order p [] 0 ∙ sym same)
        | inr other ↦ (let there = ordered.listed q (sym (get_or-set_other marks p q true false other) ∙ h) in
            let less = there.1 in (there.0, omega arith, get_or-append order (p ∷ []) 0 there.0 less ∙ there.2))
      ];
      marked = λ k h. elim (cases_eq k (length order)) [
        | inl last ↦ subst (λ q. get_or (set marks p true) q false ≡ true) (sym (ap (λ n. get_or (order ++ p ∷ []) n 0) last ∙ get_or-append_seam order p [] 0)) (get_or-set_same marks p true false inside)
        | inr other ↦ (let less : k < length order = omega arith in
            subst (λ q. get_or (set marks p true) q false ≡ true) (sym (get_or-append order (p ∷ []) 0 k less)) (kept (get_or order k 0) (ordered.marked k less)))
      ];
    }
  where
    kept : (q : ℕ) → get_or marks q false ≡ true → get_or (set marks p true) q false ≡ true
    kept q h = elim (cases_eq q p) [
      | inl same ↦ subst (λ r. get_or (set marks p true) r false ≡ true) (sym same) (get_or-set_same marks p true false inside)
      | inr other ↦ get_or-set_other marks p q true false other ∙ h
    ]

-- what a read gave, whatever stands for a mark past the end
pub read-false : (marks : List Bool) (p : ℕ) (v : Bool) → v ≡ get_or marks p v → v ≡ false → get_or marks p false ≡ false
read-false marks p v read free = subst (λ w. get_or marks p w ≡ w) free (sym read)

-- ---- room for more marks

blank-at : (n p : ℕ) → get_or (replicate n false) p false ≡ false
blank-at n p = elim (cases_lt p n) [
  | inl inside ↦ get_or-replicate n p false false inside
  | inr past ↦ (let long = length-replicate n false in get_or_past (replicate n false) p false (omega arith))
]

-- what is marked stays so, and the rest is not marked
more-at : (marks : List Bool) (n p : ℕ) → get_or (marks ++ replicate n false) p false ≡ get_or marks p false
more-at marks n p = elim (cases_lt p (length marks)) [
  | inl inside ↦ get_or-append marks (replicate n false) false p inside
  | inr past ↦ get_or-append_right marks (replicate n false) p false past ∙ blank-at n (p - length marks) ∙ sym (get_or_past marks p false past)
]

count-more : (marks : List Bool) (n : ℕ) → count_by (λ m. m) (marks ++ replicate n false) ≡ count_by (λ m. m) marks
count-more marks n =
    let both = sum_by-append (λ m. cond m 1 0) marks (replicate n false) in
    let none = sum_by-replicate (λ m. cond m 1 0) n false in
    omega arith

-- the same after `resize`
pub resized-at : (marks : List Bool) (n k p : ℕ) → length marks ≤ n → get_or (take n marks ++ replicate k false) p false ≡ get_or marks p false
resized-at marks n k p long = ap (λ ms. get_or (ms ++ replicate k false) p false) (take_all n marks long) ∙ more-at marks k p

pub ordered-resized : (marks new : List Bool) (order : List ℕ) (n k : ℕ) (ok : Bool) → length marks ≤ n → IsOrdered marks order → new ≡ cond ok (take n marks ++ replicate k false) marks → IsOrdered new order
ordered-resized marks new order n k false long ordered is = subst (λ ms. IsOrdered ms order) (sym is) ordered
ordered-resized marks new order n k true long ordered is =
    record {
      long = ordered.long ∙ sym (count-more marks k) ∙ ap (λ ms. count_by (λ m. m) (ms ++ replicate k false)) (sym (take_all n marks long)) ∙ ap (count_by (λ m. m)) (sym is);
      listed = λ p h. ordered.listed p (sym (resized-at marks n k p long) ∙ ap (λ ms. get_or ms p false) (sym is) ∙ h);
      marked = λ i less. ap (λ ms. get_or ms (get_or order i 0) false) is ∙ resized-at marks n k (get_or order i 0) long ∙ ordered.marked i less;
    }
