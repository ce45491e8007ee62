-- How an ordered index finds the rows of a list.
use Rattle.std.proofs.Common.{◌≡◌, ◌&&◌, ◌||◌, ◌++◌, Bool, true, false, not, cond, List, [], ◌∷◌, refl, sym, ◌∙◌, ap, arith}
use Rattle.std.proofs.lemmas.Bool.Decides.{nat_tests}
use Rattle.std.proofs.lemmas.List.{append_assoc}
use Rattle.std.proofs.lemmas.List.Folds.{list_any-append}
use Rattle.std.proofs.lemmas.Map.Views.{any-filter_same}
use Rattle.std.specs.List.{AllByRecursion, filter, list_any}
use Rattle.std.specs.Ordering.{is_eq}
use Rattle.fault_plan.specs.contracts.links.LinkRowOrd.TheImpl as order
use Rattle.fault_plan.specs.declared.links.LinkRow.{LinkRow}
use Rattle.fault_plan.specs.Index.{IsIndex, IsWithin, kept}
use Rattle.fault_plan.specs.Rows.{same_row}

-- rows that are one are equal
pub same_row-eq : (r s : LinkRow) → same_row r s ≡ true → r ≡ s
same_row-eq r s h =
    let from : r.from ≡ s.from = grind (arith, nat_tests) in
    let to : r.to ≡ s.to = grind (arith, nat_tests) in
    let number : r.number ≡ s.number = grind (arith, nat_tests) in
    λ i. record { from = from i; to = to i; number = number i }

pub same_row-self : (r : LinkRow) → same_row r r ≡ true
same_row-self r = grind (arith, nat_tests)

-- whether two rows tie in their order
abbrev pub tie : LinkRow → LinkRow → Bool
tie r s = is_eq ((order.cmp-value).it r s)

-- no two rows tie but one and itself
pub tie-same : (r s : LinkRow) → tie r s ≡ same_row r s
tie-same r s = grind (arith, nat_tests)

-- so an index finds a row by its order
pub any-tie : (r : LinkRow) (index : List LinkRow) → list_any (tie r) index ≡ list_any (same_row r) index
any-tie r [] = refl
any-tie r (s ∷ index) = rw (tie-same r s) (ap (λ b. same_row r s || b) (any-tie r index))

-- what an index has after a change at one row
pub index-updates : (old new : List LinkRow) (r : LinkRow) (b : Bool) → ((s : LinkRow) → list_any (tie s) new ≡ cond (tie r s) b (list_any (tie s) old)) → (s : LinkRow) → list_any (same_row s) new ≡ cond (same_row r s) b (list_any (same_row s) old)
index-updates old new r b h s = sym (any-tie s new) ∙ h s ∙ rw (tie-same r s, any-tie s old)

same_row-flip : (r s : LinkRow) → same_row r s ≡ same_row s r
same_row-flip r s = grind (arith, nat_tests)

or_last : (a b : Bool) → cond a true b ≡ (b || (a || false))
or_last true true = refl
or_last true false = refl
or_last false true = refl
or_last false false = refl

-- a row that is put last into a list is put into its index
pub index-push : (old new rows : List LinkRow) (r : LinkRow) → IsIndex old rows → ((s : LinkRow) → list_any (tie s) new ≡ cond (tie r s) true (list_any (tie s) old)) → IsIndex new (rows ++ r ∷ [])
index-push old new rows r same h s =
    index-updates old new r true h s
    ∙ rw (same s, same_row-flip r s) (or_last (same_row s r) (list_any (same_row s) rows))
    ∙ sym (list_any-append (same_row s) rows (r ∷ []))

-- a test that all elements pass keeps them all
filter-pass : {A : Type 0} (p : A → Bool) (xs : List A) → AllByRecursion (λ x. p x ≡ true) xs → filter p xs ≡ xs
filter-pass p [] h = refl
filter-pass p (x ∷ xs) h = rw (h.0) (ap (λ ys. x ∷ ys) (filter-pass p xs h.1))

or_true : (b : Bool) → (b || true) ≡ true
or_true true = refl
or_true false = refl

-- both hold exactly where the first does, if it implies the second
both : (a b : Bool) → (a ≡ true → b ≡ true) → (a && b) ≡ a
both true b h = h refl
both false b h = refl

each_found : (index all rows : List LinkRow) → IsIndex index all → AllByRecursion (λ r. list_any (same_row r) all ≡ true) rows → AllByRecursion (λ r. list_any (same_row r) index ≡ true) rows
each_found index all [] same h = tt
each_found index all (r ∷ rows) same h = (same r ∙ h.0, each_found index all rows same h.1)

-- the later rows of a list are found in it
found : (front rows : List LinkRow) → AllByRecursion (λ r. list_any (same_row r) (front ++ rows) ≡ true) rows
found front [] = tt
found front (r ∷ rows) =
    let here : list_any (same_row r) (front ++ r ∷ rows) ≡ true =
    list_any-append (same_row r) front (r ∷ rows) ∙ rw (same_row-self r) (or_true (list_any (same_row r) front)) in
    let later : AllByRecursion (λ s. list_any (same_row s) ((front ++ r ∷ []) ++ rows) ≡ true) rows = found (front ++ r ∷ []) rows in
    (here, rw (append_assoc front (r ∷ []) rows) at later)

-- an index of a list keeps all of its rows
pub kept-all : (index rows : List LinkRow) → IsIndex index rows → kept index rows ≡ rows
kept-all index rows same = filter-pass (λ r. list_any (same_row r) index) rows (each_found index rows rows same (found [] rows))

-- among the rows that are kept, the index finds what it has
pub any-kept : (index rows : List LinkRow) (r : LinkRow) → IsWithin index rows → list_any (same_row r) (kept index rows) ≡ list_any (same_row r) index
any-kept index rows r within =
    any-filter_same (same_row r) (λ s. list_any (same_row s) index) (list_any (same_row r) index) (λ s h. ap (λ t. list_any (same_row t) index) (sym (same_row-eq r s h))) rows
    ∙ both (list_any (same_row r) index) (list_any (same_row r) rows) (within r)

drop_one : (n : LinkRow → Bool) (a b : Bool) (s : LinkRow) (new old : List LinkRow) → n s ≡ not a → new ≡ filter n old → cond (cond a false b) (s ∷ new) new ≡ filter n (cond b (s ∷ old) old)
drop_one n true true s new old e h = rw e h
drop_one n true false s new old e h = h
drop_one n false true s new old e h = rw e (ap (λ rows. s ∷ rows) h)
drop_one n false false s new old e h = h

-- what is taken out of the index is taken out of the rows that are kept
pub kept-without : (old new rows : List LinkRow) (r : LinkRow) → ((s : LinkRow) → list_any (same_row s) new ≡ cond (same_row r s) false (list_any (same_row s) old)) → kept new rows ≡ filter (λ s. not (same_row r s)) (kept old rows)
kept-without old new [] r h = refl
kept-without old new (s ∷ rows) r h =
    rw (h s) (drop_one (λ t. not (same_row r t)) (same_row r s) (list_any (same_row s) old) s (kept new rows) (kept old rows) refl (kept-without old new rows r h))

kept_true : (a b : Bool) → cond a false b ≡ true → b ≡ true
kept_true true b h = cc
kept_true false b h = h

-- an index from which a row is taken stays within the list
pub within-less : (old new rows : List LinkRow) (r : LinkRow) → IsWithin old rows → ((s : LinkRow) → list_any (same_row s) new ≡ cond (same_row r s) false (list_any (same_row s) old)) → IsWithin new rows
within-less old new rows r within h s there = within s (kept_true (same_row r s) (list_any (same_row s) old) (sym (h s) ∙ there))
