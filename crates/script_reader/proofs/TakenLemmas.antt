-- The index of the names that seeds have.
use Rattle.std.proofs.Common.{◌≡◌, ◌==◌, ◌&&◌, ◌||◌, ◌++◌, Bool, true, false, cond, ℕ, List, [], ◌∷◌, Ordering, Less, Equal, Greater, nat_cmp, refl, sym, ◌∙◌, ap, arith}
use Rattle.std.proofs.lemmas.Bool.Decides.{nat_tests}
use Rattle.std.proofs.lemmas.List.Folds.{list_any-append}
use Rattle.std.proofs.lemmas.Map.Text.{is_eq-slice_cmp}
use Rattle.std.proofs.lemmas.Slice.Eq.{bytes_eq-Decides}
use Rattle.std.specs.Cmp.Lexicographic.{slice_cmp}
use Rattle.std.specs.List.{list_any}
use Rattle.std.specs.Ordering.{is_eq, ordering_then}
use Rattle.std.specs.Str.{bytes_eq}
use Rattle.script_reader.specs.declared.script.Tie.{Tie}
use Rattle.script_reader.specs.Taken.{AreTaken, TakenName, binds, same_name}
use Rattle.script_reader.specs.Valid.{same_tie}

-- names are ordered by their seed, then by their bytes
abbrev pub compared : TakenName → TakenName → Ordering
compared k l = ordering_then (nat_cmp k.0 l.0) (slice_cmp nat_cmp k.1.items l.1.items)

is_eq-then : (a b : Ordering) → is_eq (ordering_then a b) ≡ (is_eq a && is_eq b)
is_eq-then Less b = refl
is_eq-then Equal b = refl
is_eq-then Greater b = refl

is_eq-nat : (a b : ℕ) → is_eq (nat_cmp a b) ≡ (a == b)
is_eq-nat a b = grind (arith, nat_tests)

-- no two names tie but one and itself
compared-same : (k l : TakenName) → is_eq (compared k l) ≡ same_name k l
compared-same k l = is_eq-then (nat_cmp k.0 l.0) _ ∙ rw (is_eq-nat k.0 l.0, is_eq-slice_cmp k.1.items l.1.items)

any-alike : {A : Type 0} (p q : A → Bool) → ((x : A) → p x ≡ q x) → (xs : List A) → list_any p xs ≡ list_any q xs
any-alike p q same [] = refl
any-alike p q same (x ∷ xs) = rw (same x) (ap (λ b. q x || b) (any-alike p q same xs))

-- so the index finds a name by its order
found : (k : TakenName) (index : List TakenName) → list_any (λ l. is_eq (compared k l)) index ≡ list_any (same_name k) index
found k index = any-alike (λ l. is_eq (compared k l)) (same_name k) (compared-same k) index

-- the index has the name of a tie exactly where a tie before binds it
pub taken-has : (index : List TakenName) (ties : List Tie) (t : Tie) (k : TakenName) → k.0 ≡ t.from → k.1.items ≡ t.name → AreTaken index ties → list_any (λ l. is_eq (compared k l)) index ≡ list_any (same_tie t) ties
taken-has index ties t k from name taken =
    found k index ∙ taken k
    ∙ any-alike (binds k) (same_tie t) (λ u. ap (λ n. (n == u.from) && bytes_eq k.1.items u.name) from ∙ ap (λ s. (t.from == u.from) && bytes_eq s u.name) name) ties

bool-same : (p q : Bool) → (p ≡ true → q ≡ true) → (q ≡ true → p ≡ true) → p ≡ q
bool-same true q there back = sym (there refl)
bool-same false true there back = back refl
bool-same false false there back = refl

-- two texts are one whichever comes first
pub bytes_eq-flip : (xs ys : List ℕ) → bytes_eq xs ys ≡ bytes_eq ys xs
bytes_eq-flip xs ys =
    bool-same _ _ (λ h. (bytes_eq-Decides ys xs).1 (sym ((bytes_eq-Decides xs ys).0 h))) (λ h. (bytes_eq-Decides xs ys).1 (sym ((bytes_eq-Decides ys xs).0 h)))

flipped : (t : Tie) (k : TakenName) → k.0 ≡ t.from → k.1.items ≡ t.name → (l : TakenName) → same_name k l ≡ binds l t
flipped t k from name l =
    let numbers : (k.0 == l.0) ≡ (l.0 == t.from) = rw from (grind (arith, nat_tests)) in
    let texts : bytes_eq k.1.items l.1.items ≡ bytes_eq l.1.items t.name = rw name (bytes_eq-flip t.name l.1.items) in
    rw (numbers, texts)

or_last : (a b : Bool) → cond a true b ≡ (b || (a || false))
or_last true true = refl
or_last true false = refl
or_last false true = refl
or_last false false = refl

-- the name of a tie that is put last is put into the index
pub taken-push : (old new : List TakenName) (ties : List Tie) (t : Tie) (k : TakenName) → k.0 ≡ t.from → k.1.items ≡ t.name → AreTaken old ties
    → ((l : TakenName) → list_any (λ m. is_eq (compared l m)) new ≡ cond (is_eq (compared k l)) true (list_any (λ m. is_eq (compared l m)) old))
    → AreTaken new (ties ++ t ∷ [])
taken-push old new ties t k from name taken h l =
    sym (found l new) ∙ h l
    ∙ rw (compared-same k l, found l old, taken l, flipped t k from name l) (or_last (binds l t) (list_any (binds l) ties))
    ∙ sym (list_any-append (binds l) ties (t ∷ []))
