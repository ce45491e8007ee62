-- What reading in turn gives, and what follows for each row.
use Rattle.std.proofs.Common.{◌≡◌, ◌≤◌, ◌<◌, ◌+◌, ◌&&◌, ◌++◌, Bool, true, false, nat_le, nat_lt, ℕ, List, [], ◌∷◌, length, map, Option, Some, None, Result, Ok, Err, true≢false, refl, sym, ◌∙◌, subst, arith}
use Rattle.std.proofs.lemmas.Bool.Decides.{nat_tests}
use Rattle.std.proofs.lemmas.List.{append-nil, append_assoc, length-append, map-append}
use Rattle.std.proofs.lemmas.List.Folds.{list_all-append}
use Rattle.std.proofs.lemmas.Map.Keys.{IsDistinct-push}
use Rattle.std.specs.Cmp.{IsEquivalence}
use Rattle.std.specs.List.{IsDistinct, list_all, list_any}
use Rattle.serde_json.specs.Data.{Data}
use Rattle.serde_json.specs.Find.{as_str, get}
use Rattle.script_reader.specs.declared.fault.Flaw.{Flaw}
use Rattle.script_reader.specs.declared.words.Word.{Word}
use Rattle.script_reader.specs.Walk.{◌>>=◌, array_at, array_in, array_of, each_after, in_range, number_at, number_of, of_kind, optional, optional_at, required, text_at}
use Rattle.script_reader.specs.Words.{spelled}

-- what was read in two steps was read in each
pub two_steps : {A B : Type 0} (r : Result A Flaw) (f : A → Result B Flaw) (y : B) → (r >>= f) ≡ Ok y → (x : A) × (r ≡ Ok x) × (f x ≡ Ok y)
two_steps (Ok x) f y h = (x, refl, h)
two_steps (Err e) f y h = absurd cc

abbrev pub Fine : {A : Type 0} → A → Result A Flaw
Fine x = Ok x

-- what was read well is what was made
pub made : {A : Type 0} (x y : A) → Fine x ≡ Ok y → x ≡ y
made x y h = cc

-- what is in range passed the test, and is what it was
pub passed : {A : Type 0} (word : Word) (test : Bool) (x y : A) → in_range word test x ≡ Ok y → (test ≡ true) × (x ≡ y)
passed word true x y h = (refl, cc)
passed word false x y h = absurd cc

pub both_hold : (a b : Bool) → (a && b) ≡ true → (a ≡ true) × (b ≡ true)
both_hold true b h = (refl, h)
both_hold false b h = absurd (true≢false (sym h))

-- a number that was read is in its range
pub number_at-range : (key : Word) (low limit : ℕ) (d : Data) (n : ℕ) → number_at key low limit d ≡ Ok n → (low ≤ n) × (n < limit)
number_at-range key low limit d n h =
    let v = two_steps (required key (get (spelled key) d)) _ n h in
    let k = two_steps (of_kind key (number_of v.0)) _ n v.2 in
    let p = passed key (nat_le low k.0 && nat_lt k.0 limit) k.0 n k.2 in
    let q = both_hold (nat_le low k.0) (nat_lt k.0 limit) p.0 in
    rw (← p.1) (grind (arith, nat_tests), grind (arith, nat_tests))

-- a text that was read passes its test
pub text_at-test : (key : Word) (test : List ℕ → Bool) (d : Data) (text : List ℕ) → text_at key test d ≡ Ok text → test text ≡ true
text_at-test key test d text h =
    let v = two_steps (required key (get (spelled key) d)) _ text h in
    let t = two_steps (of_kind key (as_str v.0)) _ text v.2 in
    let p = passed key (test t.0) t.0 text t.2 in
    rw (← p.1) p.0

-- an array that was read is not too long
array_in-few : (key : Word) (most : ℕ) (v : Data) (ds : List Data) → array_in key most v ≡ Ok ds → length ds ≤ most
array_in-few key most v ds h =
    let xs = two_steps (of_kind key (array_of v)) _ ds h in
    let p = passed key (nat_le (length xs.0) most) xs.0 ds xs.2 in
    rw (← p.1) (grind (arith, nat_tests))

pub array_at-few : (key : Word) (most : ℕ) (d : Data) (ds : List Data) → array_at key most d ≡ Ok ds → length ds ≤ most
array_at-few key most d ds h =
    let v = two_steps (required key (get (spelled key) d)) _ ds h in
    array_in-few key most v.0 ds v.2

optional-few : (key : Word) (most : ℕ) (o : Option Data) (ds : List Data) → optional key most o ≡ Ok ds → length ds ≤ most
optional-few key most None ds h = let none : [] ≡ ds = cc in rw (← none) (omega arith)
optional-few key most (Some v) ds h = array_in-few key most v ds h

pub optional_at-few : (key : Word) (most : ℕ) (d : Data) (ds : List Data) → optional_at key most d ≡ Ok ds → length ds ≤ most
optional_at-few key most d ds h = optional-few key most (get (spelled key) d) ds h

-- as many rows are read as there are items
pub each-length : {A B : Type 0} (read : List B → A → Result B Flaw) (before : List B) (xs : List A) (rows : List B) → each_after read before xs ≡ Ok rows → length rows ≡ length before + length xs
each-length read before [] rows h = let same : before ≡ rows = cc in rw (← same) (omega arith)
each-length read before (x ∷ xs) rows h =
    let row = two_steps (read before x) _ rows h in
    each-length read (before ++ row.0 ∷ []) xs rows row.2 ∙ rw (length-append before (row.0 ∷ [])) (omega arith)

-- each row passes a test that each row does when it is read of an item that passes another
pub each-all : {A B : Type 0} (read : List B → A → Result B Flaw) (item : A → Bool) (test : B → Bool)
    (step : (before : List B) (x : A) (y : B) → item x ≡ true → read before x ≡ Ok y → test y ≡ true)
    (before : List B) (xs : List A) (rows : List B) → list_all item xs ≡ true → list_all test before ≡ true → each_after read before xs ≡ Ok rows → list_all test rows ≡ true
each-all read item test step before [] rows all h e = let same : before ≡ rows = cc in rw (← same) h
each-all read item test step before (x ∷ xs) rows all h e =
    let row = two_steps (read before x) _ rows e in
    let now = both_hold (item x) (list_all item xs) all in
    let more : list_all test (before ++ row.0 ∷ []) ≡ true = list_all-append test before (row.0 ∷ []) ∙ rw (h, step before x row.0 now.0 row.1) in
    each-all read item test step (before ++ row.0 ∷ []) xs rows now.1 more row.2

all-true : {A : Type 0} (xs : List A) → list_all (λ (x : A). true) xs ≡ true
all-true [] = refl
all-true (x ∷ xs) = all-true xs

-- each row passes a test that each row does when it is read
pub each-pass : {A B : Type 0} (read : List B → A → Result B Flaw) (test : B → Bool) (step : (before : List B) (x : A) (y : B) → read before x ≡ Ok y → test y ≡ true)
    (before : List B) (xs : List A) (rows : List B) → list_all test before ≡ true → each_after read before xs ≡ Ok rows → list_all test rows ≡ true
each-pass {A = A} read test step before xs rows h e = each-all read (λ (x : A). true) test (λ b x y _ r. step b x y r) before xs rows (all-true xs) h e

-- what the rows have in common with the items
pub each-same : {A B C : Type 0} (read : List B → A → Result B Flaw) (f : A → C) (g : B → C) (step : (before : List B) (x : A) (y : B) → read before x ≡ Ok y → g y ≡ f x)
    (before : List B) (xs : List A) (rows : List B) → each_after read before xs ≡ Ok rows → map g rows ≡ map g before ++ map f xs
each-same read f g step before [] rows h = let same : before ≡ rows = cc in rw (← same) (sym (append-nil (map g before)))
each-same read f g step before (x ∷ xs) rows h =
    let row = two_steps (read before x) _ rows h in
    each-same read f g step (before ++ row.0 ∷ []) xs rows row.2
    ∙ rw (map-append g before (row.0 ∷ []), step before x row.0 row.1) (append_assoc (map g before) (f x ∷ []) (map f xs))

-- the rows differ where each is read only if none before it is the same
pub each-differ : {A B : Type 0} {same : B → B → Bool} (laws : IsEquivalence same) (read : List B → A → Result B Flaw)
    (step : (before : List B) (x : A) (y : B) → read before x ≡ Ok y → list_any (same y) before ≡ false)
    (before : List B) (xs : List A) (rows : List B) → IsDistinct same before → each_after read before xs ≡ Ok rows → IsDistinct same rows
each-differ {same = same} laws read step before [] rows h e = let is : before ≡ rows = cc in subst (IsDistinct same) is h
each-differ laws read step before (x ∷ xs) rows h e =
    let row = two_steps (read before x) _ rows e in
    each-differ laws read step (before ++ row.0 ∷ []) xs rows (IsDistinct-push laws before row.0 h (step before x row.0 row.1)) row.2
