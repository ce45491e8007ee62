-- The numbers of names, kept in a map.
use Rattle.std.proofs.Common.{◌≡◌, ◌||◌, ◌++◌, ◌+◌, ◌<◌, ◌≤◌, Bool, true, false, not, cond, ℕ, suc, List, [], ◌∷◌, length, map, take, drop, get_or, Option, Some, Result, Err, is_some, Vec, Global, BTreeMap, Ordering, Less, Equal, Greater, nat_cmp, true≢false, refl, sym, ◌∙◌, ap, add-one, add-zero, zero-add, arith}
use Rattle.std.proofs.lemmas.Map.Text.{is_eq-slice_cmp}
use Rattle.std.proofs.lemmas.Slice.Eq.{bytes_eq-Decides}
use Rattle.std.proofs.Math.Seq.{drop-cons}
use Rattle.std.specs.BTreeMap.{insert_entry}
use Rattle.std.specs.Cmp.Lexicographic.{slice_cmp}
use Rattle.std.specs.List.{list_any, position_from}
use Rattle.std.specs.Map.{lookup}
use Rattle.std.specs.Ordering.{is_eq, match_ordering}
use Rattle.std.specs.Str.{bytes_eq}
use Rattle.std.proofs.lemmas.List.{length-map, length-take-le, map-append, take_more}
use Rattle.script_reader.specs.declared.draft.DraftBehaviour.{DraftBehaviour}
use Rattle.script_reader.specs.declared.fault.Flaw.{Flaw}
use Rattle.script_reader.specs.declared.fault.Flaw.TheVariants.{Range}
use Rattle.script_reader.specs.declared.words.Word.TheVariants as words
use Rattle.script_reader.specs.Found.{IsNumbering, finds}
use Rattle.script_reader.specs.Numbered.{new_name, number_in}
use Rattle.script_reader.specs.Walk.{◌>>=◌, each_after, in_range}

abbrev pub Text : Type 0
Text = Vec ℕ Global

-- a position is found exactly where some element passes
pub found-any : {A : Type 0} (p : A → Bool) (i : ℕ) (xs : List A) → is_some (position_from p i xs) ≡ list_any p xs
found-any p i [] = refl
found-any p i (x ∷ xs) = elim (p x) as (λ b. is_some (cond b (Some i) (position_from p (i + 1) xs)) ≡ (b || list_any p xs)) [ true ↦ refl | false ↦ found-any p (i + 1) xs ]

or_none : (a b : Bool) → (a || b) ≡ false → (a ≡ false) × (b ≡ false)
or_none true b h = absurd (true≢false h)
or_none false b h = (refl, h)

-- two tests that do not both pass may change places
swap_tests : {A : Type 0} (p q : Bool) (x y rest : A) → (q ≡ true → p ≡ false) → cond p x (cond q y rest) ≡ cond q y (cond p x rest)
swap_tests true true x y rest h = absurd (true≢false (h refl))
swap_tests true false x y rest h = refl
swap_tests false q x y rest h = refl

-- where none passes before it, the last element is found where it passes
pub found-last : {A : Type 0} (p : A → Bool) (i : ℕ) (xs : List A) (x : A) → (p x ≡ true → list_any p xs ≡ false) → position_from p i (xs ++ x ∷ []) ≡ cond (p x) (Some (i + length xs)) (position_from p i xs)
found-last p i [] x h = rw (add-zero i)
found-last p i (y ∷ xs) x h =
    let later = found-last p (i + 1) xs x (λ e. (or_none (p y) (list_any p xs) (h e)).1) in
    let count : i + 1 + length xs ≡ i + suc (length xs) = omega arith in
    rw (later, count) (swap_tests (p y) (p x) (Some i) (Some (i + suc (length xs))) (position_from p (i + 1) xs) (λ e. (or_none (p y) (list_any p xs) (h e)).0))

abbrev looked_up : List ℕ → List (Text × ℕ) → Option ℕ
looked_up name es = lookup (λ t. is_eq (slice_cmp nat_cmp name t.items)) es

abbrev inserted : List (Text × ℕ) → Text → ℕ → List (Text × ℕ)
inserted es k v = insert_entry (λ x y. slice_cmp nat_cmp x.items y.items) es k v

same_texts : (k l : Text) → slice_cmp nat_cmp k.items l.items ≡ Equal → k.items ≡ l.items
same_texts k l is = (bytes_eq-Decides k.items l.items).0 (sym (is_eq-slice_cmp k.items l.items) ∙ ap is_eq is)

apart : (name : List ℕ) (k l : Text) → slice_cmp nat_cmp k.items l.items ≡ Greater → bytes_eq name k.items ≡ true → bytes_eq name l.items ≡ false
apart name k l is h =
    let same : name ≡ k.items = (bytes_eq-Decides name k.items).0 h in
    rw (same, ← is_eq-slice_cmp k.items l.items, is)

either_way : {A : Type 0} (b : Bool) (x y z : A) → cond b x z ≡ cond b x (cond b y z)
either_way true x y z = refl
either_way false x y z = refl

turn : (o : Ordering) (name : List ℕ) (e : Text × ℕ) (es : List (Text × ℕ)) (k : Text) (v : ℕ) → slice_cmp nat_cmp k.items e.0.items ≡ o
    → looked_up name (inserted es k v) ≡ cond (bytes_eq name k.items) (Some v) (looked_up name es)
    → looked_up name (match_ordering o ((k, v) ∷ e ∷ es) ((e.0, v) ∷ es) (e ∷ inserted es k v)) ≡ cond (bytes_eq name k.items) (Some v) (looked_up name (e ∷ es))
turn Less name e es k v is later = rw (is_eq-slice_cmp name k.items)
turn Equal name e es k v is later =
    rw (same_texts k e.0 is, is_eq-slice_cmp name e.0.items) (either_way (bytes_eq name e.0.items) (Some v) (Some e.1) (looked_up name es))
turn Greater name e es k v is later =
    rw (later, is_eq-slice_cmp name e.0.items)
    (swap_tests (bytes_eq name e.0.items) (bytes_eq name k.items) (Some e.1) (Some v) (looked_up name es) (apart name k e.0 is))

-- after an insert, the map finds the new number at that name, and at each other what it found
pub lookup-insert : (name : List ℕ) (es : List (Text × ℕ)) (k : Text) (v : ℕ) → looked_up name (inserted es k v) ≡ cond (bytes_eq name k.items) (Some v) (looked_up name es)
lookup-insert name [] k v = rw (is_eq-slice_cmp name k.items)
lookup-insert name (e ∷ es) k v = turn (slice_cmp nat_cmp k.items e.0.items) name e es k v refl (lookup-insert name es k v)

-- the next number is given to a name that has none
pub numbering-push : (old new : BTreeMap Text ℕ) (names : List (List ℕ)) (k : Text) (name : List ℕ) → k.items ≡ name → IsNumbering old names
    → is_some (finds old name) ≡ false → new.entries ≡ inserted old.entries k (length names) → IsNumbering new (names ++ name ∷ [])
numbering-push old new names k name is numbers absent entries other =
    let none : list_any (bytes_eq name) names ≡ false = sym (found-any (bytes_eq name) 0 names) ∙ ap is_some (sym (numbers name)) ∙ absent in
    let unlike : bytes_eq other name ≡ true → list_any (bytes_eq other) names ≡ false = λ h. rw ((bytes_eq-Decides other name).0 h) none in
    let count : 0 + length names ≡ length names = zero-add (length names) in
    let last : number_in (names ++ name ∷ []) other ≡ cond (bytes_eq other name) (Some (length names)) (number_in names other) =
    rw count at (found-last (bytes_eq other) 0 names name unlike) in
    let there : finds new other ≡ cond (bytes_eq other k.items) (Some (length names)) (finds old other) =
    ap (looked_up other) entries ∙ lookup-insert other old.entries k (length names) in
    there ∙ ap (λ n. cond (bytes_eq other n) (Some (length names)) (finds old other)) is
    ∙ ap (cond (bytes_eq other name) (Some (length names))) (numbers other) ∙ sym last

-- the rows from one place on begin with the one there
pub next : {V : Type 0} (vs : List V) (i : ℕ) (v : V) → i < length vs → v ≡ get_or vs i v → drop i vs ≡ v ∷ drop (i + 1) vs
next vs i v h is = rw (add-one, drop-cons vs i v h, ← is)

abbrev pub names : List DraftBehaviour → List (List ℕ)
names bs = map (λ b. b.name) bs

-- a name is known exactly where it is one of the names
pub known-any : (numbers : BTreeMap Text ℕ) (ns : List (List ℕ)) → IsNumbering numbers ns → (n : List ℕ) → is_some (finds numbers n) ≡ list_any (bytes_eq n) ns
known-any numbers ns is n = ap is_some (is n) ∙ found-any (bytes_eq n) 0 ns

-- a name that is there already ends the reading
pub name_fails : (bs : List DraftBehaviour) (i : ℕ) (b : DraftBehaviour) (total : Result (List (List ℕ)) Flaw) → i < length bs → b ≡ get_or bs i b
    → list_any (bytes_eq b.name) (names (take i bs)) ≡ true → each_after new_name (names (take i bs)) (drop i bs) ≡ total → total ≡ Err (Range words.Name)
name_fails bs i b total h is there read =
    sym (rw (next bs i b h is) at read)
    ∙ ap (λ t. in_range words.Name (not t) b.name >>= λ n. each_after new_name (names (take i bs) ++ n ∷ []) (drop (i + 1) bs)) there

pub names-more : (bs : List DraftBehaviour) (i : ℕ) (b : DraftBehaviour) → i < length bs → b ≡ get_or bs i b → names (take (i + 1) bs) ≡ names (take i bs) ++ b.name ∷ []
names-more bs i b h is = ap names (take_more bs i b h ∙ ap (λ x. take i bs ++ x ∷ []) (sym is)) ∙ map-append (λ (x : DraftBehaviour). x.name) (take i bs) (b ∷ [])

-- a new name is read
pub name_goes : (bs : List DraftBehaviour) (i : ℕ) (b : DraftBehaviour) (total : Result (List (List ℕ)) Flaw) → i < length bs → b ≡ get_or bs i b
    → list_any (bytes_eq b.name) (names (take i bs)) ≡ false → each_after new_name (names (take i bs)) (drop i bs) ≡ total → each_after new_name (names (take (i + 1) bs)) (drop (i + 1) bs) ≡ total
name_goes bs i b total h is there read =
    ap (λ ns. each_after new_name ns (drop (i + 1) bs)) (names-more bs i b h is)
    ∙ sym (ap (λ t. in_range words.Name (not t) b.name >>= λ n. each_after new_name (names (take i bs) ++ n ∷ []) (drop (i + 1) bs)) there)
    ∙ (rw (next bs i b h is) at read)

pub length-names : (bs : List DraftBehaviour) (i : ℕ) → i ≤ length bs → length (names (take i bs)) ≡ i
length-names bs i h = length-map (take i bs) (λ b. b.name) ∙ length-take-le i bs h
