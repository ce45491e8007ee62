-- What is kept of a history, and the events that it stands for.
use Rattle.std.proofs.Common.{◌≡◌, ◌≤◌, ◌<◌, ◌+◌, ◌-◌, ℕ, zero, suc, List, [], ◌∷◌, ◌++◌, append-nil, drop, get_or, length, reverse, slice_get, sum_by, take, Some, refl, sym, ◌∙◌, ap, arith}
use Rattle.std.proofs.lemmas.List.{drop-append-le, drop-drop, get_or-drop, length-drop, length-reverse, length-take, nil_from_length, reverse-append, take-append-drop, take-append-le, take_all, take_more}
use Rattle.std.proofs.lemmas.Option.{get_or_from_slice_get, slice_get_within}
use Rattle.std.proofs.lemmas.List.Sums.{sum_by-append, sum_by-cons}
use Rattle.crgc_ids.specs.Actor.{Actor}
use Rattle.history_model.specs.declared.codes.Code.{Code}
use Rattle.history_model.specs.Codes.{event_of, events_of, further_count}

-- the further actors are those of the codes
abbrev pub AreOf : List Code → List Actor → Type 0
AreOf codes further = sum_by further_count codes ≡ length further

-- without the first code, the others have the rest of the further actors
module _ (x : Code) (cs : List Code) (us : List Actor) (are : AreOf (x ∷ cs) us) where
  first-within : further_count x ≤ length us
  first-within = omega (arith, are, sum_by-cons further_count x cs)

  rest-of : AreOf cs (drop (further_count x) us)
  rest-of = omega (arith, are, sum_by-cons further_count x cs, length-drop (further_count x) us)

-- one code more, with its further actors, is one event more
pub events-pushed : (cs : List Code) (c : Code) (us bs : List Actor) → AreOf cs us → length bs ≡ further_count c
    → events_of (cs ++ c ∷ []) (us ++ bs) ≡ events_of cs us ++ event_of c bs ∷ []
events-pushed [] c us bs are own =
    ap (λ xs. events_of (c ∷ []) (xs ++ bs)) (nil_from_length us (sym are)) ∙ ap (λ xs. event_of c xs ∷ []) (take_all (further_count c) bs (omega (arith, own)))
events-pushed (x ∷ cs) c us bs are own =
    let k = further_count x in
    let within = first-within x cs us are in
    ap (λ xs. event_of x xs ∷ events_of (cs ++ c ∷ []) (drop k (us ++ bs))) (take-append-le k us bs within)
    ∙ ap (λ xs. event_of x (take k us) ∷ events_of (cs ++ c ∷ []) xs) (drop-append-le k us bs within)
    ∙ ap (λ es. event_of x (take k us) ∷ es) (events-pushed cs c (drop k us) bs (rest-of x cs us are) own)

pub past-pushed : (cs : List Code) (c : Code) (us bs : List Actor) → AreOf cs us → length bs ≡ further_count c
    → reverse (events_of (cs ++ c ∷ []) (us ++ bs)) ≡ event_of c bs ∷ reverse (events_of cs us)
past-pushed cs c us bs are own = ap reverse (events-pushed cs c us bs are own) ∙ reverse-append (events_of cs us) (event_of c bs ∷ [])

-- so is one without further actors
pub past-put : (cs : List Code) (c : Code) (us : List Actor) → AreOf cs us → further_count c ≡ 0
    → reverse (events_of (cs ++ c ∷ []) us) ≡ event_of c [] ∷ reverse (events_of cs us)
past-put cs c us are none = ap (λ xs. reverse (events_of (cs ++ c ∷ []) xs)) (sym (append-nil us)) ∙ past-pushed cs c us [] are (sym none)

-- without the last code and its further actors, all but the last event are left
pub past-taken_back : (cs : List Code) (c : Code) (us : List Actor) → AreOf (cs ++ c ∷ []) us
    → reverse (events_of cs (take (length us - further_count c) us)) ≡ drop 1 (reverse (events_of (cs ++ c ∷ []) us))
past-taken_back cs c us are =
    let n = length us - further_count c in
    let total = sum_by-append further_count cs (c ∷ []) in
    let last = sum_by-cons further_count c [] in
    let first-ones : AreOf cs (take n us) = omega (arith, are, total, last, length-take n us) in
    let last-ones : length (drop n us) ≡ further_count c = omega (arith, are, total, last, length-drop n us) in
    sym (ap (λ xs. drop 1 (reverse (events_of (cs ++ c ∷ []) xs))) (sym (take-append-drop n us)) ∙ ap (drop 1) (past-pushed cs c (take n us) (drop n us) first-ones last-ones))

-- there are as many events as codes
pub events-length : (cs : List Code) (us : List Actor) → length (events_of cs us) ≡ length cs
events-length [] us = refl
events-length (x ∷ cs) us = ap suc (events-length cs (drop (further_count x) us))

pub past-length : (cs : List Code) (us : List Actor) → length (reverse (events_of cs us)) ≡ length cs
past-length cs us = length-reverse (events_of cs us) ∙ events-length cs us

-- ---- reading on

pub read-first : {X : Type 0} (xs : List X) (i : ℕ) → i < length xs → (x : X) × (slice_get (drop i xs) 0 ≡ Some x)
read-first [] i below = absurd (omega arith)
read-first (x ∷ xs) zero below = (x, refl)
read-first (x ∷ xs) (suc i) below = read-first xs i (omega (arith, below))

-- what was read is one more, and what is left is one less
module _ {X : Type 0} (xs : List X) (i : ℕ) (x : X) (is : slice_get (drop i xs) 0 ≡ Some x) where
  pub left-within : i < length xs
  left-within = omega (arith, slice_get_within (drop i xs) 0 x is, length-drop i xs)

  pub read-next : get_or xs i x ≡ x
  read-next = sym (ap (λ k. get_or xs k x) (omega arith)) ∙ sym (get_or-drop i xs 0 x) ∙ get_or_from_slice_get (drop i xs) 0 x x is

  pub read-more : take (i + 1) xs ≡ take i xs ++ x ∷ []
  read-more = take_more xs i x left-within ∙ ap (λ y. take i xs ++ y ∷ []) read-next

  pub left-less : drop 1 (drop i xs) ≡ drop (i + 1) xs
  left-less = drop-drop 1 i xs ∙ ap (λ k. drop k xs) (omega arith)
