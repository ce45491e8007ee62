-- A table of targets: what a change of its vector or of its map says of the counts.
use Rattle.std.proofs.Common.{◌≡◌, ◌≢◌, ◌+◌, ◌⊎◌, ℕ, true, false, List, [], ◌∷◌, ◌++◌, None, Result, Ok, Err, OnOk, OnErr, get_or, set, refl, sym, ◌∙◌, ap, subst, inl, inr, arith}
use Rattle.std.proofs.lemmas.Bool.{false≢true}
use Rattle.std.specs.Option.{unwrap_or}
use Rattle.crgc_ids.proofs.ActorLaws.{same_actor-decides}
use Rattle.crgc_ids.specs.Actor.{Actor, same_actor}
use Rattle.refob_counts.specs.Counts.{IsCountChange, count_of}
use Rattle.refob_counts.specs.Rising.{AreBelow, IsPlaceOf, IsPushed, found_in, standing}
use Rattle.refob_counts.specs.Table.{IsTable}
use Rattle.refob_counts.proofs.RisingLemmas.{above-absent, absent-standing, below-standing, change-push, change-set, count-both, count-standing, found-at, found-push_others, found-set_others, rising-push, rising-set, rising-standing, standing-again}

-- two actors are one or not
one_or_two : (a t : Actor) → (a ≡ t) ⊎ (a ≢ t)
one_or_two a t =
    let told = same_actor-decides a t in
    (elim (same_actor a t) as (λ b. same_actor a t ≡ b → (a ≡ t) ⊎ (a ≢ t)) [
      | true ↦ λ is. inl (told.0 is)
      | false ↦ λ is. inr (λ e. false≢true (sym is ∙ told.1 e))
    ]) refl

-- ---- what is counted

-- without the targets with a count of 0 it is a table
pub table-standing : (rising strays : List (Actor × ℕ)) → IsTable rising strays → IsTable (standing rising) strays
table-standing rising strays table = record {
  rises = rising-standing rising table.rises;
  apart = λ a. elim (table.apart a) [ inl none ↦ inl (absent-standing rising a none) | inr zero_there ↦ inr zero_there ];
}

-- a target has what the vector and the map have for it together
pub count-table : (rising strays : List (Actor × ℕ)) → IsTable rising strays → (a : Actor) → count_of (standing rising ++ strays) a ≡ count_of rising a + count_of strays a
count-table rising strays table a =
    count-both (standing rising) strays a ((table-standing rising strays table).apart a) ∙ ap (λ n. n + count_of strays a) (count-standing rising a table.rises)

-- one that has a place in the vector counts there alone
apart-at : (rising strays : List (Actor × ℕ)) → IsTable rising strays → (t : Actor) (i : ℕ) → IsPlaceOf rising t i → count_of strays t ≡ 0
apart-at rising strays table t i place = elim (table.apart t) [
  | inl none ↦ (let at = found-at rising t i (t, 0) table.rises place in absurd (cc))
  | inr zero_there ↦ zero_there
]

pub count-at : (rising strays : List (Actor × ℕ)) → IsTable rising strays → (t : Actor) (i : ℕ) (row : Actor × ℕ) → IsPlaceOf rising t i → row ≡ get_or rising i row → count_of (standing rising ++ strays) t ≡ row.1
count-at rising strays table t i row place is =
    let at : count_of rising t ≡ (get_or rising i row).1 = ap (λ o. unwrap_or o 0) (found-at rising t i row table.rises place) in
    let there = apart-at rising strays table t i place in
    let both = count-table rising strays table t in
    let read : row.1 ≡ (get_or rising i row).1 = ap (λ (r : Actor × ℕ). r.1) is in
    omega arith

-- one that has none counts in the map alone
pub count-stray : (rising strays : List (Actor × ℕ)) → IsTable rising strays → (t : Actor) → found_in rising t ≡ None → count_of (standing rising ++ strays) t ≡ count_of strays t
count-stray rising strays table t none =
    let here : count_of rising t ≡ 0 = ap (λ o. unwrap_or o 0) none in
    let both = count-table rising strays table t in
    omega arith

-- one that is above the vector's and is no stray does not count
pub count-next : (rising strays : List (Actor × ℕ)) → IsTable rising strays → (t : Actor) → AreBelow rising t → found_in strays t ≡ None → count_of (standing rising ++ strays) t ≡ 0
count-next rising strays table t below none =
    count-stray rising strays table t (above-absent rising t below) ∙ ap (λ o. unwrap_or o 0) none

-- ---- a change of the vector

change-rising : (rising new strays : List (Actor × ℕ)) (t : Actor) (n : ℕ) → IsTable rising strays → IsTable new strays → IsCountChange rising new t n → count_of strays t ≡ 0 → IsCountChange (standing rising ++ strays) (standing new ++ strays) t n
change-rising rising new strays t n table later change zero_there = record {
  changed = (let both = count-table new strays later t in let changed = change.changed in omega arith);
  others = λ a differ. (
      let before = count-table rising strays table a in
      let after = count-table new strays later a in
      let same = change.others a differ in
      omega arith
      );
}

-- a count is written at the target's place
table-set : (rising strays : List (Actor × ℕ)) → IsTable rising strays → (i : ℕ) (t : Actor) (n : ℕ) → IsPlaceOf rising t i → IsTable (set rising i (t, n)) strays
table-set rising strays table i t n place = record {
  rises = rising-set rising i t n place table.rises;
  apart = λ a. elim (one_or_two a t) [
    | inl e ↦ inr (subst (λ b. count_of strays b ≡ 0) (sym e) (apart-at rising strays table t i place))
    | inr differ ↦ elim (table.apart a) [
      | inl none ↦ inl (found-set_others rising i t n place a differ ∙ none)
      | inr zero_there ↦ inr zero_there
    ]
  ];
}

change-at : (rising strays : List (Actor × ℕ)) → IsTable rising strays → (i : ℕ) (t : Actor) (n : ℕ) → IsPlaceOf rising t i → IsCountChange (standing rising ++ strays) (standing (set rising i (t, n)) ++ strays) t n
change-at rising strays table i t n place =
    change-rising rising (set rising i (t, n)) strays t n table (table-set rising strays table i t n place) (change-set rising i t n table.rises place) (apart-at rising strays table t i place)

-- the row that is written has the target that was read there
target-at : (rising : List (Actor × ℕ)) (i : ℕ) (t : Actor) (row : Actor × ℕ) → IsPlaceOf rising t i → row ≡ get_or rising i row → row.0 ≡ t
target-at rising i t row place is = ap (λ (r : Actor × ℕ). r.0) is ∙ place.1 row

pub table-written : (rising strays : List (Actor × ℕ)) → IsTable rising strays → (i : ℕ) (t : Actor) (row : Actor × ℕ) (n : ℕ) → IsPlaceOf rising t i → row ≡ get_or rising i row → IsTable (set rising i (row.0, n)) strays
table-written rising strays table i t row n place is =
    subst (λ a. IsTable (set rising i (a, n)) strays) (sym (target-at rising i t row place is)) (table-set rising strays table i t n place)

pub change-written : (rising strays : List (Actor × ℕ)) → IsTable rising strays → (i : ℕ) (t : Actor) (row : Actor × ℕ) (n : ℕ) → IsPlaceOf rising t i → row ≡ get_or rising i row → IsCountChange (standing rising ++ strays) (standing (set rising i (row.0, n)) ++ strays) t n
change-written rising strays table i t row n place is =
    subst (λ a. IsCountChange (standing rising ++ strays) (standing (set rising i (a, n)) ++ strays) t n) (sym (target-at rising i t row place is)) (change-at rising strays table i t n place)

-- so many more are written than were read
pub gain-written : (rising strays : List (Actor × ℕ)) → IsTable rising strays → (i : ℕ) (t : Actor) (row : Actor × ℕ) (n : ℕ) → IsPlaceOf rising t i → row ≡ get_or rising i row → IsCountChange (standing rising ++ strays) (standing (set rising i (row.0, row.1 + n)) ++ strays) t (count_of (standing rising ++ strays) t + n)
gain-written rising strays table i t row n place is =
    subst (λ m. IsCountChange (standing rising ++ strays) (standing (set rising i (row.0, row.1 + n)) ++ strays) t (m + n)) (sym (count-at rising strays table t i row place is)) (change-written rising strays table i t row (row.1 + n) place is)

-- a row comes last
table-last : (rising strays : List (Actor × ℕ)) → IsTable rising strays → (t : Actor) (n : ℕ) → AreBelow rising t → found_in strays t ≡ None → IsTable (rising ++ (t, n) ∷ []) strays
table-last rising strays table t n below none = record {
  rises = rising-push rising t n table.rises below;
  apart = λ a. elim (one_or_two a t) [
    | inl e ↦ inr (subst (λ b. count_of strays b ≡ 0) (sym e) (ap (λ o. unwrap_or o 0) none))
    | inr differ ↦ elim (table.apart a) [
      | inl absent ↦ inl (found-push_others rising t n a differ ∙ absent)
      | inr zero_there ↦ inr zero_there
    ]
  ];
}

table-pushed : (rising strays new : List (Actor × ℕ)) → IsTable rising strays → (t : Actor) (n : ℕ) → AreBelow rising t → found_in strays t ≡ None → IsPushed rising new (t, n) → IsTable new strays
table-pushed rising strays new table t n below none (inl e) =
    subst (λ rows. IsTable rows strays) (sym e) (table-last rising strays table t n below none)
table-pushed rising strays new table t n below none (inr e) =
    subst (λ rows. IsTable rows strays) (sym e) (table-last (standing rising) strays (table-standing rising strays table) t n (below-standing rising t below) none)

rows-pushed : (rising strays new : List (Actor × ℕ)) → IsTable rising strays → (t : Actor) (n : ℕ) → AreBelow rising t → IsPushed rising new (t, n) → IsCountChange rising new t n
rows-pushed rising strays new table t n below (inl e) =
    subst (λ rows. IsCountChange rising rows t n) (sym e) (change-push rising t n below)
rows-pushed rising strays new table t n below (inr e) =
    let change = change-push (standing rising) t n (below-standing rising t below) in
    subst (λ rows. IsCountChange rising rows t n) (sym e) (record {
      changed = change.changed;
      others = λ a differ. change.others a differ ∙ count-standing rising a table.rises;
    })

-- so it is a table after a push, whether there was memory or not
pub table-after : {A E : Type 0} (r : Result A E) (rising strays new : List (Actor × ℕ)) → IsTable rising strays → (t : Actor) (n : ℕ) → (AreBelow rising t × (found_in strays t ≡ None)) → OnOk r (IsPushed rising new (t, n)) → OnErr r (new ≡ standing rising) → IsTable new strays
table-after (Ok x) rising strays new table t n next ok err = table-pushed rising strays new table t n next.0 next.1 ok
table-after (Err e) rising strays new table t n next ok err =
    subst (λ rows. IsTable rows strays) (sym err) (table-standing rising strays table)

-- the target has its count if there was
pub change-after : {A E : Type 0} (r : Result A E) (rising strays new : List (Actor × ℕ)) → IsTable rising strays → (t : Actor) (n : ℕ) → (AreBelow rising t × (found_in strays t ≡ None)) → OnOk r (IsPushed rising new (t, n)) → OnOk r (IsCountChange (standing rising ++ strays) (standing new ++ strays) t n)
change-after (Ok x) rising strays new table t n next ok =
    change-rising rising new strays t n table (table-pushed rising strays new table t n next.0 next.1 ok) (rows-pushed rising strays new table t n next.0 ok) (ap (λ o. unwrap_or o 0) next.1)
change-after (Err e) rising strays new table t n next ok = tt

-- which is so many more than it had, since it had none
pub gain-after : {A E : Type 0} (r : Result A E) (rising strays new : List (Actor × ℕ)) → IsTable rising strays → (t : Actor) (n : ℕ) → (AreBelow rising t × (found_in strays t ≡ None)) → OnOk r (IsPushed rising new (t, n)) → OnOk r (IsCountChange (standing rising ++ strays) (standing new ++ strays) t (count_of (standing rising ++ strays) t + n))
gain-after r rising strays new table t n next ok =
    let had = count-next rising strays table t next.0 next.1 in
    let more : n ≡ count_of (standing rising ++ strays) t + n = omega arith in
    subst (λ m. OnOk r (IsCountChange (standing rising ++ strays) (standing new ++ strays) t m)) more (change-after r rising strays new table t n next ok)

pub none-after : {A E : Type 0} (r : Result A E) (rising strays : List (Actor × ℕ)) → IsTable rising strays → (t : Actor) → (AreBelow rising t × (found_in strays t ≡ None)) → OnErr r (count_of (standing rising ++ strays) t ≡ 0)
none-after (Ok x) rising strays table t next = tt
none-after (Err e) rising strays table t next = count-next rising strays table t next.0 next.1

-- and all is as before if there was none
pub same-after : {A E : Type 0} (r : Result A E) (rising strays new : List (Actor × ℕ)) → OnErr r (new ≡ standing rising) → OnErr r (standing new ++ strays ≡ standing rising ++ strays)
same-after (Ok x) rising strays new err = tt
same-after (Err e) rising strays new err = ap (λ rows. standing rows ++ strays) err ∙ ap (λ rows. rows ++ strays) (standing-again rising)

-- ---- a change of the map

pub table-strays : (rising strays new : List (Actor × ℕ)) → IsTable rising strays → (t : Actor) (n : ℕ) → found_in rising t ≡ None → IsCountChange strays new t n → IsTable rising new
table-strays rising strays new table t n none change = record {
  rises = table.rises;
  apart = λ a. elim (one_or_two a t) [
    | inl e ↦ inl (subst (λ b. found_in rising b ≡ None) (sym e) none)
    | inr differ ↦ elim (table.apart a) [
      | inl absent ↦ inl absent
      | inr zero_there ↦ inr (change.others a differ ∙ zero_there)
    ]
  ];
}

pub change-strays : (rising strays new : List (Actor × ℕ)) → IsTable rising strays → (t : Actor) (n : ℕ) → found_in rising t ≡ None → IsCountChange strays new t n → IsCountChange (standing rising ++ strays) (standing rising ++ new) t n
change-strays rising strays new table t n none change =
    let later = table-strays rising strays new table t n none change in
    record {
      changed = count-stray rising new later t none ∙ change.changed;
      others = λ a differ. (
          let before = count-table rising strays table a in
          let after = count-table rising new later a in
          let same = change.others a differ in
          omega arith
          );
    }

-- whether there was memory or not
pub table-strays_after : {A E : Type 0} (r : Result A E) (rising strays new : List (Actor × ℕ)) → IsTable rising strays → (t : Actor) (n : ℕ) → found_in rising t ≡ None → OnOk r (IsCountChange strays new t n) → OnErr r (new ≡ strays) → IsTable rising new
table-strays_after (Ok x) rising strays new table t n none ok err = table-strays rising strays new table t n none ok
table-strays_after (Err e) rising strays new table t n none ok err = subst (IsTable rising) (sym err) table

pub change-strays_after : {A E : Type 0} (r : Result A E) (rising strays new : List (Actor × ℕ)) → IsTable rising strays → (t : Actor) (n : ℕ) → found_in rising t ≡ None → OnOk r (IsCountChange strays new t n) → OnOk r (IsCountChange (standing rising ++ strays) (standing rising ++ new) t n)
change-strays_after (Ok x) rising strays new table t n none ok = change-strays rising strays new table t n none ok
change-strays_after (Err e) rising strays new table t n none ok = tt

pub gain-strays_after : {A E : Type 0} (r : Result A E) (rising strays new : List (Actor × ℕ)) → IsTable rising strays → (t : Actor) (n : ℕ) → found_in rising t ≡ None → OnOk r (IsCountChange strays new t (count_of strays t + n)) → OnOk r (IsCountChange (standing rising ++ strays) (standing rising ++ new) t (count_of (standing rising ++ strays) t + n))
gain-strays_after r rising strays new table t n none ok =
    subst (λ m. OnOk r (IsCountChange (standing rising ++ strays) (standing rising ++ new) t (m + n))) (sym (count-stray rising strays table t none)) (change-strays_after r rising strays new table t (count_of strays t + n) none ok)

pub none-strays_after : {A E : Type 0} (r : Result A E) (rising strays : List (Actor × ℕ)) → IsTable rising strays → (t : Actor) → found_in rising t ≡ None → OnErr r (count_of strays t ≡ 0) → OnErr r (count_of (standing rising ++ strays) t ≡ 0)
none-strays_after (Ok x) rising strays table t none absent = tt
none-strays_after (Err e) rising strays table t none absent = count-stray rising strays table t none ∙ absent
