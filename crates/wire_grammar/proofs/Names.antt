-- The names of rows against a table: which tables have all of them, and how long such a table is.
use Rattle.std.proofs.Common.{◌≡◌, ◌<◌, ◌≤◌, ◌+◌, ◌*◌, ◌^◌, ℕ, suc, Bool, true, false, cond, ltb, List, [], ◌∷◌, ◌++◌, length, Option, Some, None, Ok, refl, sym, ap, subst, ◌∙◌, inl, inr, arith}
use Rattle.std.specs.List.{AllByRecursion, flat_map, list_any}
use Rattle.std.proofs.lemmas.Bool.{ltb-false}
use Rattle.std.proofs.lemmas.List.Concat.{flat_map-cons}
use Rattle.crgc_ids.specs.Actor.{Actor, IsActorBelow, same_actor, IsActor}
use Rattle.crgc_ids.specs.Members.{IsAmong, IsPart}
use Rattle.crgc_ids.specs.Rising.{IsRising}
use Rattle.crgc_ids.proofs.ActorLaws.{same_actor-decides}
use Rattle.crgc_ids.proofs.MembersLaws.{IsAmong-append_cases, IsAmong-append_left, IsAmong-append_right, list_any-member, all-implied}
use Rattle.history_model.proofs.RisingActors.{among-decides}
use Rattle.wire_grammar.specs.Named.{table_of}
use Rattle.wire_grammar.specs.Reading.{all_named, unnamed}
use Rattle.wire_grammar.specs.Spelling.{index_len}
use Rattle.wire_grammar.specs.Spellable.{AreRows}
use Rattle.wire_grammar.proofs.Readers.{ok_is}
use Rattle.wire_grammar.proofs.Rows.{AreFitting}
use Rattle.wire_grammar.proofs.Tables.{IsTable, part_length, table-same, table_of-has, table_of-only, table_of-rises}
use Rattle.history_model.proofs.Lists.{Each}

pub each-both : (P : Actor → Type 0) (xs ys : List Actor) → Each P xs → Each P ys → Each P (xs ++ ys)
each-both P xs ys h k x m = elim (IsAmong-append_cases x xs ys m) [ inl l ↦ h x l | inr r ↦ k x r ]

pub each-left : (P : Actor → Type 0) (xs ys : List Actor) → Each P (xs ++ ys) → Each P xs
each-left P xs ys h x m = h x (IsAmong-append_left x xs ys m)

pub each-right : (P : Actor → Type 0) (xs ys : List Actor) → Each P (xs ++ ys) → Each P ys
each-right P xs ys h x m = h x (IsAmong-append_right x xs ys m)

module _ {X : Type 0} (names : X → List Actor) where
  -- what holds of each name of each row holds of all names
  pub each-names : (P : Actor → Type 0) (xs : List X) → AllByRecursion (λ r. Each P (names r)) xs → Each P (flat_map names xs)
  each-names P [] h = λ x m. absurd m
  each-names P (r ∷ rs) h = subst (Each P) (sym (flat_map-cons names r rs)) (each-both P (names r) (flat_map names rs) h.0 (each-names P rs h.1))

  pub names-each : (P : Actor → Type 0) (xs : List X) → Each P (flat_map names xs) → AllByRecursion (λ r. Each P (names r)) xs
  names-each P [] h = tt
  names-each P (r ∷ rs) h =
      let whole : Each P (names r ++ flat_map names rs) = subst (Each P) (flat_map-cons names r rs) h in
      (each-left P (names r) (flat_map names rs) whole, names-each P rs (each-right P (names r) (flat_map names rs) whole))

  all_both : (P Q R : X → Type 0) → ((r : X) → P r → Q r → R r) → (xs : List X) → AllByRecursion P xs → AllByRecursion Q xs → AllByRecursion R xs
  all_both P Q R f [] h k = tt
  all_both P Q R f (x ∷ xs) h k = (f x h.0 k.0, all_both P Q R f xs h.1 k.1)

  module _ (Above : X → X → Type 0) (IsRow : X → Type 0) (Fits : List Actor → X → Type 0)
      (actors : (r : X) → IsRow r → Each IsActor (names r))
      (found : (table : List Actor) → AllByRecursion IsActor table → (r : X) → Fits table r → IsRow r)
      (named : (table : List Actor) (r : X) → Fits table r → IsPart (names r) table)
      (fitting : (table : List Actor) (r : X) → IsRow r → IsPart (names r) table → Fits table r)
    where
      -- rows that fit a table of actors are rows
      pub rows-found : (table : List Actor) (IsLen : ℕ → Type 0) (xs : List X) → AllByRecursion IsActor table → ((n : ℕ) → IsLen n → n < 2 ^ 32) → AreFitting Above (Fits table) IsLen xs → AreRows Above IsRow xs
      rows-found table IsLen xs all short h = record {
        rise = h.rise;
        stand = all-implied (Fits table) IsRow (found table all) xs h.fit;
        fit = short (length xs) h.len;
      }

      -- rows that fit a table name its actors
      pub rows-named : (table : List Actor) (IsLen : ℕ → Type 0) (xs : List X) → AreFitting Above (Fits table) IsLen xs → IsPart (flat_map names xs) table
      rows-named table IsLen xs h = each-names (λ x. IsAmong x table) xs (all-implied (Fits table) (λ r. IsPart (names r) table) (named table) xs h.fit)

      -- rows whose names the table has fit it
      pub rows-fit : (table : List Actor) (IsLen : ℕ → Type 0) (xs : List X) → AreRows Above IsRow xs → IsPart (flat_map names xs) table → IsLen (length xs) → AreFitting Above (Fits table) IsLen xs
      rows-fit table IsLen xs h part len = record {
        rise = h.rise;
        fit = all_both IsRow (λ r. IsPart (names r) table) (Fits table) (fitting table) xs h.stand (names-each (λ x. IsAmong x table) xs part);
        len = len;
      }

      pub rows-actors : (xs : List X) → AreRows Above IsRow xs → Each IsActor (flat_map names xs)
      rows-actors xs h = each-names IsActor xs (all-implied IsRow (λ r. Each IsActor (names r)) actors xs h.stand)

-- rows that rise by their actor are not more than the actors of a table that has them
module _ {X : Type 0} (actor : X → Actor) where
  all_named_by : (x : Actor) (xs : List X) → AllByRecursion (λ r. IsActorBelow x (actor r)) xs → AllByRecursion (IsActorBelow x) (flat_map (λ r. actor r ∷ []) xs)
  all_named_by x [] h = tt
  all_named_by x (r ∷ rs) h =
      subst (AllByRecursion (IsActorBelow x)) (sym (flat_map-cons (λ r. actor r ∷ []) r rs)) (h.0, all_named_by x rs h.1)

  names-rise : (xs : List X) → IsRising (λ r s. IsActorBelow (actor r) (actor s)) xs → IsTable (flat_map (λ r. actor r ∷ []) xs)
  names-rise [] h = tt
  names-rise (r ∷ rs) h =
      subst IsTable (sym (flat_map-cons (λ r. actor r ∷ []) r rs)) (all_named_by (actor r) rs h.0, names-rise rs h.1)

  names-length : (xs : List X) → length (flat_map (λ r. actor r ∷ []) xs) ≡ length xs
  names-length [] = refl
  names-length (r ∷ rs) = ap length (flat_map-cons (λ r. actor r ∷ []) r rs) ∙ ap suc (names-length rs)

  pub rows_length : (table : List Actor) (xs : List X) → IsTable table → IsRising (λ r s. IsActorBelow (actor r) (actor s)) xs → IsPart (flat_map (λ r. actor r ∷ []) xs) table → length xs ≤ length table
  rows_length table xs t r p =
      let h = part_length (flat_map (λ r. actor r ∷ []) xs) table (names-rise xs r) t p in
      omega (arith, names-length xs)

-- the place of an actor among all that there can be
abbrev place : Actor → ℕ
place a = a.node * 262144 + a.serial

places_above : (x : Actor) (xs : List Actor) → IsActor x → AllByRecursion IsActor xs → AllByRecursion (IsActorBelow x) xs → AllByRecursion (λ a. place x + 1 ≤ place a) xs
places_above x [] h k b = tt
places_above x (y ∷ ys) h k b =
    (elim b.0 [ inl l ↦ omega (arith, h.1) | inr r ↦ omega (arith, r.0, r.1) ], places_above x ys h k.1 b.1)

table_room : (k : ℕ) (table : List Actor) → k ≤ 4194304 → AllByRecursion (λ a. k ≤ place a) table → AllByRecursion IsActor table → IsTable table → length table + k ≤ 4194304
table_room k [] h a all t = omega arith
table_room k (x ∷ xs) h a all t =
    let below : place x + 1 ≤ 4194304 = omega (arith, all.0.0, all.0.1) in
    let rest = table_room (place x + 1) xs below (places_above x xs all.0 all.1 t.0) all.1 t.1 in
    omega (arith, a.0)

all_from_zero : (xs : List Actor) → AllByRecursion (λ a. 0 ≤ place a) xs
all_from_zero [] = tt
all_from_zero (x ∷ xs) = (omega arith, all_from_zero xs)

-- a table has at most 4,194,304 actors
pub table_length : (table : List Actor) → AllByRecursion IsActor table → IsTable table → length table ≤ 4194304
table_length table all t = let h = table_room 0 table (omega arith) (all_from_zero table) all t in omega arith

-- the table's number of actors has room in its form
pub table_short : (wide : Bool) (table : List Actor) → AllByRecursion IsActor table → IsTable table → ltb 65535 (length table) ≡ wide → length table < 256 ^ index_len wide
table_short true table all t e = let h = table_length table all t in omega arith
table_short false table all t e = let h = ltb-false 65535 (length table) e in omega arith

pub len_short : (wide : Bool) (n : ℕ) → n < 256 ^ index_len wide → n < 2 ^ 32
len_short true n h = h
len_short false n h = omega (arith, h)

-- a table that has all names, all of whose actors are named, is the table of the names
pub table_is : (table names : List Actor) → IsTable table → IsPart table names → IsPart names table → table_of names ≡ table
table_is table names t p q =
    table-same (table_of names) table (table_of-rises names) t
    (λ x m. q x (table_of-only x names m)) (λ x m. table_of-has x names (p x m))

pub unnamed-none : (names : List Actor) (offset : ℕ) (table : List Actor) → unnamed names offset table ≡ None → IsPart table names
unfolding unnamed
unnamed-none names offset [] e = λ z m. absurd m
unnamed-none names offset (a ∷ table) e =
    let P : Bool → Type 0 = λ v. list_any (same_actor a) names ≡ v → cond v (unnamed names (offset + 5) table) (Some offset) ≡ None → IsPart (a ∷ table) names in
    let cases : P (list_any (same_actor a) names) = elim (list_any (same_actor a) names) as P [
      | true ↦ (λ t f. let rest = unnamed-none names (offset + 5) table f in λ z m. elim m [ inl k ↦ subst (λ w. IsAmong w names) (sym k) ((among-decides names a).0 t) | inr k ↦ rest z k ])
      | false ↦ (λ t f. absurd cc)
    ] in
    cases refl e

-- where no fault is met each actor of the table is named
pub all_named-ok : {X : Type 0} (names : List Actor) (offset : ℕ) (table : List Actor) (x y : X) → all_named (unnamed names offset table) x ≡ Ok y → IsPart table names × (x ≡ y)
all_named-ok {X = X} names offset table x y e =
    let P : Option ℕ → Type 0 = λ o. unnamed names offset table ≡ o → all_named o x ≡ Ok y → IsPart table names × (x ≡ y) in
    let cases : P (unnamed names offset table) = elim (unnamed names offset table) as P [
      | None ↦ (λ n f. (unnamed-none names offset table n, ok_is x y f))
      | Some o ↦ (λ n f. absurd cc)
    ] in
    cases refl e

pub unnamed-again : (names : List Actor) (offset : ℕ) (table : List Actor) → IsPart table names → unnamed names offset table ≡ None
unfolding unnamed
unnamed-again names offset [] p = refl
unnamed-again names offset (a ∷ table) p =
    let one = list_any-member (same_actor a) a names (p a (inl refl)) ((same_actor-decides a a).1 refl) in
    rw one (unnamed-again names (offset + 5) table (λ z m. p z (inr m)))

-- where each actor of the table is named no fault is met
pub all_named-again : {X : Type 0} (names : List Actor) (offset : ℕ) (table : List Actor) (x : X) → IsPart table names → all_named (unnamed names offset table) x ≡ Ok x
all_named-again {X = X} names offset table x p =
    let one = unnamed-again names offset table p in rw one refl
