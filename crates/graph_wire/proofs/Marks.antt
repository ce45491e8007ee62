-- Marking the actors of a table as rows are read, and the first one without a mark.
use Rattle.std.proofs.Common.{◌≡◌, ◌<◌, ◌≤◌, ◌+◌, ◌*◌, ◌&&◌, ◌||◌, ℕ, zero, suc, Bool, true, false, List, [], ◌∷◌, ◌++◌, length, set, get_or, drop, drop-cons, add-one, Some, None, refl, sym, ap, subst, ◌∙◌, arith}
use Rattle.std.specs.List.{AllByRecursion, flat_map, list_any, slice_get}
use Rattle.std.proofs.lemmas.Grind.{flat_map-append}
use Rattle.std.proofs.lemmas.List.{append-nil, drop_all, length-map, map_push}
use Rattle.std.proofs.lemmas.List.Concat.{flat_map-cons}
use Rattle.std.proofs.lemmas.List.Folds.{list_any-append}
use Rattle.crgc_ids.specs.Actor.{Actor, IsActorBelow, same_actor}
use Rattle.crgc_ids.proofs.ActorLaws.{IsActorBelow-apart, same_actor-decides, same_actor-apart}
use Rattle.wire_grammar.specs.Reading.{unnamed}
use Rattle.wire_grammar.proofs.Tables.{IsTable}
use Rattle.graph_wire.specs.Marks.{actors_of, AreNamed, IsFresh, is_marked, Marks}
use Rattle.graph_wire.specs.declared.table.TableActor.{TableActor}
use Rattle.crgc_ids.proofs.MembersLaws.{all-implied}

-- ---- truth values

or_turn : (x y z : Bool) → (y || (x || z)) ≡ ((x || y) || z)
or_turn true true z = refl
or_turn true false z = refl
or_turn false true z = refl
or_turn false false z = refl

or_false : (x : Bool) → (x || false) ≡ x
or_false true = refl
or_false false = refl

and_true : (x : Bool) → (x && true) ≡ x
and_true true = refl
and_true false = refl

and_false : (x : Bool) → (x && false) ≡ false
and_false true = refl
and_false false = refl

-- what is set stands before what was there
or_set : (s n r : Bool) → (s || r) ≡ (s || ((s && n) || r))
or_set true n r = refl
or_set false n r = refl

or_past : (x s r : Bool) → (x || (s || r)) ≡ (s || (x || r))
or_past true true r = refl
or_past true false r = refl
or_past false s r = refl

-- ---- marks that are set

pub actors_of-none : actors_of [] ≡ []
unfolding actors_of
actors_of-none = refl

pub actors_of-push : (table : List TableActor) (e : TableActor) → actors_of (table ++ e ∷ []) ≡ actors_of table ++ e.actor ∷ []
unfolding actors_of
actors_of-push table e = map_push (λ (x : TableActor). x.actor) table e

pub actors_of-length : (table : List TableActor) → length (actors_of table) ≡ length table
unfolding actors_of
actors_of-length table = length-map table (λ (x : TableActor). x.actor)

-- the actor at an index
pub actor-past : (table : List TableActor) (i : ℕ) → length table ≤ i → slice_get (actors_of table) i ≡ None
unfolding actors_of
actor-past [] i h = refl
actor-past (x ∷ rest) zero h = absurd (omega arith)
actor-past (x ∷ rest) (suc i) h = actor-past rest i (omega arith)

pub actor-at : (table : List TableActor) (i : ℕ) (d : TableActor) → i < length table → slice_get (actors_of table) i ≡ Some (get_or table i d).actor
unfolding actors_of
actor-at [] i d h = absurd (omega arith)
actor-at (x ∷ rest) zero d h = refl
actor-at (x ∷ rest) (suc i) d h = actor-at rest i d (omega arith)

pub Marks-then : (xs ys : List Actor) (t u v : List TableActor) → Marks xs t u → Marks ys u v → Marks (xs ++ ys) t v
Marks-then xs ys t u v h k = record {
  actors = k.actors ∙ h.actors;
  named = λ a.
      k.named a
      ∙ ap (λ b. list_any (same_actor a) ys || b) (h.named a)
      ∙ or_turn (list_any (same_actor a) xs) (list_any (same_actor a) ys) (is_marked t a)
      ∙ ap (λ b. b || is_marked t a) (sym (list_any-append (same_actor a) xs ys));
}

-- the names of one row more
pub Marks-push : {X : Type 0} (names : X → List Actor) (rows : List X) (row : X) (t u v : List TableActor) → Marks (flat_map names rows) t u → Marks (names row) u v → Marks (flat_map names (rows ++ row ∷ [])) t v
Marks-push names rows row t u v h k =
    let one : flat_map names (row ∷ []) ≡ names row = flat_map-cons names row [] ∙ append-nil (names row) in
    let all : flat_map names (rows ++ row ∷ []) ≡ flat_map names rows ++ names row = flat_map-append names rows (row ∷ []) ∙ ap (λ xs. flat_map names rows ++ xs) one in
    subst (λ xs. Marks xs t v) (sym all) (Marks-then (flat_map names rows) (names row) t u v h k)

-- the entry of an actor that is named
abbrev pub marked : Actor → TableActor
marked a = record { actor = a; named = true }

marked-actors : (table : List TableActor) (i : ℕ) (a : Actor) → slice_get (actors_of table) i ≡ Some a → actors_of (set table i (marked a)) ≡ actors_of table
unfolding actors_of
marked-actors [] i a e = refl
marked-actors (x ∷ rest) zero a e = let same : x.actor ≡ a = cc in ap (λ b. b ∷ actors_of rest) (sym same)
marked-actors (x ∷ rest) (suc i) a e = ap (λ xs. x.actor ∷ xs) (marked-actors rest i a e)

marked-marks : (table : List TableActor) (i : ℕ) (a b : Actor) → slice_get (actors_of table) i ≡ Some a → is_marked (set table i (marked a)) b ≡ (same_actor b a || is_marked table b)
unfolding actors_of is_marked
marked-marks [] i a b e = absurd cc
marked-marks (x ∷ rest) zero a b e =
    let same : x.actor ≡ a = cc in
    ap (λ s. s || is_marked rest b) (and_true (same_actor b a))
    ∙ or_set (same_actor b a) x.named (is_marked rest b)
    ∙ ap (λ c. same_actor b a || ((same_actor b c && x.named) || is_marked rest b)) (sym same)
marked-marks (x ∷ rest) (suc i) a b e =
    ap (λ s. (same_actor b x.actor && x.named) || s) (marked-marks rest i a b e)
    ∙ or_past (same_actor b x.actor && x.named) (same_actor b a) (is_marked rest b)

-- one mark names one actor
pub Marks-one : (table : List TableActor) (i : ℕ) (a : Actor) → slice_get (actors_of table) i ≡ Some a → Marks (a ∷ []) table (set table i (marked a))
Marks-one table i a e = record {
  actors = marked-actors table i a e;
  named = λ b. marked-marks table i a b e ∙ ap (λ s. s || is_marked table b) (sym (or_false (same_actor b a)));
}

-- ---- the marks of a whole table

no-marks : (table : List TableActor) (a : Actor) → AllByRecursion (λ e. e.named ≡ false) table → is_marked table a ≡ false
unfolding is_marked
no-marks [] a h = refl
no-marks (x ∷ rest) a h =
    let one : (same_actor a x.actor && x.named) ≡ false = rw h.0 (and_false (same_actor a x.actor)) in
    rw one (no-marks rest a h.1)

-- an actor below all others has no mark among them
below-unmarked : (a : Actor) (table : List TableActor) → AllByRecursion (IsActorBelow a) (actors_of table) → is_marked table a ≡ false
unfolding actors_of is_marked
below-unmarked a [] h = refl
below-unmarked a (x ∷ rest) h =
    let one = same_actor-apart a x.actor (λ e. IsActorBelow-apart a (subst (IsActorBelow a) (sym e) h.0)) in
    rw one (below-unmarked a rest h.1)

-- a first entry changes nothing for the later ones
later-marks : (x : TableActor) (table later : List TableActor) → AllByRecursion (IsActorBelow x.actor) (actors_of later) → AllByRecursion (λ e. is_marked table e.actor ≡ e.named) later
    → AllByRecursion (λ e. is_marked (x ∷ table) e.actor ≡ e.named) later
unfolding actors_of is_marked
later-marks x table [] h k = tt
later-marks x table (y ∷ later) h k =
    let one = same_actor-apart y.actor x.actor (λ e. IsActorBelow-apart y.actor (subst (λ a. IsActorBelow a y.actor) (sym e) h.0)) in
    (rw one k.0, later-marks x table later h.1 k.1)

-- in a rising table each entry tells of its actor
entries-tell : (table : List TableActor) → IsTable (actors_of table) → AllByRecursion (λ e. is_marked table e.actor ≡ e.named) table
unfolding actors_of is_marked
entries-tell [] h = tt
entries-tell (x ∷ rest) h =
    let itself : same_actor x.actor x.actor ≡ true = (same_actor-decides x.actor x.actor).1 refl in
    let none = below-unmarked x.actor rest h.0 in
    let first : ((same_actor x.actor x.actor && x.named) || is_marked rest x.actor) ≡ x.named = rw (itself, none) (or_false x.named) in
    (first, later-marks x rest rest h.0 (entries-tell rest h.1))

-- a fresh table whose rows were read has marks exactly at what they name
pub AreNamed-from : (names : List Actor) (fresh table : List TableActor) → IsFresh fresh → Marks names fresh table → AreNamed names table
AreNamed-from names fresh table h k =
    let told = entries-tell table (subst IsTable (sym k.actors) h.rise) in
    all-implied (λ (e : TableActor). is_marked table e.actor ≡ e.named) (λ (e : TableActor). list_any (same_actor e.actor) names ≡ e.named)
    (λ e s. sym (or_false (list_any (same_actor e.actor) names)) ∙ ap (λ b. list_any (same_actor e.actor) names || b) (sym (no-marks fresh e.actor h.unmarked)) ∙ sym (k.named e.actor) ∙ s)
    table told

-- ---- the first actor without a mark, from an index on

named-at : (names : List Actor) (table : List TableActor) (i : ℕ) (e : TableActor) → AreNamed names table → i < length table → e ≡ get_or table i e → list_any (same_actor e.actor) names ≡ e.named
named-at names [] i e h lt at = absurd (omega arith)
named-at names (x ∷ rest) zero e h lt at = subst (λ (y : TableActor). list_any (same_actor y.actor) names ≡ y.named) (sym at) h.0
named-at names (x ∷ rest) (suc i) e h lt at = named-at names rest i e h.1 (omega arith) at

module _ (names : List Actor) (table : List TableActor) (first i : ℕ) (tells : AreNamed names table) where
  split : (e : TableActor) → i < length table → e ≡ get_or table i e → actors_of (drop i table) ≡ e.actor ∷ actors_of (drop (i + 1) table)
  unfolding actors_of
  split e lt at =
      let one : drop i table ≡ e ∷ drop (i + 1) table = rw (add-one, drop-cons table i e) (ap (λ x. x ∷ drop (suc i) table) (sym at)) in
      ap actors_of one

  pub unnamed-later : (e : TableActor) → i < length table → e ≡ get_or table i e → e.named ≡ true → unnamed names (first + 5 * (i + 1)) (actors_of (drop (i + 1) table)) ≡ unnamed names (first + 5 * i) (actors_of (drop i table))
  unfolding unnamed
  unnamed-later e lt at h =
      let told = named-at names table i e tells lt at ∙ h in
      let more : first + 5 * (i + 1) ≡ first + 5 * i + 5 = omega arith in
      let one : unnamed names (first + 5 * i) (e.actor ∷ actors_of (drop (i + 1) table)) ≡ unnamed names (first + 5 * i + 5) (actors_of (drop (i + 1) table)) = rw told refl in
      ap (λ n. unnamed names n (actors_of (drop (i + 1) table))) more ∙ sym one ∙ ap (unnamed names (first + 5 * i)) (sym (split e lt at))

  pub unnamed-here : (e : TableActor) → i < length table → e ≡ get_or table i e → e.named ≡ false → unnamed names (first + 5 * i) (actors_of (drop i table)) ≡ Some (first + 5 * i)
  unfolding unnamed
  unnamed-here e lt at h =
      let told = named-at names table i e tells lt at ∙ h in
      let one : unnamed names (first + 5 * i) (e.actor ∷ actors_of (drop (i + 1) table)) ≡ Some (first + 5 * i) = rw told refl in
      ap (unnamed names (first + 5 * i)) (split e lt at) ∙ one

  pub unnamed-end : length table ≤ i → unnamed names (first + 5 * i) (actors_of (drop i table)) ≡ None
  unfolding unnamed actors_of
  unnamed-end le = ap (λ t. unnamed names (first + 5 * i) (actors_of t)) (drop_all i table le)
