-- Numbers of named actors: their places and one.
use Rattle.std.proofs.Common.{◌≡◌, ◌⊎◌, ◌+◌, ◌-◌, ◌<◌, ◌≤◌, ◌||◌, ℕ, zero, suc, eqb, not, Bool, true, false, cond, List, [], ◌∷◌, ◌++◌, length, get_or, take, subst, refl, sym, ◌∙◌, ap, inl, inr, arith}
use Rattle.std.proofs.lemmas.Bool.{cases_lt, eq-eqb, false≢true}
use Rattle.std.proofs.lemmas.List.{get_or_past, length-take-le, take_all, take_more}
use Rattle.std.proofs.lemmas.List.Folds.{list_any-append, position_or_len_push}
use Rattle.std.proofs.lemmas.List.Sums.{sum_by_push}
use Rattle.std.specs.Cmp.{IsEquivalence}
use Rattle.std.specs.List.{AllByRecursion, IsDistinct, list_any, position_or_len}
use Rattle.crgc_ids.specs.Actor.{Actor, same_actor}
use Rattle.crgc_ids.proofs.ActorLaws.{same_actor-decides}
use Rattle.history_model.proofs.Basics.{same_actor-sym}
use Rattle.shadow_table.specs.Numbers.{AreOfNames, HasRoomFor, number_of}
use Rattle.shadow_table.specs.Shadows.{Shadows, blank, dropped_count, first_of, is_named, place_in}
use Rattle.shadow_table.specs.declared.table.Shadow.{Shadow}
use Rattle.shadow_table.proofs.NameLemmas.{or-false, place-kept}

pub same_actor-equivalence : IsEquivalence same_actor
same_actor-equivalence = record {
  refl = λ a. (same_actor-decides a a).1 refl;
  symm = same_actor-sym;
  congr = λ a b c t. ap (λ x. same_actor x c) ((same_actor-decides a b).0 t);
}

-- whose number is 0 is not named
pub zero-unnamed : (nodes : List (List ℕ)) (names : List Actor) (a : Actor) → AreOfNames nodes names → number_of nodes a ≡ 0 → is_named names a ≡ false
zero-unnamed nodes names a of none = split (is_named names a) (sym none ∙ of a)
  where
    split : (b : Bool) → 0 ≡ cond b (place_in names a + 1) 0 → b ≡ false
    split true e = absurd (omega arith)
    split false _ = refl

-- who is not named has number 0
pub unnamed-zero : (nodes : List (List ℕ)) (names : List Actor) (a : Actor) → AreOfNames nodes names → is_named names a ≡ false → number_of nodes a ≡ 0
unnamed-zero nodes names a of not_named = of a ∙ ap (λ b. cond b (place_in names a + 1) 0) not_named

-- who is named has its place and one as its number
pub named-number : (nodes : List (List ℕ)) (names : List Actor) (a : Actor) → AreOfNames nodes names → is_named names a ≡ true → number_of nodes a ≡ place_in names a + 1
named-number nodes names a of named = of a ∙ ap (λ b. cond b (place_in names a + 1) 0) named

-- whose number is not 0 is named
pub number-named : (nodes : List (List ℕ)) (names : List Actor) (a : Actor) → AreOfNames nodes names → 0 < number_of nodes a → is_named names a ≡ true
number-named nodes names a of some = split (is_named names a) (of a)
  where
    split : (b : Bool) → number_of nodes a ≡ cond b (place_in names a + 1) 0 → b ≡ true
    split true _ = refl
    split false e = absurd (omega arith)

-- where a number is not 0, there is room for it
pub number-room : (nodes : List (List ℕ)) (a : Actor) → 0 < number_of nodes a → HasRoomFor nodes a
number-room nodes a some =
    let row = get_or nodes a.node [] in
    elim (cases_lt a.serial (length row)) [
      | inl less ↦ less
      | inr past ↦ absurd (let none = get_or_past row a.serial 0 past in omega arith)
    ]

-- the actor who is named next has the next number
pub numbers-pushed : (old new : List (List ℕ)) (names : List Actor) (actor : Actor) → AreOfNames old names → is_named names actor ≡ false
    → ((a : Actor) → number_of new a ≡ cond (same_actor a actor) (length names + 1) (number_of old a)) → AreOfNames new (names ++ actor ∷ [])
numbers-pushed old new names actor of unnamed is a =
    let Now : Bool → Bool → ℕ → Type 0 = λ same named place. cond same (length names + 1) (number_of old a) ≡ cond named (place + 1) 0 in
    let named : is_named (names ++ actor ∷ []) a ≡ (is_named names a || same_actor a actor) =
    list_any-append (same_actor a) names (actor ∷ []) ∙ ap (λ v. is_named names a || v) (or-false (same_actor a actor)) in
    let Case : Bool → Type 0 = λ b. same_actor a actor ≡ b → Now b (is_named names a || b) (place_in (names ++ actor ∷ []) a) in
    let case : Case (same_actor a actor) = elim (same_actor a actor) as Case [
      | true ↦ λ t. (
          let one : a ≡ actor = (same_actor-decides a actor).0 t in
          let free : is_named names a ≡ false = ap (is_named names) one ∙ unnamed in
          let last : place_in (names ++ actor ∷ []) a ≡ length names = (
          position_or_len_push (same_actor a) names actor ∙ at_end (same_actor a) names actor free t
          ) in
          ap (λ n. n + 1) (sym last) ∙ sym (ap (λ v. cond (v || true) (place_in (names ++ actor ∷ []) a + 1) 0) free)
          )
      | false ↦ λ _. (
          let Old : Bool → Type 0 = λ v. is_named names a ≡ v → number_of old a ≡ cond (v || false) (place_in (names ++ actor ∷ []) a + 1) 0 in
          let old_case : Old (is_named names a) = elim (is_named names a) as Old [
            | true ↦ λ there. named-number old names a of there ∙ ap (λ p. p + 1) (sym (place-kept (same_actor a) names (actor ∷ []) there))
            | false ↦ λ free. unnamed-zero old names a of free
          ] in
          old_case refl
          )
    ] in
    is a ∙ case refl ∙ sym (ap (λ v. cond v (place_in (names ++ actor ∷ []) a + 1) 0) named)
  where
    more : (m n : ℕ) → m ≡ n → 1 + m ≡ suc n
    more m n e = omega arith

    none-len : {K : Type 0} (test : K → Bool) (ks : List K) → list_any test ks ≡ false → position_or_len test ks ≡ length ks
    none-len test [] _ = refl
    none-len test (k ∷ ks) free =
        let Case : Bool → Type 0 = λ b. (b || list_any test ks) ≡ false → cond (not b) (1 + position_or_len test ks) 0 ≡ suc (length ks) in
        let case : Case (test k) = elim (test k) as Case [ true ↦ λ e. absurd (false≢true (sym e)) | false ↦ λ e. more (position_or_len test ks) (length ks) (none-len test ks e) ] in
        case free

    at_end : {K : Type 0} (test : K → Bool) (ks : List K) (k : K) → list_any test ks ≡ false → test k ≡ true
        → cond (eqb (position_or_len test ks) (length ks)) (length ks + cond (test k) 0 1) (position_or_len test ks) ≡ length ks
    at_end test ks k free t =
        let here = none-len test ks free in
        ap (λ b. cond b (length ks + cond (test k) 0 1) (position_or_len test ks)) (eq-eqb (position_or_len test ks) (length ks) here)
        ∙ ap (λ b. length ks + cond b 0 1) t ∙ (let none : length ks + 0 ≡ length ks = omega arith in none)

-- the last key of distinct ones is not among those before it
pub last-apart : {K : Type 0} (same : K → K → Bool) (ks : List K) (k : K) → ((j l : K) → same j l ≡ same l j) → IsDistinct same (ks ++ k ∷ []) → list_any (same k) ks ≡ false
unfolding IsDistinct
last-apart same [] k symm distinct = refl
last-apart {K = K} same (j ∷ ks) k symm distinct =
    let other : same k j ≡ false = symm k j ∙ last (λ y. same j y ≡ false) ks distinct.0 in
    ap (λ b. b || list_any (same k) ks) other ∙ last-apart same ks k symm distinct.1
  where
    last : (P : K → Type 0) (xs : List K) → AllByRecursion P (xs ++ k ∷ []) → P k
    last P [] all = all.0
    last P (x ∷ xs) all = last P xs all.1

-- without their last key, distinct keys are distinct
pub init-distinct : {K : Type 0} (same : K → K → Bool) (ks : List K) (k : K) → IsDistinct same (ks ++ k ∷ []) → IsDistinct same ks
unfolding IsDistinct
init-distinct same [] k distinct = tt
init-distinct {K = K} same (j ∷ ks) k distinct = (first (λ y. same j y ≡ false) ks distinct.0, init-distinct same ks k distinct.1)
  where
    first : (P : K → Type 0) (xs : List K) → AllByRecursion P (xs ++ k ∷ []) → AllByRecursion P xs
    first P [] _ = tt
    first P (x ∷ xs) all = (all.0, first P xs all.1)

-- where the last actor is named no more, its number is 0
pub numbers-popped : (old new : List (List ℕ)) (names : List Actor) (actor : Actor) → IsDistinct same_actor (names ++ actor ∷ [])
    → ((a b : Actor) → same_actor a b ≡ same_actor b a) → AreOfNames old (names ++ actor ∷ [])
    → ((a : Actor) → number_of new a ≡ cond (same_actor a actor) 0 (number_of old a)) → AreOfNames new names
numbers-popped old new names actor distinct symm of is a =
    let Case : Bool → Type 0 = λ b. same_actor a actor ≡ b → cond b 0 (number_of old a) ≡ cond (is_named names a) (place_in names a + 1) 0 in
    let case : Case (same_actor a actor) = elim (same_actor a actor) as Case [
      | true ↦ λ t. (
          let one : a ≡ actor = (same_actor-decides a actor).0 t in
          let free : is_named names a ≡ false = ap (is_named names) one ∙ last-apart same_actor names actor symm distinct in
          sym (ap (λ v. cond v (place_in names a + 1) 0) free)
          )
      | false ↦ λ f. (
          let named : is_named (names ++ actor ∷ []) a ≡ (is_named names a || false) =
          list_any-append (same_actor a) names (actor ∷ []) ∙ ap (λ v. is_named names a || v) (or-false (same_actor a actor) ∙ f) in
          let Old : Bool → Type 0 = λ v. is_named names a ≡ v → cond (v || false) (place_in (names ++ actor ∷ []) a + 1) 0 ≡ cond v (place_in names a + 1) 0 in
          let old_case : Old (is_named names a) = elim (is_named names a) as Old [
            | true ↦ λ there. ap (λ p. p + 1) (place-kept (same_actor a) names (actor ∷ []) there)
            | false ↦ λ _. refl
          ] in
          of a ∙ ap (λ v. cond v (place_in (names ++ actor ∷ []) a + 1) 0) named ∙ old_case refl
          )
    ] in
    is a ∙ case refl

-- ---- tables

pub empty-stands : (names : List Actor) (shadows : List Shadow) (nodes : List (List ℕ)) → names ≡ [] → shadows ≡ [] → ((a : Actor) → number_of nodes a ≡ 0)
    → (length shadows ≡ length names) × (length shadows < 4294967296) × IsDistinct same_actor names × AreOfNames nodes names × (0 ≡ dropped_count shadows)
unfolding IsDistinct
empty-stands names shadows nodes no_names no_shadow none =
    subst (λ ns. (length shadows ≡ length ns) × (length shadows < 4294967296) × IsDistinct same_actor ns × AreOfNames nodes ns × (0 ≡ dropped_count shadows)) (sym no_names) (
    subst (λ ss. (length ss ≡ 0) × (length ss < 4294967296) × IsDistinct same_actor [] × AreOfNames nodes [] × (0 ≡ dropped_count ss)) (sym no_shadow) (refl, omega arith, tt, none, refl)
    )

-- a list is all but its last, and that
pub all-but-last : {X : Type 0} (xs : List X) (last : ℕ) (x : X) → length xs ≡ last + 1 → x ≡ get_or xs last x → xs ≡ take last xs ++ x ∷ []
all-but-last xs last x long is =
    sym (take_all (last + 1) xs (omega arith)) ∙ take_more xs last x (omega arith) ∙ ap (λ y. take last xs ++ y ∷ []) (sym is)

-- the first of the first
pub take-fewer : {X : Type 0} (m n : ℕ) (xs : List X) → m ≤ n → take m (take n xs) ≡ take m xs
take-fewer zero n xs _ = refl
take-fewer (suc m) zero xs less = absurd (omega arith)
take-fewer (suc m) (suc n) [] _ = refl
take-fewer (suc m) (suc n) (x ∷ xs) less = ap (λ l. x ∷ l) (take-fewer m n xs (omega arith))

-- one more who was not dropped
pub dropped-pushed : (shadows : List Shadow) → dropped_count (shadows ++ blank ∷ []) ≡ dropped_count shadows
dropped-pushed shadows =
    let more : dropped_count (shadows ++ blank ∷ []) ≡ dropped_count shadows + 0 = sum_by_push (λ (s : Shadow). cond s.dropped 1 0) shadows blank in
    omega arith

-- ---- a table that is cut back

-- either nothing was taken away yet, or what is left begins the table, and has enough places
abbrev pub IsCut : ℕ → Shadows → Shadows → Type 0
IsCut places old new = (new ≡ old) ⊎ ((new ≡ first_of (length new.names) old) × (places ≤ length new.names))

pub cut-more : (places : ℕ) (old now next : Shadows) → IsCut places old now → places < length now.names → next ≡ first_of (length now.names - 1) now → IsCut places old next
cut-more places old now next cut more is =
    let fewer = length now.names - 1 in
    let long : length next.names ≡ fewer = ap (λ (t : Shadows). length t.names) is ∙ length-take-le fewer now.names (omega arith) in
    inr (
      (elim cut [
        | inl same ↦ is ∙ ap (first_of fewer) same
        | inr later ↦ (
            is ∙ ap (first_of fewer) later.0
            ∙ (λ i. record { names = take-fewer fewer (length now.names) old.names (omega arith) i; shadows = take-fewer fewer (length now.names) old.shadows (omega arith) i })
            )
      ]) ∙ ap (λ n. first_of n old) (sym long),
      (omega arith),
    )

pub cut-enough : (places : ℕ) (old now : Shadows) → IsCut places old now → length now.names ≤ places → length now.shadows ≡ length now.names → now ≡ first_of places old
cut-enough places old now cut few long =
    elim cut [
      | inl same ↦ (
          let all : now ≡ first_of places now = λ i. record { names = sym (take_all places now.names few) i; shadows = sym (take_all places now.shadows (omega arith)) i } in
          all ∙ ap (first_of places) same
          )
      | inr later ↦ later.0 ∙ ap (λ n. first_of n old) (let goal : length now.names ≡ places = (let enough = later.1 in omega arith) in goal)
    ]
