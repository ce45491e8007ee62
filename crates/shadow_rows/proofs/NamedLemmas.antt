-- The actors that rows name.
use Rattle.std.proofs.Common.{◌≡◌, ◌||◌, ◌+◌, ◌<◌, ℕ, Bool, true, false, cond, List, [], ◌∷◌, ◌++◌, get_or, length, map, take, refl, sym, ◌∙◌, ap, subst, append_assoc, append-nil, inl, inr}
use Rattle.std.proofs.Math.Bool.{or_assoc}
use Rattle.std.proofs.lemmas.List.{take_more}
use Rattle.std.proofs.lemmas.List.Folds.{list_any-append}
use Rattle.std.specs.List.{AllByRecursion, list_any}
use Rattle.crgc_ids.specs.Actor.{Actor, same_actor}
use Rattle.crgc_ids.specs.Members.{IsAmong}
use Rattle.crgc_ids.specs.declared.rising.ActorCount.{ActorCount}
use Rattle.crgc_ids.specs.declared.rising.PairCount.{PairCount}
use Rattle.crgc_ids.proofs.MembersLaws.{IsAmong-append_left, IsAmong-append_right, all-from_members}
use Rattle.crgc_ids.proofs.ActorLaws.{same_actor-decides}
use Rattle.history_model.specs.declared.records.StateRow.{StateRow}
use Rattle.history_model.proofs.RisingActors.{among-decides}
use Rattle.shadow_table.specs.Shadows.{Shadows, blank, is_named, place_in, with_name}
use Rattle.shadow_table.proofs.KeyedLemmas.{found-pushed}
use Rattle.shadow_table.proofs.NameLemmas.{named-kept, or-false, place-kept}
use Rattle.shadow_rows.specs.Rows.{NamesRows}
use Rattle.shadow_rows.specs.Tabled.{ExtendsShadows, row_names}

-- ---- tables that go on

pub extends-self : (t : Shadows) → ExtendsShadows t t
extends-self t = record { more = []; more_shadows = []; names = sym (append-nil t.names); shadows = sym (append-nil t.shadows); same = λ a. refl }

-- a named actor is blank
pub name-extends : (t : Shadows) (a : Actor) → length t.shadows ≡ length t.names → ExtendsShadows t (with_name t a)
name-extends t a long =
    elim (is_named t.names a) as (λ b. ExtendsShadows t (cond b t (record { names = t.names ++ a ∷ []; shadows = t.shadows ++ blank ∷ [] }))) [
      | true ↦ extends-self t
      | false ↦ record { more = a ∷ []; more_shadows = blank ∷ []; names = refl; shadows = refl; same = found-pushed same_actor same_actor-decides blank (λ s. s) t.names t.shadows a blank refl long }
    ]

pub extends-more : (t u v : Shadows) → ExtendsShadows t u → ExtendsShadows u v → ExtendsShadows t v
extends-more t u v first then = record {
  more = first.more ++ then.more;
  more_shadows = first.more_shadows ++ then.more_shadows;
  names = then.names ∙ ap (λ ns. ns ++ then.more) first.names ∙ append_assoc t.names first.more then.more;
  shadows = then.shadows ∙ ap (λ ss. ss ++ then.more_shadows) first.shadows ∙ append_assoc t.shadows first.more_shadows then.more_shadows;
  same = λ a. then.same a ∙ first.same a;
}

-- ---- who is named

-- an actor that is named, and nobody else
named-one : (t : Shadows) (b a : Actor) → is_named (with_name t b).names a ≡ (is_named t.names a || same_actor a b)
named-one t b a =
    let Case : Bool → Type 0 = λ v. is_named t.names b ≡ v → is_named (cond v t (record { names = t.names ++ b ∷ []; shadows = t.shadows ++ blank ∷ [] })).names a ≡ (is_named t.names a || same_actor a b) in
    let case : Case (is_named t.names b) = elim (is_named t.names b) as Case [
      | true ↦ λ there. (
          let Own : Bool → Type 0 = λ v. same_actor a b ≡ v → is_named t.names a ≡ (is_named t.names a || v) in
          let own : Own (same_actor a b) = elim (same_actor a b) as Own [
            | true ↦ λ e. (
                let is : is_named t.names a ≡ true = ap (is_named t.names) ((same_actor-decides a b).0 e) ∙ there in
                is ∙ sym (ap (λ v. v || true) is)
                )
            | false ↦ λ _. sym (or-false (is_named t.names a))
          ] in
          own refl
          )
      | false ↦ λ _. list_any-append (same_actor a) t.names (b ∷ []) ∙ ap (λ v. is_named t.names a || v) (or-false (same_actor a b))
    ] in
    case refl

-- the actors that are named by one list of names after another
pub names-append : (old now next first then : List Actor) → NamesRows old now first → NamesRows now next then → NamesRows old next (first ++ then)
names-append old now next first then before after = λ a.
    after a ∙ ap (λ b. b || list_any (same_actor a) then) (before a)
    ∙ or_assoc (is_named old a) (list_any (same_actor a) first) (list_any (same_actor a) then)
    ∙ ap (λ b. is_named old a || b) (sym (list_any-append (same_actor a) first then))

-- no name names nobody
pub names-none : (names : List Actor) → NamesRows names names []
names-none names a = sym (or-false (is_named names a))

-- nobody more is named by the name of an actor that is named
pub names-known : (names : List Actor) (b : Actor) → is_named names b ≡ true → NamesRows names names (b ∷ [])
names-known names b there a =
    let Own : Bool → Type 0 = λ v. same_actor a b ≡ v → is_named names a ≡ (is_named names a || (v || false)) in
    let own : Own (same_actor a b) = elim (same_actor a b) as Own [
      | true ↦ λ same. (let is = ap (is_named names) ((same_actor-decides a b).0 same) ∙ there in is ∙ sym (ap (λ v. v || true) is))
      | false ↦ λ _. names-none names a
    ] in
    own refl

-- the names of one row more
pub names-more : {X : Type 0} (read : List X → List Actor) → ((xs ys : List X) → read (xs ++ ys) ≡ read xs ++ read ys)
    → (rows : List X) (i : ℕ) (r : X) (old now next : List Actor) → i < length rows → r ≡ get_or rows i r
    → NamesRows old now (read (take i rows)) → NamesRows now next (read (r ∷ [])) → NamesRows old next (read (take (i + 1) rows))
names-more read parts rows i r old now next inside is before here =
    let more : read (take (i + 1) rows) ≡ read (take i rows) ++ read (r ∷ []) =
    ap read (take_more rows i r inside) ∙ parts (take i rows) (get_or rows i r ∷ []) ∙ ap (λ x. read (take i rows) ++ read (x ∷ [])) (sym is) in
    subst (NamesRows old next) (sym more) (names-append old now next (read (take i rows)) (read (r ∷ [])) before here)

-- one row more has such a count
pub fits-more : {X : Type 0} (P : X → Type 0) (rows : List X) (i : ℕ) (r : X) → i < length rows → r ≡ get_or rows i r
    → AllByRecursion P (take i rows) → P r → AllByRecursion P (take (i + 1) rows)
fits-more P rows i r inside is all here =
    subst (AllByRecursion P) (sym (take_more rows i r inside)) (last P (take i rows) (get_or rows i r) all (subst P is here))
  where
    last : {X : Type 0} (P : X → Type 0) (xs : List X) (x : X) → AllByRecursion P xs → P x → AllByRecursion P (xs ++ x ∷ [])
    last P [] x all here = (here, tt)
    last P (y ∷ ys) x all here = (all.0, last P ys x all.1 here)

or-true : (b : Bool) → (b || true) ≡ true
or-true true = refl
or-true false = refl

-- whom rows name is named
pub among-named : (old new names : List Actor) → NamesRows old new names → (a : Actor) → IsAmong a names → is_named new a ≡ true
among-named old new names named a m = named a ∙ ap (λ b. is_named old a || b) ((among-decides names a).1 m) ∙ or-true (is_named old a)

pub one-named : (old new : List Actor) (a : Actor) → NamesRows old new (a ∷ []) → is_named new a ≡ true
one-named old new a named = among-named old new (a ∷ []) named a (inl refl)

-- a named actor stays named, and keeps its place
pub stays-named : (t u : Shadows) (a : Actor) → ExtendsShadows t u → is_named t.names a ≡ true → is_named u.names a ≡ true
stays-named t u a step named = named-kept t.names step.more u.names a step.names named

pub keeps-place : (t u : Shadows) (a : Actor) → ExtendsShadows t u → is_named t.names a ≡ true → place_in u.names a ≡ place_in t.names a
keeps-place t u a step named = ap (λ names. place_in names a) step.names ∙ place-kept (same_actor a) t.names step.more named

among-map : {X : Type 0} (key : X → Actor) (x : X) (rows : List X) → IsAmong x rows → IsAmong (key x) (map key rows)
among-map key x [] m = m
among-map key x (r ∷ rows) (inl e) = inl (ap key e)
among-map key x (r ∷ rows) (inr m) = inr (among-map key x rows m)

module _ (old new : List Actor) (states : List StateRow) (sent : List ActorCount) (created released : List PairCount) (named : NamesRows old new (row_names states sent created released)) where
  pub states-named : AllByRecursion (λ r. is_named new r.actor ≡ true) states
  states-named = all-from_members (λ r. is_named new r.actor ≡ true) states (λ r m.
      among-named old new (row_names states sent created released) named r.actor
      (IsAmong-append_left r.actor (map (λ r. r.actor) states) _ (among-map (λ (x : StateRow). x.actor) r states m)))

  pub sent-named : AllByRecursion (λ r. is_named new r.actor ≡ true) sent
  sent-named = all-from_members (λ r. is_named new r.actor ≡ true) sent (λ r m.
      among-named old new (row_names states sent created released) named r.actor
      (IsAmong-append_right r.actor (map (λ r. r.actor) states) _ (IsAmong-append_left r.actor (map (λ r. r.actor) sent) _ (among-map (λ (x : ActorCount). x.actor) r sent m))))
