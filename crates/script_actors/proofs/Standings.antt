-- What each event makes of the actors, and of the table that stands for them.
use Rattle.std.proofs.Common.{◌≡◌, ◌≢◌, ◌+◌, ◌<◌, ◌==◌, ℕ, zero, suc, Bool, true, false, if◌then◌else◌, List, [], ◌∷◌, ◌++◌, length, Option, Some, None, refl, sym, ◌∙◌, ap, subst, arith, IsTrue}
use Rattle.std.specs.Prelude.{IfSome, IsSome, option_map, slice_get}
use Rattle.std.specs.List.{list_all}
use Rattle.std.proofs.lemmas.Bool.{and_parts, false≢true, false_from_ne_true, ltb-true}
use Rattle.crgc_ids.specs.Actor.{Actor, same_actor}
use Rattle.history_model.specs.declared.events.Event.{Event}
use Rattle.history_model.specs.declared.events.Event.TheVariants.{Wake, Take, Spawn, Rest, Flush, Publish, Window, Remove, Hand, Sweep}
use Rattle.history_model.specs.Cluster.{births, is_birth_on, newborn}
use Rattle.history_model.specs.Messages.{waiting}
use Rattle.history_model.specs.State.{is_busy, is_root}
use Rattle.history_model.proofs.Basics.{same_actor-equal, same_actor-refl}
use Rattle.history_model.proofs.Lists.{tally-more}
use Rattle.behaviour_lang.specs.Bound.{Names, local_names}
use Rattle.behaviour_lang.specs.Steps.{Left, due_act}
use Rattle.behaviour_lang.specs.declared.act.Act.TheVariants as acts
use Rattle.behaviour_lang.specs.declared.act.List.TheVariants as lists
use Rattle.script_reader.specs.Valid.{Scripted}
use Rattle.run_model.specs.Doing.{Doing, acts_on, as_child, begins, doing, first_refs, own_name, spawned}
use Rattle.run_model.specs.Round.{is_of_round}
use Rattle.run_model.proofs.TurnsDone.{picked}
use Rattle.script_actors.specs.declared.rows.Row.{Row}
use Rattle.script_actors.specs.Table.{AddsRow, IsHere, SetsRow, Table, behaviour_at, behaviour_in, names_at, names_in, next_on, row, row_at, rows_on}
use Rattle.script_actors.specs.Standing.{AreActorsAt, IsRowOf, kept_names, names_now}
use Rattle.script_actors.specs.Turns.{left_now}
use Rattle.script_actors.proofs.TableLemmas.{row-here}
use Rattle.script_actors.proofs.TurnSteps.{passed_over}

-- ---- rows

pub each-some : {A : Type 0} (P Q : A → Type 0) (o : Option A) → ((x : A) → P x → Q x) → IfSome o P → IfSome o Q
each-some P Q None f h = h
each-some P Q (Some x) f h = f x h

pub some-of : {A : Type 0} (P : A → Type 0) (o : Option A) (x : A) → o ≡ Some x → IfSome o P → P x
some-of P o x e h = (let at : IfSome (Some x) P = subst (λ v. IfSome v P) e h in at)

-- the row of an actor that does what it did
row-kept : (s : Scripted) (e : Event) (h : List Event) (b : Actor) (r : Row) → doing s b (e ∷ h) ≡ doing s b h → is_busy b (e ∷ h) ≡ is_busy b h → IsRowOf s h b r → IsRowOf s (e ∷ h) b r
row-kept s e h b r same busy stands = record {
  behaviour = stands.behaviour ∙ sym (ap (λ (d : Doing). d.behaviour) same);
  in_code = stands.in_code;
  names = stands.names ∙ sym (ap (λ v. if v then None else Some (names_now s b (e ∷ h))) busy ∙ ap (λ (d : Doing). if is_busy b h then None else Some (let l = d.turn in l.names)) same);
}

-- ---- events that change no row

pub same-stands : (s : Scripted) (e : Event) (h : List Event) (t : Table) → ((n : ℕ) → births n (e ∷ h) ≡ births n h) → ((b : Actor) → doing s b (e ∷ h) ≡ doing s b h) → ((b : Actor) → is_busy b (e ∷ h) ≡ is_busy b h)
    → AreActorsAt s h t → AreActorsAt s (e ∷ h) t
same-stands s e h t count same busy stands = record {
  nodes = stands.nodes;
  counts = λ n. stands.counts n ∙ sym (count n);
  rows = λ b. each-some (IsRowOf s h b) (IsRowOf s (e ∷ h) b) (row_at t b) (λ r. row-kept s e h b r (same b) (busy b)) (stands.rows b);
  born = λ b is. subst (λ n. b.serial < n) (sym (count b.node)) (stands.born b (sym (busy b) ∙ is));
}

round-event : (s : Scripted) (e : Event) (h : List Event) (t : Table) → is_of_round e ≡ true → AreActorsAt s h t → AreActorsAt s (e ∷ h) t
round-event s (Remove m n) h t of stands = same-stands s (Remove m n) h t (λ n. refl) (λ b. refl) (λ b. refl) stands
round-event s (Window m n) h t of stands = same-stands s (Window m n) h t (λ n. refl) (λ b. refl) (λ b. refl) stands
round-event s (Flush a) h t of stands = same-stands s (Flush a) h t (λ n. refl) (λ b. refl) (λ b. refl) stands
round-event s (Publish m) h t of stands = same-stands s (Publish m) h t (λ n. refl) (λ b. refl) (λ b. refl) stands
round-event s (Hand m o k) h t of stands = same-stands s (Hand m o k) h t (λ n. refl) (λ b. refl) (λ b. refl) stands
round-event s (Sweep m) h t of stands = same-stands s (Sweep m) h t (λ n. refl) (λ b. refl) (λ b. refl) stands
round-event s e h t of stands = absurd (false≢true of)

pub round-events : (s : Scripted) (q h : List Event) (t : Table) → list_all is_of_round q ≡ true → AreActorsAt s h t → AreActorsAt s (q ++ h) t
round-events s [] h t of stands = stands
round-events s (e ∷ q) h t of stands = (let both = and_parts (is_of_round e) (list_all is_of_round q) of in round-event s e (q ++ h) t both.0 (round-events s q h t both.1 stands))

-- ---- one row changes

-- by whether it is the actor
pub by-actor : (P : Actor → Type 0) (a : Actor) → P a → ((b : Actor) → same_actor a b ≡ false → P b) → (b : Actor) → P b
by-actor P a here others b = elim (same_actor a b) as (λ v. same_actor a b ≡ v → P b) [
  | true ↦ λ same. subst P (same_actor-equal a b same) here
  | false ↦ λ other. others b other
] refl

pub apart : (a b : Actor) → same_actor a b ≡ false → b ≢ a
apart a b other same = false≢true (sym other ∙ subst (λ x. same_actor a x ≡ true) (sym same) (same_actor-refl a))

sets-stands : (s : Scripted) (e : Event) (h : List Event) (a : Actor) (old new : Table) (r : Row) → AreActorsAt s h old → SetsRow old new a r → IsHere old a → ((n : ℕ) → births n (e ∷ h) ≡ births n h) → IsRowOf s (e ∷ h) a r
    → ((b : Actor) → same_actor a b ≡ false → (doing s b (e ∷ h) ≡ doing s b h) × (is_busy b (e ∷ h) ≡ is_busy b h)) → AreActorsAt s (e ∷ h) new
sets-stands s e h a old new r stands change here count mine others = record {
  nodes = change.nodes ∙ stands.nodes;
  counts = λ n. change.counts n ∙ stands.counts n ∙ sym (count n);
  rows = by-actor (λ b. IfSome (row_at new b) (IsRowOf s (e ∷ h) b)) a (subst (λ o. IfSome o (IsRowOf s (e ∷ h) a)) (sym change.is_row) mine)
      (λ b other.
      let same = others b other in
      subst (λ o. IfSome o (IsRowOf s (e ∷ h) b)) (sym (change.others b (apart a b other)))
      (each-some (IsRowOf s h b) (IsRowOf s (e ∷ h) b) (row_at old b) (λ x. row-kept s e h b x same.0 same.1) (stands.rows b)));
  born = by-actor (λ b. is_busy b (e ∷ h) ≡ true → b.serial < births b.node (e ∷ h)) a
      (λ _. subst (λ n. a.serial < n) (stands.counts a.node ∙ sym (count a.node)) here)
      (λ b other is. (let same = others b other in subst (λ n. b.serial < n) (sym (count b.node)) (stands.born b (sym same.1 ∙ is))));
}

-- the row that an actor has
own-row : (s : Scripted) (h : List Event) (t : Table) (a : Actor) → AreActorsAt s h t → IsHere t a → (r : Row) × (row_at t a ≡ Some r) × IsRowOf s h a r
own-row s h t a stands here = found (row_at t a) refl
  where
    there : (xs : List Row) (i : ℕ) → i < length xs → slice_get xs i ≡ None → ⊥
    there [] i below e = omega (arith, below)
    there (x ∷ xs) zero below e = cc
    there (x ∷ xs) (suc i) below e = there xs i (omega (arith, below)) e

    found : (o : Option Row) → row_at t a ≡ o → (r : Row) × (row_at t a ≡ Some r) × IsRowOf s h a r
    found None e = absurd (there (rows_on t a.node) a.serial here e)
    found (Some r) e = (r, e, some-of (IsRowOf s h a) (row_at t a) r e (stands.rows a))

pub names-here : (t : Table) (a : Actor) → IsSome (names_at t a) → IsHere t a
names-here t a some = found (row_at t a) refl
  where
    found : (o : Option Row) → row_at t a ≡ o → IsHere t a
    found None e = absurd (false≢true (subst (λ v. IsSome (names_in v)) e some))
    found (Some r) e = row-here t a r e

-- the behaviour of the row is that of the actor, and in the code
own-behaviour : (s : Scripted) (h : List Event) (t : Table) (a : Actor) → AreActorsAt s h t → IsHere t a → (behaviour_at t a ≡ (let d = doing s a h in d.behaviour)) × (behaviour_at t a < length s.code)
own-behaviour s h t a stands here =
    let found = own-row s h t a stands here in
    let r = found.0 in
    let same : behaviour_at t a ≡ r.behaviour = ap behaviour_in found.1 in
    let of = found.2 in
    (same ∙ of.behaviour, subst (λ b. b < length s.code) (sym same) of.in_code)

-- ---- turns begin and end

module _ (s : Scripted) (h : List Event) (a : Actor) (old new : Table) (stands : AreActorsAt s h old) (here : IsHere old a) where
  -- the names are out while the actor is busy
  out-row : (e : Event) → (let d = doing s a (e ∷ h) in d.behaviour ≡ (let c = doing s a h in c.behaviour)) → is_busy a (e ∷ h) ≡ true → IsRowOf s (e ∷ h) a (row (behaviour_at old a) None)
  out-row e same busy =
      let own = own-behaviour s h old a stands here in
      record {
        behaviour = own.0 ∙ sym same;
        in_code = own.1;
        names = sym (ap (λ v. if v then None else Some (names_now s a (e ∷ h))) busy);
      }

  pub woken-stands : SetsRow old new a (row (behaviour_at old a) None) → AreActorsAt s (Wake a ∷ h) new
  woken-stands change =
      let d = doing s a h in
      sets-stands s (Wake a) h a old new (row (behaviour_at old a) None) stands change here (λ n. refl)
      (out-row (Wake a) (ap (λ (x : Doing). x.behaviour) (picked (same_actor a a) (begins s lists.Wake [] (is_root a h) d) d (same_actor-refl a))) (ap (λ v. if v then true else is_busy a h) (same_actor-refl a)))
      (λ b other. (passed_over (same_actor a b) (begins s lists.Wake [] (is_root b h) (doing s b h)) (doing s b h) other, ap (λ v. if v then true else is_busy b h) other))

  pub taken-stands : SetsRow old new a (row (behaviour_at old a) None) → AreActorsAt s (Take a ∷ h) new
  taken-stands change =
      let d = doing s a h in
      sets-stands s (Take a) h a old new (row (behaviour_at old a) None) stands change here (λ n. refl)
      (out-row (Take a) (ap (λ (x : Doing). x.behaviour) (picked (same_actor a a) (begins s lists.Message (first_refs (waiting a h)) (is_root a h) d) d (same_actor-refl a))) (ap (λ v. if v then true else is_busy a h) (same_actor-refl a)))
      (λ b other. (passed_over (same_actor a b) (begins s lists.Message (first_refs (waiting b h)) (is_root b h) (doing s b h)) (doing s b h) other, ap (λ v. if v then true else is_busy b h) other))

  pub rested-stands : (names : List (List ℕ × Actor)) → SetsRow old new a (row (behaviour_at old a) (Some names)) → local_names names ≡ names_now s a (Rest a ∷ h) → AreActorsAt s (Rest a ∷ h) new
  rested-stands names change back =
      let d = doing s a h in
      let own = own-behaviour s h old a stands here in
      let now = picked (same_actor a a) (acts_on None d) d (same_actor-refl a) in
      sets-stands s (Rest a) h a old new (row (behaviour_at old a) (Some names)) stands change here (λ n. refl)
      (record {
        behaviour = own.0 ∙ sym (ap (λ (x : Doing). x.behaviour) now);
        in_code = own.1;
        names = ap (λ ns. Some ns) back ∙ sym (ap (λ v. if (if v then false else is_busy a h) then None else Some (names_now s a (Rest a ∷ h))) (same_actor-refl a));
      })
      (λ b other. (passed_over (same_actor a b) (acts_on None (doing s b h)) (doing s b h) other, ap (λ v. if v then false else is_busy b h) other))

-- ---- births

module _ (s : Scripted) (h : List Event) (a c : Actor) (b : ℕ) (old new : Table) (names : List (List ℕ × Actor)) (stands : AreActorsAt s h old) (on : a.node ≡ c.node) (next : c ≡ next_on old c.node) (busy : is_busy a h ≡ true) where
  -- the child is the next actor of the node, and not born yet
  is-next : newborn a.node h ≡ c
  is-next = (let counts = stands.counts a.node in λ i. record { node = on i; serial = (sym counts ∙ ap (λ n. length (rows_on old n)) on ∙ sym (ap (λ (x : Actor). x.serial) next)) i })

  count : (n : ℕ) → births n (Spawn a ∷ h) ≡ (if c.node == n then births n h + 1 else births n h)
  count n = ap (λ m. if m == n then births n h + 1 else births n h) on

  unborn : c.serial < births c.node h → ⊥
  unborn below = (let counts = stands.counts c.node in let last = ap (λ (x : Actor). x.serial) next in omega (arith, below, counts, last))

  no-parent : same_actor a c ≡ false
  no-parent = false_from_ne_true (same_actor a c) (λ same. unborn (subst (λ (x : Actor). x.serial < births x.node h) (same_actor-equal a c same) (stands.born a busy)))

  idle-child : is_busy c h ≡ false
  idle-child = false_from_ne_true (is_busy c h) (λ is. unborn (stands.born c is))

  child-doing : doing s c (Spawn a ∷ h) ≡ as_child (doing s a h) c
  child-doing =
      passed_over (same_actor a c) (acts_on (Some (newborn a.node h)) (doing s c h)) _ no-parent
      ∙ picked (same_actor (newborn a.node h) c) (as_child (doing s a h) c) (doing s c h) (ap (λ x. same_actor x c) is-next ∙ same_actor-refl c)

  other-doing : (x : Actor) → same_actor a x ≡ false → same_actor c x ≡ false → doing s x (Spawn a ∷ h) ≡ doing s x h
  other-doing x no_parent no_child =
      passed_over (same_actor a x) (acts_on (Some (newborn a.node h)) (doing s x h)) _ no_parent
      ∙ passed_over (same_actor (newborn a.node h) x) (as_child (doing s a h) x) (doing s x h) (ap (λ y. same_actor y x) is-next ∙ no_child)

  -- the parent's names are out
  parent-row : (r : Row) → IsRowOf s h a r → IsRowOf s (Spawn a ∷ h) a r
  parent-row r of =
      let d = doing s a h in
      let child = newborn a.node h in
      let now = picked (same_actor a a) (acts_on (Some child) d) (elim (same_actor child a) as (λ _. Doing) [ true ↦ as_child d a | false ↦ d ]) (same_actor-refl a) in
      record {
        behaviour = of.behaviour ∙ sym (ap (λ (x : Doing). x.behaviour) now);
        in_code = of.in_code;
        names = of.names ∙ ap (λ v. if v then None else Some (names_now s a h)) busy ∙ sym (ap (λ v. if v then None else Some (names_now s a (Spawn a ∷ h))) busy);
      }

  other-row : (x : Actor) → same_actor c x ≡ false → (r : Row) → IsRowOf s h x r → IsRowOf s (Spawn a ∷ h) x r
  other-row x no_child = elim (same_actor a x) as (λ v. same_actor a x ≡ v → (r : Row) → IsRowOf s h x r → IsRowOf s (Spawn a ∷ h) x r) [
    | true ↦ λ same. subst (λ y. (r : Row) → IsRowOf s h y r → IsRowOf s (Spawn a ∷ h) y r) (same_actor-equal a x same) parent-row
    | false ↦ λ no_parent r. row-kept s (Spawn a) h x r (other-doing x no_parent no_child) refl
  ] refl

  pub born-stands : AddsRow old new c (row b (Some names)) → local_names names ≡ own_name c → due_act (left_now s a h) ≡ Some (acts.Spawn b) → b < length s.code → AreActorsAt s (Spawn a ∷ h) new
  born-stands change own due below = record {
    nodes = change.nodes ∙ stands.nodes;
    counts = λ n. change.counts n ∙ ap (λ k. if c.node == n then k + 1 else k) (stands.counts n) ∙ sym (count n);
    rows = by-actor (λ x. IfSome (row_at new x) (IsRowOf s (Spawn a ∷ h) x)) c
        (subst (λ o. IfSome o (IsRowOf s (Spawn a ∷ h) c)) (sym change.is_row) (record {
          behaviour = sym (ap (λ (x : Doing). x.behaviour) child-doing ∙ ap spawned due);
          in_code = below;
          names =
              ap (λ ns. Some ns) own
              ∙ sym (ap (λ v. if v then None else Some (names_now s c (Spawn a ∷ h))) idle-child ∙ ap (λ (x : Doing). Some (let l = x.turn in l.names)) child-doing);
        }))
        (λ x no_child.
        subst (λ o. IfSome o (IsRowOf s (Spawn a ∷ h) x)) (sym (change.others x (apart c x no_child)))
        (each-some (IsRowOf s h x) (IsRowOf s (Spawn a ∷ h) x) (row_at old x) (other-row x no_child) (stands.rows x)));
    born = λ x is. (let before = stands.born x is in let more = tally-more (is_birth_on x.node) (Spawn a) h in omega (arith, before, more));
  }
