-- What the table of actors stands for after a sweep.
use Rattle.std.proofs.Common.{◌≡◌, ◌==◌, ◌&&◌, ◌||◌, not, ℕ, Bool, true, false, cond, List, [], ◌∷◌, filter, map, refl, sym, ◌∙◌, ap, subst, arith}
use Rattle.std.proofs.lemmas.Bool.{and_parts, eqb-true, ltb-true}
use Rattle.std.specs.List.{list_any}
use Rattle.crgc_ids.specs.Actor.{Actor}
use Rattle.crgc_ids.specs.Members.{IsAmong}
use Rattle.crgc_ids.proofs.MembersLaws.{IsAmong-from_filter}
use Rattle.history_model.specs.declared.events.Event.{Event}
use Rattle.history_model.specs.declared.events.Event.TheVariants.{Sweep}
use Rattle.history_model.specs.declared.records.Stop.{Stop}
use Rattle.history_model.specs.Cluster.{Cluster, births, same_actor}
use Rattle.history_model.specs.Graph.{holds_actor}
use Rattle.history_model.specs.Legal.{IsLegal}
use Rattle.history_model.specs.State.{is_up}
use Rattle.history_model.specs.Sweeps.{dead_at, is_stopped, stopped_by}
use Rattle.history_model.proofs.Basics.{legal-kept, same_actor-equal}
use Rattle.history_model.proofs.Stopped.{dead_at-quiet}
use Rattle.actor_states.specs.State.{State}
use Rattle.roster.specs.Standing.{IsRosterOf, IsStateOf, StandsAfter}
use Rattle.roster.specs.Table.{IsHere, Stops, Table, state_at}
use Rattle.roster.proofs.StateEvents.{held-still}
use Rattle.roster.proofs.StateSteps.{log-after}

-- an actor is one of those that pass a test where it passes and is one of all
holds-filter : (test : Actor → Bool) (xs : List Actor) (a : Actor) → holds_actor (filter test xs) a ≡ (test a && holds_actor xs a)
holds-filter test [] a = none (test a)
  where
    none : (v : Bool) → false ≡ (v && false)
    none true = refl
    none false = refl
holds-filter test (x ∷ xs) a =
    let rest = holds-filter test xs a in
    let Holds : Bool → Bool → Type 0 = λ v s. holds_actor (cond v (x ∷ filter test xs) (filter test xs)) a ≡ (test a && (s || holds_actor xs a)) in
    elim (test x) as (λ v. test x ≡ v → Holds v (same_actor x a)) [
      | true ↦ λ passes. elim (same_actor x a) as (λ s. same_actor x a ≡ s → (s || holds_actor (filter test xs) a) ≡ (test a && (s || holds_actor xs a))) [
        | true ↦ λ same. sym (ap (λ w. w && true) (subst (λ y. test y ≡ true) (same_actor-equal x a same) passes))
        | false ↦ λ _. rest
      ] refl
      | false ↦ λ fails. elim (same_actor x a) as (λ s. same_actor x a ≡ s → holds_actor (filter test xs) a ≡ (test a && (s || holds_actor xs a))) [
        | true ↦ λ same. rest ∙ ap (λ w. w && holds_actor xs a) (subst (λ y. test y ≡ false) (same_actor-equal x a same) fails) ∙ sym (ap (λ w. w && true) (subst (λ y. test y ≡ false) (same_actor-equal x a same) fails))
        | false ↦ λ _. rest
      ] refl
    ] refl

-- the stops name the actors that they stop
named-stops : (stops : List Stop) (a : Actor) → list_any (λ (s : Stop). same_actor s.actor a) stops ≡ holds_actor (map (λ (s : Stop). s.actor) stops) a
named-stops [] a = refl
named-stops (s ∷ stops) a = ap (λ v. same_actor s.actor a || v) (named-stops stops a)

-- who was stopped, or is one of the dead of the node that were not
stopped-now : (here dead before : Bool) → cond ((here && not before) && dead) true before ≡ ((here && dead) || before)
stopped-now true true true = refl
stopped-now true true false = refl
stopped-now true false true = refl
stopped-now true false false = refl
stopped-now false true true = refl
stopped-now false true false = refl
stopped-now false false true = refl
stopped-now false false false = refl

state-swept : (cl : Cluster) (m : ℕ) (p : List Event) (a : Actor) (s : State) (now : Bool) → IsLegal cl (Sweep m ∷ p) → now ≡ is_stopped cl a (Sweep m ∷ p) → IsStateOf cl p a s → IsStateOf cl (Sweep m ∷ p) a (record s { stopped = now })
state-swept cl m p a s now legal stopped is = record {
  busy = is.busy;
  root = is.root;
  parent = is.parent;
  held = λ t. is.held t ∙ sym (held-still cl p a (Sweep m) legal refl t refl refl);
  actor = is.actor;
  log = log-after cl (Sweep m) p a s.log [] is.actor refl refl is.log;
  stopped = stopped;
}

-- a state that is stopped or not
stopped-or : (v : Bool) (s : State) → cond v (record s { stopped = true }) s ≡ record s { stopped = cond v true s.stopped }
stopped-or true s = refl
stopped-or false s = refl

pub stands-swept : (cl : Cluster) (m : ℕ) (p : List Event) (old new : Table) (stops : List Stop) → map (λ (s : Stop). s.actor) stops ≡ stopped_by cl m p → Stops old new stops → StandsAfter cl (Sweep m) p old new
stands-swept cl m p old new stops these changes legal stands = record {
  version = changes.kept.version ∙ stands.version;
  nodes = changes.kept.count ∙ stands.nodes;
  births = λ n. changes.kept.births n ∙ stands.births n;
  up = λ n. changes.kept.up n ∙ stands.up n;
  states = λ a. (
      let s = state_at old a in
      let is = stands.states a in
      let named = list_any (λ (x : Stop). same_actor x.actor a) stops in
      let found : named ≡ (((a.node == m) && not (is_stopped cl a p)) && holds_actor (dead_at cl m p) a) =
      named-stops stops a ∙ ap (λ xs. holds_actor xs a) these ∙ holds-filter (λ x. (x.node == m) && not (is_stopped cl x p)) (dead_at cl m p) a in
      let now : cond named true s.stopped ≡ is_stopped cl a (Sweep m ∷ p) =
      ap (λ v. cond named true v) is.stopped ∙ ap (λ v. cond v true (is_stopped cl a p)) found ∙ stopped-now (a.node == m) (holds_actor (dead_at cl m p) a) (is_stopped cl a p) in
      subst (IsStateOf cl (Sweep m ∷ p) a) (sym (changes.states a ∙ stopped-or named s)) (state-swept cl m p a s (cond named true s.stopped) legal now is)
      );
}

-- who is stopped was born, and its node is up
pub stopped-here : (cl : Cluster) (m : ℕ) (p : List Event) (r : Table) (a : Actor) → IsLegal cl (Sweep m ∷ p) → IsRosterOf cl p r → IsAmong a (stopped_by cl m p) → IsHere r a
stopped-here cl m p r a legal stands among =
    let found = IsAmong-from_filter (λ x. (x.node == m) && not (is_stopped cl x p)) a (dead_at cl m p) among in
    let born = (dead_at-quiet cl m p legal.1).born a found.0 in
    let on : a.node ≡ m = eqb-true a.node m (and_parts (a.node == m) (not (is_stopped cl a p)) found.1).0 in
    let below = ltb-true a.serial (births a.node p) born in
    record {
      born = (let births_here = stands.births a.node in omega arith);
      up = stands.up a.node ∙ subst (λ n. is_up n p ≡ true) (sym on) (legal-kept cl (Sweep m) p legal).1.0;
    }
