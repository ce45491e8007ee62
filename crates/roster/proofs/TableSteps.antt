-- What the table of actors stands for, event by event.
use Rattle.std.proofs.Common.{◌≡◌, ◌≢◌, ◌+◌, ◌==◌, ◌||◌, ℕ, Bool, true, false, cond, not, List, [], ◌∷◌, Some, length, map, slice_get, refl, sym, ◌∙◌, ap, subst, arith}
use Rattle.std.proofs.lemmas.Bool.{false_from_ne_true, false≢true}
use Rattle.std.proofs.lemmas.List.{get_or_past}
use Rattle.std.specs.List.{list_any}
use Rattle.crgc_ids.specs.Actor.{Actor}
use Rattle.crgc_ids.proofs.ActorLaws.{same_actor-decides}
use Rattle.history_model.specs.declared.events.Event.{Event}
use Rattle.history_model.specs.declared.events.Event.TheVariants.{Seed, Tie, Wake, Take, Spawn, Send, Drop, Retire, Rest, Flush, Publish, Window, Admit, Lose, Repeat, Crash, Remove, Hand}
use Rattle.history_model.specs.Cluster.{Cluster, births, is_born, newborn, same_actor}
use Rattle.history_model.specs.Legal.{IsLegal}
use Rattle.history_model.specs.Messages.{Message, waiting}
use Rattle.history_model.specs.State.{is_crash, is_up}
use Rattle.history_model.proofs.Basics.{legal-kept, same_actor-equal}
use Rattle.history_model.proofs.AccountsBirths.{newborn-not_born}
use Rattle.actor_states.specs.State.{Begets, Drops, Flushes, IsChild, Sends, State, Takes, blank_state}
use Rattle.node_actors.specs.Node.{NodeState, blank_node, state_in}
use Rattle.roster.specs.Standing.{IsRosterOf, IsStateOf, StandsAfter, is_of_no_actor}
use Rattle.roster.specs.Table.{Changes, Crashes, IsAsBefore, Seeds, SpawnsFrom, Table, Ties, next_on, node_in, state_at}
use Rattle.roster.proofs.ActorCases.{at-actor}
use Rattle.roster.proofs.StateEvents.{state-begets, state-born, state-drops, state-flushes, state-owns, state-rests, state-retires, state-seeded, state-sends, state-takes, state-tied, state-wakes}
use Rattle.roster.proofs.StateSteps.{state-left, touches}

-- actors that differ do not test the same
apart-test : (a b : Actor) → b ≢ a → same_actor a b ≡ false
apart-test a b apart = false_from_ne_true (same_actor a b) (λ same. apart (sym (same_actor-equal a b same)))

-- no actor is born by the event, and no node crashes
abbrev IsQuiet : Event → List Event → Type 0
IsQuiet e p = (n : ℕ) → (births n (e ∷ p) ≡ births n p) × (is_up n (e ∷ p) ≡ is_up n p)

-- where one actor's state changed, and stands, the table stands
one-changed : (cl : Cluster) (e : Event) (p : List Event) (old new : Table) (a : Actor) (Change : State → State → Type 0) → IsQuiet e p → Changes old new a Change
    → ((b : Actor) → b ≢ a → touches e p b ≡ false)
    → (IsLegal cl (e ∷ p) → (s t : State) → Change s t → IsStateOf cl p a s → IsStateOf cl (e ∷ p) a t)
    → StandsAfter cl e p old new
one-changed cl e p old new a Change quiet changes others step legal stands = record {
  version = changes.kept.version ∙ stands.version;
  nodes = changes.kept.count ∙ stands.nodes;
  births = λ n. changes.kept.births n ∙ stands.births n ∙ sym (quiet n).0;
  up = λ n. changes.kept.up n ∙ stands.up n ∙ sym (quiet n).1;
  states = λ b. at-actor (λ x. IsStateOf cl (e ∷ p) x (state_at new x)) a b
      (step legal (state_at old a) (state_at new a) changes.changed (stands.states a))
      (λ apart. subst (IsStateOf cl (e ∷ p) b) (sym (changes.others b apart)) (state-left cl e p b (state_at old b) legal (others b apart) (stands.states b)));
}

-- what no event of links, streams or collectors changes
none-touched : (e : Event) (p : List Event) → is_of_no_actor e ≡ true → (b : Actor) → touches e p b ≡ false
none-touched (Publish n) p other b = refl
none-touched (Window d s) p other b = refl
none-touched (Admit s d k) p other b = refl
none-touched (Lose s d k) p other b = refl
none-touched (Repeat s d k) p other b = refl
none-touched (Remove m n) p other b = refl
none-touched (Hand m o k) p other b = refl
none-touched _ p other b = absurd (cc)

none-quiet : (e : Event) (p : List Event) → is_of_no_actor e ≡ true → IsQuiet e p
none-quiet (Publish n) p other m = (refl, refl)
none-quiet (Window d s) p other m = (refl, refl)
none-quiet (Admit s d k) p other m = (refl, refl)
none-quiet (Lose s d k) p other m = (refl, refl)
none-quiet (Repeat s d k) p other m = (refl, refl)
none-quiet (Remove m' n) p other m = (refl, refl)
none-quiet (Hand m' o k) p other m = (refl, refl)
none-quiet _ p other m = absurd (cc)

pub stands-left : (cl : Cluster) (e : Event) (p : List Event) (r : Table) → is_of_no_actor e ≡ true → StandsAfter cl e p r r
stands-left cl e p r other legal stands = record {
  version = stands.version;
  nodes = stands.nodes;
  births = λ n. stands.births n ∙ sym (none-quiet e p other n).0;
  up = λ n. stands.up n ∙ sym (none-quiet e p other n).1;
  states = λ b. state-left cl e p b (state_at r b) legal (none-touched e p other b) (stands.states b);
}

-- a table on which nothing changed stands for the same
pub stands-alike : (cl : Cluster) (h : List Event) (old new : Table) → IsAsBefore old new → IsRosterOf cl h old → IsRosterOf cl h new
stands-alike cl h old new same stands = record {
  version = same.0.version ∙ stands.version;
  nodes = same.0.count ∙ stands.nodes;
  births = λ n. same.0.births n ∙ stands.births n;
  up = λ n. same.0.up n ∙ stands.up n;
  states = λ a. (
      let is = stands.states a in
      let alike = same.1 a in
      subst (IsStateOf cl h a) (sym alike.0) (record {
        busy = is.busy;
        root = is.root;
        parent = is.parent;
        held = λ t. alike.1 t ∙ is.held t;
        actor = is.actor;
        log = is.log;
        stopped = is.stopped;
      })
      );
}

both-false : (v w : Bool) → v ≡ false → w ≡ false → (v || w) ≡ false
both-false v w e f = ap (λ x. x || w) e ∙ f

not-same : (v : Bool) → not v ≡ true → v ≡ true → ⊥
not-same v n t = false≢true (sym (ap not t) ∙ n)

-- the first message that waits
first_waits : (ms : List Message) (refs : List Actor) → slice_get (map (λ (m : Message). m.refs) ms) 0 ≡ Some refs → (m : Message) × (rest : List Message) × (ms ≡ m ∷ rest) × (m.refs ≡ refs)
first_waits [] refs e = absurd (cc)
first_waits (m ∷ rest) refs e = (m, rest, refl, cc)

-- ---- births

-- who was not born has the blank state
blank-next : (cl : Cluster) (p : List Event) (r : Table) (n : ℕ) → IsRosterOf cl p r → IsStateOf cl p (next_on r n) (blank_state (next_on r n))
blank-next cl p r n stands =
    let a = next_on r n in
    let row = node_in r n in
    let past : state_at r a ≡ blank_state (record { node = row.number; serial = a.serial }) =
    get_or_past row.actors a.serial (blank_state (record { node = row.number; serial = a.serial })) (omega arith) in
    let own : record { node = row.number; serial = a.serial } ≡ a = ap (λ (s : State). s.log.actor) (sym past) ∙ (stands.states a).actor in
    subst (IsStateOf cl p a) (past ∙ ap blank_state own) (stands.states a)

next-newborn : (cl : Cluster) (p : List Event) (r : Table) (n : ℕ) → IsRosterOf cl p r → next_on r n ≡ newborn n p
next-newborn cl p r n stands = ap (λ k. record { node = n; serial = k }) (stands.births n)

one-more : (v : Bool) (x : ℕ) → x + cond v 1 0 ≡ cond v (x + 1) x
one-more true x = refl
one-more false x = omega arith

pub stands-seeded : (cl : Cluster) (n : ℕ) (p : List Event) (old new : Table) → Seeds old new n → StandsAfter cl (Seed n) p old new
stands-seeded cl n p old new seeds legal stands =
    let a = next_on old n in
    let next = next-newborn cl p old n stands in
    record {
      version = seeds.birth.version ∙ stands.version;
      nodes = seeds.birth.count ∙ stands.nodes;
      births = λ m. seeds.birth.births m ∙ ap (λ k. k + cond (n == m) 1 0) (stands.births m) ∙ one-more (n == m) (births m p);
      up = λ m. seeds.birth.up m ∙ stands.up m;
      states = λ b. at-actor (λ x. IsStateOf cl (Seed n ∷ p) x (state_at new x)) a b
          (state-seeded cl p n a (state_at new a) next legal seeds.newborn (blank-next cl p old n stands))
          (λ apart. subst (IsStateOf cl (Seed n ∷ p) b) (sym (seeds.others b apart))
          (state-left cl (Seed n) p b (state_at old b) legal (subst (λ x. same_actor x b ≡ false) next (apart-test a b apart)) (stands.states b)));
    }

pub stands-spawned : (cl : Cluster) (x : Actor) (p : List Event) (old new : Table) → SpawnsFrom old new x → StandsAfter cl (Spawn x) p old new
stands-spawned cl x p old new spawns legal stands =
    let a = next_on old x.node in
    let next = next-newborn cl p old x.node stands in
    let born = (legal-kept cl (Spawn x) p legal).0 in
    let apart : x ≢ a = λ e. false≢true (sym (newborn-not_born x.node p) ∙ subst (λ y. is_born y p ≡ true) (e ∙ next) born) in
    let version : (old.version == 2) ≡ (cl.version == 2) = ap (λ v. v == 2) stands.version in
    record {
      version = spawns.birth.version ∙ stands.version;
      nodes = spawns.birth.count ∙ stands.nodes;
      births = λ m. spawns.birth.births m ∙ ap (λ k. k + cond (x.node == m) 1 0) (stands.births m) ∙ one-more (x.node == m) (births m p);
      up = λ m. spawns.birth.up m ∙ stands.up m;
      states = λ b. at-actor (λ y. IsStateOf cl (Spawn x ∷ p) y (state_at new y)) a b
          (state-born cl p x a (state_at new a) next apart legal (subst (λ v. IsChild (state_at new a) a x v) version spawns.child) (blank-next cl p old x.node stands))
          (λ no_child. at-actor (λ y. IsStateOf cl (Spawn x ∷ p) y (state_at new y)) x b
          (state-begets cl p x a (state_at old x) (state_at new x) next apart legal (subst (λ v. Begets (state_at old x) (state_at new x) a x v) version spawns.parent_state) (stands.states x))
          (λ no_parent. subst (IsStateOf cl (Spawn x ∷ p) b) (sym (spawns.others b no_child no_parent))
          (state-left cl (Spawn x) p b (state_at old b) legal (both-false (same_actor x b) (same_actor (newborn x.node p) b) (apart-test x b no_parent) (subst (λ y. same_actor y b ≡ false) next (apart-test a b no_child))) (stands.states b))));
    }

-- ---- references

pub stands-tied : (cl : Cluster) (o t : Actor) (p : List Event) (old new : Table) → Ties old new o t → StandsAfter cl (Tie o t) p old new
stands-tied cl o t p old new ties legal stands =
    let apart : o ≢ t = λ e. not-same (same_actor o t) (legal-kept cl (Tie o t) p legal).1.1.1.1.0 ((same_actor-decides o t).1 e) in
    record {
      version = ties.kept.version ∙ stands.version;
      nodes = ties.kept.count ∙ stands.nodes;
      births = λ n. ties.kept.births n ∙ stands.births n;
      up = λ n. ties.kept.up n ∙ stands.up n;
      states = λ b. at-actor (λ y. IsStateOf cl (Tie o t ∷ p) y (state_at new y)) o b
          (state-owns cl p o (state_at old o) (state_at new o) t apart legal ties.owner_state (stands.states o))
          (λ no_owner. at-actor (λ y. IsStateOf cl (Tie o t ∷ p) y (state_at new y)) t b
          (state-tied cl p t (state_at old t) (state_at new t) o apart legal ties.target_state (stands.states t))
          (λ no_target. subst (IsStateOf cl (Tie o t ∷ p) b) (sym (ties.others b no_owner no_target))
          (state-left cl (Tie o t) p b (state_at old b) legal (both-false (same_actor o b) (same_actor t b) (apart-test o b no_owner) (apart-test t b no_target)) (stands.states b))));
    }

-- ---- one actor

module _ (cl : Cluster) (a : Actor) (p : List Event) (old new : Table) where
  pub stands-woken : Changes old new a (λ s t. t ≡ record s { busy = true }) → StandsAfter cl (Wake a) p old new
  stands-woken changes =
      one-changed cl (Wake a) p old new a (λ s t. t ≡ record s { busy = true }) (λ n. (refl, refl)) changes (λ b apart. apart-test a b apart)
      (λ legal s t is stands. subst (IsStateOf cl (Wake a ∷ p) a) (sym is) (state-wakes cl p a s legal stands))

  pub stands-rested : Changes old new a (λ s t. t ≡ record s { busy = false }) → StandsAfter cl (Rest a) p old new
  stands-rested changes =
      one-changed cl (Rest a) p old new a (λ s t. t ≡ record s { busy = false }) (λ n. (refl, refl)) changes (λ b apart. apart-test a b apart)
      (λ legal s t is stands. subst (IsStateOf cl (Rest a ∷ p) a) (sym is) (state-rests cl p a s legal stands))

  pub stands-retired : Changes old new a (λ s t. t ≡ record s { root = false }) → StandsAfter cl (Retire a) p old new
  stands-retired changes =
      one-changed cl (Retire a) p old new a (λ s t. t ≡ record s { root = false }) (λ n. (refl, refl)) changes (λ b apart. apart-test a b apart)
      (λ legal s t is stands. subst (IsStateOf cl (Retire a ∷ p) a) (sym is) (state-retires cl p a s legal stands))

  pub stands-sent : (to : Actor) (refs : List Actor) → Changes old new a (Sends to refs) → StandsAfter cl (Send a to refs) p old new
  stands-sent to refs changes =
      one-changed cl (Send a to refs) p old new a (Sends to refs) (λ n. (refl, refl)) changes (λ b apart. apart-test a b apart)
      (λ legal s t is stands. state-sends cl p a s t to refs legal is stands)

  pub stands-dropped : (u : Actor) → Changes old new a (Drops u) → StandsAfter cl (Drop a u) p old new
  stands-dropped u changes =
      one-changed cl (Drop a u) p old new a (Drops u) (λ n. (refl, refl)) changes (λ b apart. apart-test a b apart)
      (λ legal s t is stands. state-drops cl p a s t u legal is stands)

  pub stands-flushed : Changes old new a Flushes → StandsAfter cl (Flush a) p old new
  stands-flushed changes =
      one-changed cl (Flush a) p old new a Flushes (λ n. (refl, refl)) changes (λ b apart. apart-test a b apart)
      (λ legal s t is stands. state-flushes cl p a s t legal is stands)

  pub stands-taken : (refs : List Actor) → slice_get (map (λ (m : Message). m.refs) (waiting a p)) 0 ≡ Some refs → Changes old new a (Takes refs) → StandsAfter cl (Take a) p old new
  stands-taken refs first changes =
      one-changed cl (Take a) p old new a (Takes refs) (λ n. (refl, refl)) changes (λ b apart. apart-test a b apart)
      (λ legal s t is stands. (let found = first_waits (waiting a p) refs first in state-takes cl p a s t found.0 found.1 refs legal found.2 found.3 is stands))

-- ---- nodes

pub stands-crashed : (cl : Cluster) (n : ℕ) (p : List Event) (old new : Table) → Crashes old new n → StandsAfter cl (Crash n) p old new
stands-crashed cl n p old new crashes legal stands = record {
  version = crashes.version ∙ stands.version;
  nodes = crashes.count ∙ stands.nodes;
  births = λ m. crashes.births m ∙ stands.births m;
  up = λ m. crashes.up m ∙ ap (cond (n == m) false) (stands.up m) ∙ down (n == m) (list_any (is_crash m) p);
  states = λ b. subst (IsStateOf cl (Crash n ∷ p) b) (sym (crashes.states b)) (state-left cl (Crash n) p b (state_at old b) legal refl (stands.states b));
}
  where
    down : (v w : Bool) → cond v false (not w) ≡ not (v || w)
    down true w = refl
    down false w = refl

-- ---- the beginning

pub stands-new : (cl : Cluster) (r : Table) → r.version ≡ cl.version → length r.nodes ≡ cl.nodes → ((n : ℕ) → node_in r n ≡ blank_node n) → IsRosterOf cl [] r
stands-new cl r version nodes blank = record {
  version = version;
  nodes = nodes;
  births = λ n. ap (λ (m : NodeState). length m.actors) (blank n);
  up = λ n. ap (λ (m : NodeState). m.up) (blank n);
  states = λ a. subst (λ m. IsStateOf cl [] a (state_in m a.serial)) (sym (blank a.node)) (record {
    busy = refl;
    root = refl;
    parent = λ t. refl;
    held = λ t. refl;
    actor = refl;
    log = record { facts = record { received = λ _. refl; flags = λ _. refl; sent = λ _. refl; created = λ _ _. refl; released = λ _ _. refl }; flushed = refl };
    stopped = refl;
  });
}
