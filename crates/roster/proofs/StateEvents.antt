-- What the state of an actor stands for after an event of it.
use Rattle.std.proofs.Common.{◌≡◌, ◌≢◌, ◌+◌, ◌==◌, ◌&&◌, ◌||◌, ℕ, Bool, true, false, cond, List, [], ◌∷◌, ◌++◌, None, Some, count_by, map, refl, sym, ◌∙◌, ap, subst, arith}
use Rattle.std.proofs.lemmas.Bool.{and_right, cond-true, cond_both, false_from_ne_true}
use Rattle.std.proofs.lemmas.List.Sums.{sum_by-cons}
use Rattle.crgc_ids.specs.Actor.{Actor}
use Rattle.history_model.specs.declared.events.Event.{Event}
use Rattle.history_model.specs.declared.events.Event.TheVariants.{Seed, Tie, Wake, Take, Spawn, Send, Drop, Retire, Rest, Flush}
use Rattle.history_model.specs.Cluster.{Cluster, newborn, same_actor}
use Rattle.history_model.specs.Facts.{Fact, Note, created, message_facts, note_by, received, released}
use Rattle.history_model.specs.Held.{given_at_once, held, is_drop_of, is_note_of}
use Rattle.history_model.specs.Legal.{IsLegal, is_parent}
use Rattle.history_model.specs.Messages.{Message, is_take_by, waiting}
use Rattle.history_model.specs.State.{is_busy, is_root}
use Rattle.history_model.specs.Streams.{facts_by, flags_at, flushed_flags, log}
use Rattle.history_model.specs.Tally.{tally}
use Rattle.history_model.proofs.Basics.{same_actor-equal, same_actor-refl, same_actor-sym}
use Rattle.entry_records.specs.Log.{IsLogAt, IsLogOf, Log, flushed_log, birth_facts}
use Rattle.actor_states.specs.State.{Begets, Drops, Flushes, Gains, IsChild, IsSeed, Sends, State, Takes, blank_state, flags_of, noting, parent_facts}
use Rattle.roster.specs.Standing.{IsStateOf}
use Rattle.roster.proofs.HeldSteps.{held-given, held-taken, weigh}
use Rattle.roster.proofs.StateSteps.{log-after, noted-other, other-owner}

-- ---- counts

-- both ways of counting are one
pub tally-count : {X : Type 0} (test : X → Bool) (xs : List X) → tally test xs ≡ count_by test xs
tally-count test [] = refl
tally-count test (x ∷ xs) =
    let rest = tally-count test xs in
    let more = sum_by-cons (λ y. cond (test y) 1 0) x xs in
    elim (test x) as (λ v. count_by test (x ∷ xs) ≡ cond v 1 0 + count_by test xs → cond v (tally test xs + 1) (tally test xs) ≡ count_by test (x ∷ xs)) [
      | true ↦ λ e. omega arith
      | false ↦ λ e. omega arith
    ] more

-- a pair of the owner counts by its target
own-pair : (b t w x : Actor) (ns : List Note) → tally (is_note_of b t) (note_by w (created b x) ∷ ns) ≡ tally (is_note_of b t) ns + cond (same_actor t x) 1 0
own-pair b t w x ns =
    let n = tally (is_note_of b t) ns in
    ap (λ v. cond (v && same_actor x t) (n + 1) n) (same_actor-refl b) ∙ ap (λ v. cond v (n + 1) n) (same_actor-sym x t) ∙ more (same_actor t x)
  where
    more : (v : Bool) → cond v (tally (is_note_of b t) ns + 1) (tally (is_note_of b t) ns) ≡ tally (is_note_of b t) ns + cond v 1 0
    more true = refl
    more false = omega arith

-- who notes has it in its log
noted-own : (b : Actor) (f : Fact) (ns : List Note) → facts_by b (note_by b f ∷ ns) ≡ f ∷ facts_by b ns
noted-own b f ns = cond-true (same_actor b b) (f ∷ facts_by b ns) (facts_by b ns) (same_actor-refl b)

all-own : (b : Actor) (fs : List Fact) → facts_by b (map (note_by b) fs) ≡ fs
all-own b [] = refl
all-own b (f ∷ fs) = noted-own b f (map (note_by b) fs) ∙ ap (λ gs. f ∷ gs) (all-own b fs)

-- what holds of all that an event gave and took holds of the counts
module _ (cl : Cluster) (p : List Event) (a : Actor) where
  -- an event that gives the actor nothing
  pub held-still : (e : Event) → IsLegal cl (e ∷ p) → is_take_by a e ≡ false → (t : Actor) → tally (is_note_of a t) (given_at_once cl e p) ≡ 0 → is_drop_of a t e ≡ false → held cl a t (e ∷ p) ≡ held cl a t p
  held-still e legal none t nothing kept =
      let step = held-given cl e p legal a t none in
      let no_drop = ap weigh kept in
      omega arith

  -- ---- flags

  pub state-wakes : (s : State) → IsLegal cl (Wake a ∷ p) → IsStateOf cl p a s → IsStateOf cl (Wake a ∷ p) a (record s { busy = true })
  state-wakes s legal is = record {
    busy = sym (cond-true (same_actor a a) true (is_busy a p) (same_actor-refl a));
    root = is.root;
    parent = is.parent;
    held = λ t. is.held t ∙ sym (held-still (Wake a) legal refl t refl refl);
    actor = is.actor;
    log = log-after cl (Wake a) p a s.log [] is.actor refl refl is.log;
    stopped = is.stopped;
  }

  pub state-rests : (s : State) → IsLegal cl (Rest a ∷ p) → IsStateOf cl p a s → IsStateOf cl (Rest a ∷ p) a (record s { busy = false })
  state-rests s legal is = record {
    busy = sym (cond-true (same_actor a a) false (is_busy a p) (same_actor-refl a));
    root = is.root;
    parent = is.parent;
    held = λ t. is.held t ∙ sym (held-still (Rest a) legal refl t refl refl);
    actor = is.actor;
    log = log-after cl (Rest a) p a s.log [] is.actor refl refl is.log;
    stopped = is.stopped;
  }

  pub state-retires : (s : State) → IsLegal cl (Retire a ∷ p) → IsStateOf cl p a s → IsStateOf cl (Retire a ∷ p) a (record s { root = false })
  state-retires s legal is = record {
    busy = is.busy;
    root = sym (cond-true (same_actor a a) false (is_root a p) (same_actor-refl a));
    parent = is.parent;
    held = λ t. is.held t ∙ sym (held-still (Retire a) legal refl t refl refl);
    actor = is.actor;
    log = log-after cl (Retire a) p a s.log [] is.actor refl refl is.log;
    stopped = is.stopped;
  }

  -- ---- messages

  -- the state is busy with the message, of which the references are held more
  pub state-takes : (s t : State) (m : Message) (ms : List Message) (refs : List Actor) → IsLegal cl (Take a ∷ p) → waiting a p ≡ m ∷ ms → m.refs ≡ refs → Takes refs s t → IsStateOf cl p a s → IsStateOf cl (Take a ∷ p) a t
  state-takes s t m ms refs legal first carries takes is = subst (IsStateOf cl (Take a ∷ p) a) (sym takes.0) (record {
    busy = sym (cond-true (same_actor a a) true (is_busy a p) (same_actor-refl a));
    root = is.root;
    parent = is.parent;
    held = λ u. (
        let gained = takes.1 u in
        let before = is.held u in
        let more = held-taken cl p a legal m ms first u in
        let same = ap (tally (same_actor u)) carries ∙ tally-count (same_actor u) refs in
        omega arith
        );
    actor = is.actor;
    log = log-after cl (Take a) p a s.log (received s.log.actor ∷ []) is.actor refl
        (noted-own a (received a) [] ∙ ap (λ x. received x ∷ []) (sym is.actor)) is.log;
    stopped = is.stopped;
  })

  pub state-sends : (s t : State) (to : Actor) (refs : List Actor) → IsLegal cl (Send a to refs ∷ p) → Sends to refs s t → IsStateOf cl p a s → IsStateOf cl (Send a to refs ∷ p) a t
  state-sends s t to refs legal sends is = subst (IsStateOf cl (Send a to refs ∷ p) a) (sym sends) (record {
    busy = is.busy;
    root = is.root;
    parent = is.parent;
    held = λ u. is.held u ∙ sym (held-still (Send a to refs) legal refl u refl refl);
    actor = is.actor;
    log = log-after cl (Send a to refs) p a s.log (message_facts (record { from = s.log.actor; to = to; refs = refs })) is.actor refl
        (all-own a (message_facts (record { from = a; to = to; refs = refs }))) is.log;
    stopped = is.stopped;
  })

  -- ---- references

  -- the owner of a tie holds its target
  pub state-owns : (s t : State) (u : Actor) → a ≢ u → IsLegal cl (Tie a u ∷ p) → Gains s t (u ∷ []) → IsStateOf cl p a s → IsStateOf cl (Tie a u ∷ p) a t
  state-owns s t u apart legal gains is = subst (IsStateOf cl (Tie a u ∷ p) a) (sym gains.0) (record {
    busy = is.busy;
    root = is.root;
    parent = is.parent;
    held = λ x. (
        let gained = gains.1 x in
        let before = is.held x in
        let step = held-given cl (Tie a u) p legal a x refl in
        let given = own-pair a x u u [] in
        omega arith
        );
    actor = is.actor;
    log = log-after cl (Tie a u) p a s.log [] is.actor refl (noted-other a u (created a u) [] (false_from_ne_true (same_actor u a) (λ e. apart (sym (same_actor-equal u a e))))) is.log;
    stopped = is.stopped;
  })

  -- its target notes that
  pub state-tied : (s t : State) (o : Actor) → o ≢ a → IsLegal cl (Tie o a ∷ p) → t ≡ noting (created o a ∷ []) s → IsStateOf cl p a s → IsStateOf cl (Tie o a ∷ p) a t
  state-tied s t o apart legal noted is = subst (IsStateOf cl (Tie o a ∷ p) a) (sym noted) (record {
    busy = is.busy;
    root = is.root;
    parent = is.parent;
    held = λ x. is.held x ∙ sym (held-still (Tie o a) legal refl x (other-owner a x a o a [] (false_from_ne_true (same_actor o a) (λ e. apart (same_actor-equal o a e)))) refl);
    actor = is.actor;
    log = log-after cl (Tie o a) p a s.log (created o a ∷ []) is.actor refl (noted-own a (created o a) []) is.log;
    stopped = is.stopped;
  })

  -- who drops a reference has one less, and notes that
  pub state-drops : (s t : State) (u : Actor) → IsLegal cl (Drop a u ∷ p) → Drops u s t → IsStateOf cl p a s → IsStateOf cl (Drop a u ∷ p) a t
  state-drops s t u legal drops is = subst (IsStateOf cl (Drop a u ∷ p) a) (ap (λ (x : State). record x { held = t.held }) drops.0) (record {
    busy = is.busy;
    root = is.root;
    parent = is.parent;
    held = λ x. (
        let lost = drops.1 x in
        let before = is.held x in
        let step = held-given cl (Drop a u) p legal a x refl in
        let dropped : weigh (is_drop_of a x (Drop a u)) ≡ weigh (same_actor x u) = ap (λ v. weigh (v && same_actor u x)) (same_actor-refl a) ∙ ap weigh (same_actor-sym u x) in
        omega arith
        );
    actor = is.actor;
    log = log-after cl (Drop a u) p a s.log (released s.log.actor u ∷ []) is.actor refl (noted-own a (released a u) [] ∙ ap (λ x. released x u ∷ []) (sym is.actor)) is.log;
    stopped = is.stopped;
  })

  -- ---- flushes

  -- a log that was flushed is blank, and has the flags of the flush
  flushed-at : (l : Log) → l.actor ≡ a → IsLogAt cl (Flush a ∷ p) (flushed_log l (flags_at a p))
  flushed-at l own =
      let gone : log cl l.actor (Flush a ∷ p) ≡ [] = ap (λ x. log cl x (Flush a ∷ p)) own ∙ cond-true (same_actor a a) [] (log cl a p ++ facts_by a []) (same_actor-refl a) in
      let told : Some (flags_at a p) ≡ flushed_flags l.actor (Flush a ∷ p) =
      sym (ap (λ x. flushed_flags x (Flush a ∷ p)) own ∙ cond-true (same_actor a a) (Some (flags_at a p)) (flushed_flags a p) (same_actor-refl a)) in
      record {
        facts = subst (λ known. IsLogOf known (flushed_log l (flags_at a p))) (sym gone) (record { received = λ _. refl; flags = λ _. refl; sent = λ _. refl; created = λ _ _. refl; released = λ _ _. refl });
        flushed = told;
      }

  pub state-flushes : (s t : State) → IsLegal cl (Flush a ∷ p) → Flushes s t → IsStateOf cl p a s → IsStateOf cl (Flush a ∷ p) a t
  state-flushes s t legal flushes is =
      let same : flags_of s ≡ flags_at a p = λ i. record { busy = is.busy i; root = is.root i } in
      subst (IsStateOf cl (Flush a ∷ p) a) (sym flushes) (record {
        busy = is.busy;
        root = is.root;
        parent = is.parent;
        held = λ u. is.held u ∙ sym (held-still (Flush a) legal refl u refl refl);
        actor = is.actor;
        log = subst (λ g. IsLogAt cl (Flush a ∷ p) (flushed_log s.log g)) (sym same) (flushed-at s.log is.actor);
        stopped = is.stopped;
      })

-- ---- births

module _ (cl : Cluster) (p : List Event) where
  -- a seed
  pub state-seeded : (n : ℕ) (a : Actor) (t : State) → a ≡ newborn n p → IsLegal cl (Seed n ∷ p) → IsSeed t a → IsStateOf cl p a (blank_state a) → IsStateOf cl (Seed n ∷ p) a t
  state-seeded n a t new legal born is =
      let itself : same_actor (newborn n p) a ≡ true = subst (λ x. same_actor x a ≡ true) new (same_actor-refl a) in
      subst (IsStateOf cl (Seed n ∷ p) a) (sym born.state) (record {
        busy = is.busy;
        root = sym (cond-true (same_actor (newborn n p) a) true (is_root a p) itself);
        parent = is.parent;
        held = λ u. (
            let holds = born.held u in
            let before = is.held u in
            let step = held-given cl (Seed n) p legal a u refl in
            let given : tally (is_note_of a u) (given_at_once cl (Seed n) p) ≡ 0 + cond (same_actor u a) 1 0 =
            ap (λ x. tally (is_note_of a u) (note_by x (created x x) ∷ [])) (sym new) ∙ own-pair a u a a [] in
            omega arith
            );
        actor = refl;
        log = log-after cl (Seed n) p a (blank_state a).log (birth_facts a None) refl refl (ap (λ x. facts_by a (note_by x (created x x) ∷ [])) (sym new) ∙ noted-own a (created a a) []) is.log;
        stopped = is.stopped;
      })

  -- the notes of a birth, by who the child is
  abbrev spawn_notes : Actor → Actor → List Note
  spawn_notes child x = note_by child (created child child) ∷ note_by child (created x child) ∷ cond (cl.version == 2) (note_by x (created child x) ∷ []) []

  -- what a child is given: itself, and its parent where it is supervised
  child-given : (a x u : Actor) (v : Bool) → same_actor x a ≡ false → tally (is_note_of a u) (note_by a (created a a) ∷ note_by a (created x a) ∷ cond v (note_by x (created a x) ∷ []) []) ≡ count_by (same_actor u) (cond v (a ∷ x ∷ []) (a ∷ []))
  child-given a x u v other =
      let back : List Note = cond v (note_by x (created a x) ∷ []) [] in
      own-pair a u a a (note_by a (created x a) ∷ back) ∙ ap (λ n. n + cond (same_actor u a) 1 0) (other-owner a u a x a back other) ∙ rest v
    where
      rest : (w : Bool) → tally (is_note_of a u) (cond w (note_by x (created a x) ∷ []) []) + cond (same_actor u a) 1 0 ≡ count_by (same_actor u) (cond w (a ∷ x ∷ []) (a ∷ []))
      rest true = (let more = own-pair a u x x [] in omega arith)
      rest false = refl

  pub state-born : (x a : Actor) (t : State) → a ≡ newborn x.node p → x ≢ a → IsLegal cl (Spawn x ∷ p) → IsChild t a x (cl.version == 2) → IsStateOf cl p a (blank_state a) → IsStateOf cl (Spawn x ∷ p) a t
  state-born x a t new apart legal born is =
      let other : same_actor x a ≡ false = false_from_ne_true (same_actor x a) (λ e. apart (same_actor-equal x a e)) in
      let itself : same_actor (newborn x.node p) a ≡ true = subst (λ y. same_actor y a ≡ true) new (same_actor-refl a) in
      let back : List Note = cond (cl.version == 2) (note_by x (created a x) ∷ []) [] in
      subst (IsStateOf cl (Spawn x ∷ p) a) (sym born.state) (record {
        busy = is.busy;
        root = is.root;
        parent = λ u. sym (ap (λ v. (same_actor x u && v) || is_parent u a p) itself ∙ ap (λ v. (same_actor x u && true) || v) (sym (is.parent u)) ∙ plain (same_actor x u));
        held = λ u. (
            let holds = born.held u in
            let before = is.held u in
            let step = held-given cl (Spawn x) p legal a u refl in
            let given = ap (λ y. tally (is_note_of a u) (spawn_notes y x)) (sym new) ∙ child-given a x u (cl.version == 2) other in
            omega arith
            );
        actor = refl;
        log = log-after cl (Spawn x) p a (blank_state a).log (birth_facts a (Some x)) refl refl
            (ap (λ y. facts_by a (spawn_notes y x)) (sym new) ∙ noted-own a (created a a) (note_by a (created x a) ∷ back)
            ∙ ap (λ fs. created a a ∷ fs) (noted-own a (created x a) back
            ∙ ap (λ fs. created x a ∷ fs) (cond_both (cl.version == 2) (note_by x (created a x) ∷ []) [] (λ ns. facts_by a ns ≡ []) (λ _. noted-other a x (created a x) [] other) (λ _. refl)))) is.log;
        stopped = is.stopped;
      })
    where
      plain : (v : Bool) → ((v && true) || false) ≡ v
      plain true = refl
      plain false = refl

  -- the parent of a newborn
  pub state-begets : (x a : Actor) (s t : State) → a ≡ newborn x.node p → x ≢ a → IsLegal cl (Spawn x ∷ p) → Begets s t a x (cl.version == 2) → IsStateOf cl p x s → IsStateOf cl (Spawn x ∷ p) x t
  state-begets x a s t new apart legal begets is =
      let other : same_actor a x ≡ false = false_from_ne_true (same_actor a x) (λ e. apart (sym (same_actor-equal a x e))) in
      let not_newborn : same_actor (newborn x.node p) x ≡ false = subst (λ y. same_actor y x ≡ false) new other in
      let back : List Note = cond (cl.version == 2) (note_by x (created a x) ∷ []) [] in
      subst (IsStateOf cl (Spawn x ∷ p) x) (sym begets.0) (record {
        busy = is.busy;
        root = is.root;
        parent = λ u. is.parent u ∙ sym (ap (λ v. v || is_parent u x p) (and_right (same_actor x u) (same_actor (newborn x.node p) x) not_newborn));
        held = λ u. (
            let gained = begets.1 u in
            let before = is.held u in
            let step = held-given cl (Spawn x) p legal x u refl in
            let given : tally (is_note_of x u) (given_at_once cl (Spawn x) p) ≡ 0 + cond (same_actor u a) 1 0 =
            ap (λ y. tally (is_note_of x u) (spawn_notes y x)) (sym new)
            ∙ other-owner x u a a a (note_by a (created x a) ∷ back) other ∙ own-pair x u a a back
            ∙ ap (λ n. n + cond (same_actor u a) 1 0) (cond_both (cl.version == 2) (note_by x (created a x) ∷ []) [] (λ ns. tally (is_note_of x u) ns ≡ 0) (λ _. other-owner x u x a x [] other) (λ _. refl)) in
            omega arith
            );
        actor = is.actor;
        log = log-after cl (Spawn x) p x s.log (parent_facts a x (cl.version == 2)) is.actor refl
            (ap (λ y. facts_by x (spawn_notes y x)) (sym new) ∙ noted-other x a (created a a) (note_by a (created x a) ∷ back) other ∙ noted-other x a (created x a) back other
            ∙ which (cl.version == 2)) is.log;
        stopped = is.stopped;
      })
    where
      which : (v : Bool) → facts_by x (cond v (note_by x (created a x) ∷ []) []) ≡ parent_facts a x v
      which true = noted-own x (created a x) []
      which false = refl
