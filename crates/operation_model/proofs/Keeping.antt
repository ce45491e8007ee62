-- What each event keeps of the turns that passes have open, and of the names and behaviours of actors. All of it is said of plain
-- functions: of each pass its open turn, of each actor its names and its behaviour.
use Rattle.std.proofs.Common.{◌≡◌, ◌==◌, ℕ, true, false, List, [], ◌∷◌, ◌++◌, Option, Some, None, option_to_list, refl, sym, ◌∙◌, ap, subst, if◌then◌else◌}
use Rattle.std.proofs.lemmas.Bool.{false≢true, false_from_ne_true}
use Rattle.std.proofs.lemmas.Option.{none-some, same_Some}
use Rattle.crgc_ids.specs.Actor.{Actor, same_actor}
use Rattle.history_model.specs.declared.events.Event.{Event}
use Rattle.history_model.specs.declared.events.Event.TheVariants.{Spawn, Rest}
use Rattle.history_model.specs.Cluster.{is_born, newborn}
use Rattle.history_model.specs.State.{is_busy}
use Rattle.history_model.proofs.AccountsBirths.{newborn-not_born}
use Rattle.history_model.proofs.Basics.{eqb-refl, same_actor-equal, same_actor-refl}
use Rattle.behaviour_lang.specs.Bound.{Names, local_names}
use Rattle.behaviour_lang.specs.Steps.{after_act, due_act}
use Rattle.behaviour_lang.specs.declared.act.Act.{Act}
use Rattle.behaviour_lang.specs.declared.act.Act.TheVariants as acts
use Rattle.script_reader.specs.Valid.{Scripted}
use Rattle.run_model.specs.Doing.{Doing, at_rest, doing, event_of, own_name, spawned}
use Rattle.run_model.proofs.HeldNames.{born-before}
use Rattle.operation_model.specs.Courses.{behaviour_after, names_after}
use Rattle.operation_model.specs.Deeds.{Begun, acted, rested}
use Rattle.operation_model.specs.Turns.{Open, fresh, turn_left, with_act}
use Rattle.operation_model.proofs.Frames.{IsBeginning, IsNoChild, IsStill, act-busy, act-doing, act-others, child-doing, child_of, rest-busy, rest-doing, rest-others}
use Rattle.operation_model.specs.Kept.{IsReached, IsRunning, KeepsTurns, names_of, turn_actor}
use Rattle.operation_model.proofs.Passes.{by_actor, by_pass}
use Rattle.operation_model.proofs.Reached.{HasChild, reached-next, reached-start}

-- only that pass's turn changes
pub record ChangesTurn (p : ℕ) (turns later : ℕ → Option Open) (now : Option Open) : Type 0 where
  pub own : later p ≡ now
  pub others : (q : ℕ) → (q == p) ≡ false → later q ≡ turns q

running-same : (s : Scripted) (e : Event) (w : List Event) (t : Open) → doing s (turn_actor t) (e ∷ w) ≡ doing s (turn_actor t) w → is_busy (turn_actor t) (e ∷ w) ≡ is_busy (turn_actor t) w → IsRunning s w t → IsRunning s (e ∷ w) t
running-same s e w t same busy r = record {
  busy = busy ∙ r.busy;
  reached = subst (λ (d : Doing). IsReached (turn_left s.code t.begun) t.acts t.children d.turn) (sym same) r.reached;
}

-- who is busy is none that is not
other-busy : (a c : Actor) (w : List Event) → is_busy a w ≡ true → is_busy c w ≡ false → same_actor a c ≡ false
other-busy a c w busy idle = false_from_ne_true (same_actor a c) (λ same. false≢true (sym idle ∙ subst (λ x. is_busy x w ≡ true) (same_actor-equal a c same) busy))

module _ (s : Scripted) (w : List Event) (turns later : ℕ → Option Open) (names names' : Actor → Names) (behaviours behaviours' : Actor → ℕ) (k : KeepsTurns s w turns names behaviours) where
  -- nothing changes
  pub keeps-same : ((q : ℕ) → later q ≡ turns q) → ((a : Actor) → names' a ≡ names a) → ((a : Actor) → behaviours' a ≡ behaviours a) → KeepsTurns s w later names' behaviours'
  keeps-same same_turns same_names same_behaviours = record {
    running = λ p t is. k.running p t (sym (same_turns p) ∙ is);
    apart = λ p q t u x y. k.apart p q t u (sym (same_turns p) ∙ x) (sym (same_turns q) ∙ y);
    names_are = λ a born idle. same_names a ∙ k.names_are a born idle;
    behaviours_are = λ a born. same_behaviours a ∙ k.behaviours_are a born;
  }

  -- nobody acts
  pub keeps-still : (e : Event) → IsStill s e w → ((q : ℕ) → later q ≡ turns q) → ((a : Actor) → names' a ≡ names a) → ((a : Actor) → behaviours' a ≡ behaviours a) → KeepsTurns s (e ∷ w) later names' behaviours'
  keeps-still e still same_turns same_names same_behaviours = record {
    running = λ p t is. running-same s e w t (still.doing_is (turn_actor t)) (still.busy (turn_actor t)) (k.running p t (sym (same_turns p) ∙ is));
    apart = λ p q t u x y. k.apart p q t u (sym (same_turns p) ∙ x) (sym (same_turns q) ∙ y);
    names_are = λ a born idle. same_names a ∙ k.names_are a (sym (still.born a) ∙ born) (sym (still.busy a) ∙ idle) ∙ ap names_of (sym (still.doing_is a));
    behaviours_are = λ a born. same_behaviours a ∙ k.behaviours_are a (sym (still.born a) ∙ born) ∙ ap (λ (d : Doing). d.behaviour) (sym (still.doing_is a));
  }

  -- the turn of a pass begins
  module _ (p : ℕ) (b : Begun) (e : Event) (now : Doing) (begins : IsBeginning s b.actor now e w) (idle : is_busy b.actor w ≡ false) (changes : ChangesTurn p turns later (Some (fresh b))) where
    abbrev Began : Type 0
    Began = (now.turn ≡ turn_left s.code b) × ((let d = doing s b.actor w in now.behaviour ≡ d.behaviour))

    begun-own : Began → (t : Open) → later p ≡ Some t → IsRunning s (e ∷ w) t
    begun-own began t is =
        let same : fresh b ≡ t = same_Some (fresh b) t (sym changes.own ∙ is) in
        let reached : (let d = doing s b.actor (e ∷ w) in IsReached (turn_left s.code b) [] [] d.turn) =
        subst (λ (d : Doing). IsReached (turn_left s.code b) [] [] d.turn) (sym begins.doing_is)
        (subst (IsReached (turn_left s.code b) [] []) (sym began.0) (reached-start (turn_left s.code b))) in
        let runs : IsRunning s (e ∷ w) (fresh b) = record { busy = begins.busy; reached = reached } in
        subst (IsRunning s (e ∷ w)) same runs

    -- nobody's turn was the actor's
    other-turn : (q : ℕ) (u : Open) → turns q ≡ Some u → same_actor b.actor (turn_actor u) ≡ false
    other-turn q u is =
        let r = k.running q u is in
        false_from_ne_true (same_actor b.actor (turn_actor u)) (λ same. false≢true (sym idle ∙ subst (λ x. is_busy x w ≡ true) (sym (same_actor-equal b.actor (turn_actor u) same)) r.busy))

    begun-running : Began → (q : ℕ) (t : Open) → later q ≡ Some t → IsRunning s (e ∷ w) t
    begun-running began q t is =
        by_pass p q (IsRunning s (e ∷ w) t)
        (λ same. begun-own began t (ap later (sym same) ∙ is))
        (λ differ.
        let before = sym (changes.others q differ) ∙ is in
        let other = other-turn q t before in
        running-same s e w t (begins.others (turn_actor t) other) (begins.busy_others (turn_actor t) other) (k.running q t before))

    -- a turn that is not the new one is another actor's
    begun-other : (q r : ℕ) (t u : Open) → q ≡ p → later q ≡ Some t → (r == p) ≡ false → later r ≡ Some u → turn_actor t ≡ turn_actor u → ⊥
    begun-other q r t u same is differ is_other one =
        let new : fresh b ≡ t = same_Some (fresh b) t (sym changes.own ∙ ap later (sym same) ∙ is) in
        let other = other-turn r u (sym (changes.others r differ) ∙ is_other) in
        let actor : b.actor ≡ turn_actor u = ap turn_actor new ∙ one in
        false≢true (sym other ∙ ap (same_actor b.actor) (sym actor) ∙ same_actor-refl b.actor)

    begun-apart : (q r : ℕ) (t u : Open) → later q ≡ Some t → later r ≡ Some u → turn_actor t ≡ turn_actor u → q ≡ r
    begun-apart q r t u is is_other one =
        by_pass p q (q ≡ r)
        (λ same. by_pass p r (q ≡ r) (λ also. same ∙ sym also) (λ differ. absurd (begun-other q r t u same is differ is_other one)))
        (λ differ. by_pass p r (q ≡ r)
        (λ also. absurd (begun-other r q u t also is_other differ is (sym one)))
        (λ too. k.apart q r t u (sym (changes.others q differ) ∙ is) (sym (changes.others r too) ∙ is_other) one))

    pub keeps-begun : Began → ((a : Actor) → names' a ≡ names a) → ((a : Actor) → behaviours' a ≡ behaviours a) → KeepsTurns s (e ∷ w) later names' behaviours'
    keeps-begun began same_names same_behaviours = record {
      running = begun-running began;
      apart = begun-apart;
      names_are = λ a born free.
          let other = false_from_ne_true (same_actor b.actor a) (λ same. false≢true (sym free ∙ subst (λ x. is_busy x (e ∷ w) ≡ true) (same_actor-equal b.actor a same) begins.busy)) in
          same_names a ∙ k.names_are a (sym (begins.born a) ∙ born) (sym (begins.busy_others a other) ∙ free) ∙ ap names_of (sym (begins.others a other));
      behaviours_are = λ a born.
          let before = same_behaviours a ∙ k.behaviours_are a (sym (begins.born a) ∙ born) in
          before ∙ by_actor b.actor a (let d = doing s a w in let f = doing s a (e ∷ w) in d.behaviour ≡ f.behaviour)
          (λ same. subst (λ x. (let d = doing s x w in let f = doing s x (e ∷ w) in d.behaviour ≡ f.behaviour)) same (sym began.1 ∙ ap (λ (d : Doing). d.behaviour) (sym begins.doing_is)))
          (λ other. ap (λ (d : Doing). d.behaviour) (sym (begins.others a other)));
    }

  -- the turn of a pass goes on, or ends
  module _ (p : ℕ) (t : Open) (a : Actor) (is_open : turns p ≡ Some t) (actor : turn_actor t ≡ a) where
    -- it runs, and so is its actor busy
    runs : IsRunning s w t
    runs = k.running p t is_open

    pub turn_actor-busy : is_busy a w ≡ true
    turn_actor-busy = subst (λ x. is_busy x w ≡ true) actor runs.busy

    pub turn_actor-reached : (let d = doing s a w in IsReached (turn_left s.code t.begun) t.acts t.children d.turn)
    turn_actor-reached = subst (λ x. (let d = doing s x w in IsReached (turn_left s.code t.begun) t.acts t.children d.turn)) actor runs.reached

    -- the turns of other passes are those of other actors
    other-actor : (q : ℕ) (u : Open) → (q == p) ≡ false → turns q ≡ Some u → same_actor a (turn_actor u) ≡ false
    other-actor q u differ is =
        false_from_ne_true (same_actor a (turn_actor u)) (λ same.
        let one = k.apart p q t u is_open is (actor ∙ same_actor-equal a (turn_actor u) same) in
        false≢true (sym differ ∙ ap (λ x. x == p) (sym one) ∙ eqb-refl p))

    -- the pass's own turn keeps its actor
    kept-apart : (now : Open) → turn_actor now ≡ turn_actor t → ChangesTurn p turns later (Some now) → (q r : ℕ) (x u : Open) → later q ≡ Some x → later r ≡ Some u → turn_actor x ≡ turn_actor u → q ≡ r
    kept-apart now same_turner changes q r x u is is_other one = k.apart q r (before q x is).0 (before r u is_other).0 (before q x is).1 (before r u is_other).1 ((before q x is).2 ∙ one ∙ sym (before r u is_other).2)
      where
        before : (q : ℕ) (x : Open) → later q ≡ Some x → (y : Open) × (turns q ≡ Some y) × (turn_actor y ≡ turn_actor x)
        before q x is =
            by_pass p q ((y : Open) × (turns q ≡ Some y) × (turn_actor y ≡ turn_actor x))
            (λ same. (t, ap turns same ∙ is_open, sym same_turner ∙ ap turn_actor (same_Some now x (sym changes.own ∙ ap later (sym same) ∙ is))))
            (λ differ. (x, sym (changes.others q differ) ∙ is, refl))

    has-child : (act : Act) → HasChild act (child_of a act w)
    has-child (acts.Spawn b) = tt
    has-child (acts.Send u refs) = tt
    has-child (acts.Drop u) = tt
    has-child acts.Retire = tt

    -- whoever is born is no newborn child
    no-child : (act : Act) (c : Actor) → is_born c w ≡ true → IsNoChild (child_of a act w) c
    no-child (acts.Spawn b) c born = false_from_ne_true (same_actor (newborn a.node w) c) (λ same. false≢true (sym (newborn-not_born a.node w) ∙ subst (λ x. is_born x w ≡ true) (sym (same_actor-equal (newborn a.node w) c same)) born))
    no-child (acts.Send u refs) c born = tt
    no-child (acts.Drop u) c born = tt
    no-child acts.Retire c born = tt

    module _ (act : Act) (due : (let d = doing s a w in due_act d.turn ≡ Some act)) (all_born : (c : Actor) → is_busy c w ≡ true → is_born c w ≡ true) (changes : ChangesTurn p turns later (Some (with_act act (child_of a act w) t))) where
      abbrev Acted : Event
      Acted = event_of a (Some act)

      acted-own : (x : Open) → later p ≡ Some x → IsRunning s (Acted ∷ w) x
      acted-own x is =
          let now = with_act act (child_of a act w) t in
          let same : now ≡ x = same_Some now x (sym changes.own ∙ is) in
          let d = doing s a w in
          let after : IsReached (turn_left s.code t.begun) (t.acts ++ act ∷ []) (t.children ++ option_to_list (child_of a act w)) (after_act (child_of a act w) d.turn) =
          reached-next (turn_left s.code t.begun) d.turn t.acts t.children turn_actor-reached act (child_of a act w) (has-child act) due in
          let at_actor : (let f = doing s a (Acted ∷ w) in IsReached (turn_left s.code t.begun) now.acts now.children f.turn) =
          subst (λ (f : Doing). IsReached (turn_left s.code t.begun) now.acts now.children f.turn) (sym (act-doing s a w act)) after in
          let running : IsRunning s (Acted ∷ w) now = record {
            busy = act-busy s a w act (turn_actor t) ∙ runs.busy;
            reached = subst (λ y. (let f = doing s y (Acted ∷ w) in IsReached (turn_left s.code t.begun) now.acts now.children f.turn)) (sym actor) at_actor;
          } in
          subst (IsRunning s (Acted ∷ w)) same running

      acted-running : (q : ℕ) (x : Open) → later q ≡ Some x → IsRunning s (Acted ∷ w) x
      acted-running q x is =
          by_pass p q (IsRunning s (Acted ∷ w) x)
          (λ same. acted-own x (ap later (sym same) ∙ is))
          (λ differ.
          let before = sym (changes.others q differ) ∙ is in
          let r = k.running q x before in
          running-same s Acted w x
          (act-others s a w act (turn_actor x) (other-actor q x differ before) (no-child act (turn_actor x) (all_born (turn_actor x) r.busy)))
          (act-busy s a w act (turn_actor x)) r)

      acted-apart : (q r : ℕ) (x u : Open) → later q ≡ Some x → later r ≡ Some u → turn_actor x ≡ turn_actor u → q ≡ r
      acted-apart = kept-apart (with_act act (child_of a act w) t) refl changes

      -- who was born before keeps its names, if it is in no turn, and its behaviour
      names-stay : (c : Actor) → is_born c w ≡ true → is_busy c (Acted ∷ w) ≡ false → names c ≡ names_of (doing s c (Acted ∷ w))
      names-stay c born idle =
          let before = sym (act-busy s a w act c) ∙ idle in
          k.names_are c born before
          ∙ ap names_of (sym (act-others s a w act c (other-busy a c w turn_actor-busy before) (no-child act c born)))

      behaviours-stay : (c : Actor) → is_born c w ≡ true → (let f = doing s c (Acted ∷ w) in behaviours c ≡ f.behaviour)
      behaviours-stay c born =
          k.behaviours_are c born
          ∙ by_actor a c (let d = doing s c w in let f = doing s c (Acted ∷ w) in d.behaviour ≡ f.behaviour)
          (λ same. subst (λ y. (let d = doing s y w in let f = doing s y (Acted ∷ w) in d.behaviour ≡ f.behaviour)) same (ap (λ (d : Doing). d.behaviour) (sym (act-doing s a w act))))
          (λ other. ap (λ (d : Doing). d.behaviour) (sym (act-others s a w act c other (no-child act c born))))

      -- an act without a child
      keeps-plain : ((c : Actor) → is_born c (Acted ∷ w) ≡ is_born c w) → ((c : Actor) → names' c ≡ names c) → ((c : Actor) → behaviours' c ≡ behaviours c) → KeepsTurns s (Acted ∷ w) later names' behaviours'
      keeps-plain same_born same_names same_behaviours = record {
        running = acted-running;
        apart = acted-apart;
        names_are = λ c born idle. same_names c ∙ names-stay c (sym (same_born c) ∙ born) idle;
        behaviours_are = λ c born. same_behaviours c ∙ behaviours-stay c (sym (same_born c) ∙ born);
      }

    -- an act that gives birth to a child: it has its behaviour, and the name `self`
    module _ (b : ℕ) (due : (let d = doing s a w in due_act d.turn ≡ Some (acts.Spawn b))) (all_born : (c : Actor) → is_busy c w ≡ true → is_born c w ≡ true) (changes : ChangesTurn p turns later (Some (with_act (acts.Spawn b) (Some (newborn a.node w)) t))) where
      abbrev Child : Actor
      Child = newborn a.node w

      -- the child is another actor, and idle
      child-apart : same_actor a Child ≡ false
      child-apart = false_from_ne_true (same_actor a Child) (λ same. false≢true (sym (newborn-not_born a.node w) ∙ subst (λ x. is_born x w ≡ true) (same_actor-equal a Child same) (all_born a turn_actor-busy)))

      child-does : doing s Child (Spawn a ∷ w) ≡ at_rest b (own_name Child)
      child-does =
          child-doing s a w b Child child-apart (same_actor-refl Child)
          ∙ ap (λ v. at_rest (spawned v) (own_name Child)) due

      born-earlier : (c : Actor) → same_actor Child c ≡ false → is_born c (Spawn a ∷ w) ≡ true → is_born c w ≡ true
      born-earlier c other born = born-before a.node c w other born

      keeps-spawn : ((c : Actor) → names' c ≡ (if same_actor Child c then own_name c else names c)) → ((c : Actor) → behaviours' c ≡ (if same_actor Child c then b else behaviours c)) → KeepsTurns s (Spawn a ∷ w) later names' behaviours'
      keeps-spawn new_names new_behaviours = record {
        running = acted-running (acts.Spawn b) due all_born changes;
        apart = acted-apart (acts.Spawn b) due all_born changes;
        names_are = λ c born idle. new_names c ∙ by_actor Child c ((if same_actor Child c then own_name c else names c) ≡ names_of (doing s c (Spawn a ∷ w)))
            (λ same. subst (λ x. (if same_actor Child x then own_name x else names x) ≡ names_of (doing s x (Spawn a ∷ w))) same
            (rw (same_actor-refl Child) (ap names_of (sym child-does))))
            (λ other. rw other (names-stay (acts.Spawn b) due all_born changes c (born-earlier c other born) idle));
        behaviours_are = λ c born. new_behaviours c ∙ by_actor Child c (let f = doing s c (Spawn a ∷ w) in (if same_actor Child c then b else behaviours c) ≡ f.behaviour)
            (λ same. subst (λ x. (let f = doing s x (Spawn a ∷ w) in (if same_actor Child x then b else behaviours x) ≡ f.behaviour)) same
            (rw (same_actor-refl Child) (ap (λ (d : Doing). d.behaviour) (sym child-does))))
            (λ other. rw other (behaviours-stay (acts.Spawn b) due all_born changes c (born-earlier c other born)));
      }

    -- the act of an open turn is done
    pub keeps-acted : (act : Act) → (let d = doing s a w in due_act d.turn ≡ Some act) → ((c : Actor) → is_busy c w ≡ true → is_born c w ≡ true) → ChangesTurn p turns later (Some (with_act act (child_of a act w) t))
        → ((c : Actor) → names' c ≡ names_after (acted a act (child_of a act w)) c (names c)) → ((c : Actor) → behaviours' c ≡ behaviour_after (acted a act (child_of a act w)) c (behaviours c)) → KeepsTurns s (event_of a (Some act) ∷ w) later names' behaviours'
    keeps-acted (acts.Spawn b) due all_born changes new_names new_behaviours = keeps-spawn b due all_born changes new_names new_behaviours
    keeps-acted (acts.Send u refs) due all_born changes new_names new_behaviours = keeps-plain (acts.Send u refs) due all_born changes (λ c. refl) new_names new_behaviours
    keeps-acted (acts.Drop u) due all_born changes new_names new_behaviours = keeps-plain (acts.Drop u) due all_born changes (λ c. refl) new_names new_behaviours
    keeps-acted acts.Retire due all_born changes new_names new_behaviours = keeps-plain acts.Retire due all_born changes (λ c. refl) new_names new_behaviours

    -- the open turn ends
    module _ (locals : List (List ℕ × Actor)) (left_names : (let d = doing s a w in let l = after_act None d.turn in l.names ≡ local_names locals)) (changes : ChangesTurn p turns later None) where
      -- the turns that are open after it are those of other passes
      still-open : (q : ℕ) (x : Open) → later q ≡ Some x → ((q == p) ≡ false) × (turns q ≡ Some x)
      still-open q x is =
          by_pass p q (((q == p) ≡ false) × (turns q ≡ Some x))
          (λ same. absurd (none-some x (sym changes.own ∙ ap later (sym same) ∙ is)))
          (λ differ. (differ, sym (changes.others q differ) ∙ is))

      rested-running : (q : ℕ) (x : Open) → later q ≡ Some x → IsRunning s (Rest a ∷ w) x
      rested-running q x is =
          let before = still-open q x is in
          let other = other-actor q x before.0 before.1 in
          running-same s (Rest a) w x (rest-others s a w (turn_actor x) other) (rest-busy s a w (turn_actor x) other) (k.running q x before.1)

      pub keeps-rested : ((c : Actor) → names' c ≡ names_after (rested a locals) c (names c)) → ((c : Actor) → behaviours' c ≡ behaviours c) → KeepsTurns s (Rest a ∷ w) later names' behaviours'
      keeps-rested new_names same_behaviours = record {
        running = rested-running;
        apart = λ q r x u is is_other one. k.apart q r x u (still-open q x is).1 (still-open r u is_other).1 one;
        names_are = λ c born idle. new_names c ∙ by_actor a c ((if same_actor a c then local_names locals else names c) ≡ names_of (doing s c (Rest a ∷ w)))
            (λ same. subst (λ x. (if same_actor a x then local_names locals else names x) ≡ names_of (doing s x (Rest a ∷ w))) same
            (rw (same_actor-refl a) (sym left_names ∙ ap names_of (sym (rest-doing s a w)))))
            (λ other. rw other (k.names_are c born (sym (rest-busy s a w c other) ∙ idle) ∙ ap names_of (sym (rest-others s a w c other))));
        behaviours_are = λ c born. same_behaviours c ∙ k.behaviours_are c born ∙ by_actor a c (let d = doing s c w in let f = doing s c (Rest a ∷ w) in d.behaviour ≡ f.behaviour)
            (λ same. subst (λ y. (let d = doing s y w in let f = doing s y (Rest a ∷ w) in d.behaviour ≡ f.behaviour)) same (ap (λ (d : Doing). d.behaviour) (sym (rest-doing s a w))))
            (λ other. ap (λ (d : Doing). d.behaviour) (sym (rest-others s a w c other)));
      }
