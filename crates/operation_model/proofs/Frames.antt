-- What each event leaves as it is: what other actors do, who is busy, and who is born.
use Rattle.std.proofs.Common.{◌≡◌, ℕ, Bool, true, false, List, [], ◌∷◌, Option, Some, None, refl, sym, ◌∙◌}
use Rattle.std.proofs.lemmas.Bool.{false≢true}
use Rattle.crgc_ids.specs.Actor.{Actor, same_actor}
use Rattle.history_model.specs.declared.events.Event.{Event}
use Rattle.history_model.specs.declared.events.Event.TheVariants.{Seed, Tie, Wake, Take, Spawn, Send, Drop, Retire, Rest, Flush, Publish, Window, Admit, Lose, Repeat, Crash, Remove, Hand, Sweep}
use Rattle.history_model.specs.Cluster.{is_born, newborn}
use Rattle.history_model.specs.Messages.{waiting}
use Rattle.history_model.specs.State.{is_busy, is_root}
use Rattle.history_model.proofs.Basics.{same_actor-refl}
use Rattle.behaviour_lang.specs.declared.act.Act.{Act}
use Rattle.behaviour_lang.specs.declared.act.Act.TheVariants as acts
use Rattle.behaviour_lang.specs.declared.act.List.TheVariants as lists
use Rattle.script_reader.specs.Valid.{Scripted}
use Rattle.run_model.specs.Doing.{Doing, acts_on, as_child, begins, doing, event_of, first_refs}
use Rattle.run_model.proofs.TurnsDone.{picked}

-- by a test that fails
pub passed : (v : Bool) (f g : Doing) → v ≡ false → (elim v as (λ _. Doing) [ true ↦ f | false ↦ g ]) ≡ g
passed true f g e = absurd (false≢true (sym e))
passed false f g e = refl

-- ---- events in which no actor acts

abbrev pub is_still : Event → Bool
is_still (Flush a) = true
is_still (Publish n) = true
is_still (Window d f) = true
is_still (Admit f d k) = true
is_still (Lose f d k) = true
is_still (Repeat f d k) = true
is_still (Crash n) = true
is_still (Remove m n) = true
is_still (Hand m o k) = true
is_still (Sweep m) = true
is_still e = false

-- what all actors do, and who is busy and born, is as before
pub record IsStill (s : Scripted) (e : Event) (w : List Event) : Type 0 where
  pub doing_is : (a : Actor) → doing s a (e ∷ w) ≡ doing s a w
  pub busy : (a : Actor) → is_busy a (e ∷ w) ≡ is_busy a w
  pub born : (a : Actor) → is_born a (e ∷ w) ≡ is_born a w

pub still : (s : Scripted) (e : Event) (w : List Event) → is_still e ≡ true → IsStill s e w
still s (Seed n) w is = absurd (false≢true is)
still s (Tie a b) w is = absurd (false≢true is)
still s (Wake a) w is = absurd (false≢true is)
still s (Take a) w is = absurd (false≢true is)
still s (Spawn a) w is = absurd (false≢true is)
still s (Send a t refs) w is = absurd (false≢true is)
still s (Drop a t) w is = absurd (false≢true is)
still s (Retire a) w is = absurd (false≢true is)
still s (Rest a) w is = absurd (false≢true is)
still s e w is = record { doing_is = λ x. refl; busy = λ x. refl; born = λ x. refl }

-- ---- a turn begins

-- the actor a does `now`, and is busy; all others are as before
pub record IsBeginning (s : Scripted) (a : Actor) (now : Doing) (e : Event) (w : List Event) : Type 0 where
  pub doing_is : doing s a (e ∷ w) ≡ now
  pub others : (c : Actor) → same_actor a c ≡ false → doing s c (e ∷ w) ≡ doing s c w
  pub busy : is_busy a (e ∷ w) ≡ true
  pub busy_others : (c : Actor) → same_actor a c ≡ false → is_busy c (e ∷ w) ≡ is_busy c w
  pub born : (c : Actor) → is_born c (e ∷ w) ≡ is_born c w

module _ (s : Scripted) (a : Actor) (w : List Event) where
  pub wake-begins : IsBeginning s a (begins s lists.Wake [] (is_root a w) (doing s a w)) (Wake a) w
  wake-begins = record {
    doing_is = picked (same_actor a a) _ _ (same_actor-refl a);
    others = λ c other. passed (same_actor a c) _ _ other;
    busy = rw (same_actor-refl a) refl;
    busy_others = λ c other. rw other refl;
    born = λ c. refl;
  }

  pub take-begins : IsBeginning s a (begins s lists.Message (first_refs (waiting a w)) (is_root a w) (doing s a w)) (Take a) w
  take-begins = record {
    doing_is = picked (same_actor a a) _ _ (same_actor-refl a);
    others = λ c other. passed (same_actor a c) _ _ other;
    busy = rw (same_actor-refl a) refl;
    busy_others = λ c other. rw other refl;
    born = λ c. refl;
  }

-- ---- an act is done, or a turn ends

-- the child of an act
abbrev pub child_of : Actor → Act → List Event → Option Actor
child_of a (acts.Spawn b) w = Some (newborn a.node w)
child_of a act w = None

-- who is no newborn child of the act
abbrev pub IsNoChild : Option Actor → Actor → Type 0
IsNoChild None c = Unit {0}
IsNoChild (Some child) c = same_actor child c ≡ false

module _ (s : Scripted) (a : Actor) (w : List Event) where
  pub act-doing : (act : Act) → doing s a (event_of a (Some act) ∷ w) ≡ acts_on (child_of a act w) (doing s a w)
  act-doing (acts.Spawn b) = picked (same_actor a a) _ _ (same_actor-refl a)
  act-doing (acts.Send t refs) = picked (same_actor a a) _ _ (same_actor-refl a)
  act-doing (acts.Drop t) = picked (same_actor a a) _ _ (same_actor-refl a)
  act-doing acts.Retire = picked (same_actor a a) _ _ (same_actor-refl a)

  pub act-others : (act : Act) (c : Actor) → same_actor a c ≡ false → IsNoChild (child_of a act w) c → doing s c (event_of a (Some act) ∷ w) ≡ doing s c w
  act-others (acts.Spawn b) c other no_child = passed (same_actor a c) _ _ other ∙ passed (same_actor (newborn a.node w) c) _ _ no_child
  act-others (acts.Send t refs) c other no_child = passed (same_actor a c) _ _ other
  act-others (acts.Drop t) c other no_child = passed (same_actor a c) _ _ other
  act-others acts.Retire c other no_child = passed (same_actor a c) _ _ other

  pub act-busy : (act : Act) (c : Actor) → is_busy c (event_of a (Some act) ∷ w) ≡ is_busy c w
  act-busy (acts.Spawn b) c = refl
  act-busy (acts.Send t refs) c = refl
  act-busy (acts.Drop t) c = refl
  act-busy acts.Retire c = refl

  -- a child is at rest
  pub child-doing : (b : ℕ) (c : Actor) → same_actor a c ≡ false → same_actor (newborn a.node w) c ≡ true → doing s c (Spawn a ∷ w) ≡ as_child (doing s a w) c
  child-doing b c other child = passed (same_actor a c) _ _ other ∙ picked (same_actor (newborn a.node w) c) _ _ child

  pub rest-doing : doing s a (Rest a ∷ w) ≡ acts_on None (doing s a w)
  rest-doing = picked (same_actor a a) _ _ (same_actor-refl a)

  pub rest-others : (c : Actor) → same_actor a c ≡ false → doing s c (Rest a ∷ w) ≡ doing s c w
  rest-others c other = passed (same_actor a c) _ _ other

  pub rest-busy : (c : Actor) → same_actor a c ≡ false → is_busy c (Rest a ∷ w) ≡ is_busy c w
  rest-busy c other = rw other refl
