-- The flushes of a node, from one actor that has something to tell to the next.
use Rattle.std.proofs.Common.{◌≡◌, ◌≢◌, ◌<◌, ◌≤◌, ◌+◌, ◌-◌, ◌%◌, ◌==◌, ℕ, suc, true, false, cond, is_none, List, ◌∷◌, Option, None, Some, refl, sym, ◌∙◌, ap, subst, inl, inr, arith, IfSome, Result, Ok, Err}
use Rattle.std.specs.Prelude.{IfErr, OnOk}
use Rattle.std.proofs.lemmas.Bool.{cond-true, eq-eqb, false_from_ne_true, ltb-true, ne_eqb}
use Rattle.std.proofs.lemmas.Option.{none-some}
use Rattle.crgc_ids.specs.Actor.{Actor, IsActorBelow}
use Rattle.history_model.specs.declared.events.Event.{Event}
use Rattle.history_model.specs.declared.events.Event.TheVariants.{Flush, Publish}
use Rattle.history_model.specs.Cluster.{Cluster, births}
use Rattle.history_model.specs.Legal.{checks, refusal}
use Rattle.history_model.proofs.Basics.{eqb-refl, first_broken-none}
use Rattle.history_model.specs.Story.{Story}
use Rattle.ready_actors.specs.Ready.{IsAbove, IsFrom}
use Rattle.run_model.specs.Round.{each, flushed, flushes_on, published, tried}
use Rattle.run_model.specs.declared.round_laws.TheConstants.{FLUSHES_PER_PUBLISH}
use Rattle.run_model.proofs.RoundSteps.{actor_of, flushed-keeps, published-keeps}
use Rattle.true_config.specs.Readings.{IsNextFlush, MayFlush}
use Rattle.cluster_round.specs.Steps.{actors_flushed}
use Rattle.cluster_round.specs.Halting.{IsRoundHalt}
use Rattle.cluster_round.specs.declared.halt.RoundHalt.{RoundHalt}
use Rattle.cluster_round.proofs.Adding.{published-adds}
use Rattle.cluster_round.proofs.Staging.{GoesOn, each-skip, halts-whole}

-- ---- one flush

-- where no rule refuses the flush, the actor is flushed, and then the node may publish
pub flushed-done : (cl : Cluster) (a : Actor) (past : ℕ) (h : List Event) → refusal cl (Flush a) h ≡ None → flushed cl a.node past a.serial h ≡ published cl a.node past (Flush a ∷ h)
flushed-done cl a past h none = ap (λ r. cond (is_none r) (published cl a.node past (Flush a ∷ h)) h) none

-- where a rule refuses it, nothing happens
pub flushed-nothing : (cl : Cluster) (m s past : ℕ) (h : List Event) → (refusal cl (Flush (actor_of m s)) h ≡ None → ⊥) → flushed cl m past s h ≡ h
flushed-nothing cl m s past h refused =
    elim (refusal cl (Flush (actor_of m s)) h) as (λ r. refusal cl (Flush (actor_of m s)) h ≡ r → cond (is_none r) (published cl m past (Flush (actor_of m s) ∷ h)) h ≡ h) [
      | None ↦ λ none. absurd (refused none)
      | Some rule ↦ λ some. refl
    ] refl

module _ (cl : Cluster) (m past count : ℕ) (h : List Event) (counted : flushes_on m h ≡ past + count) where
  beyond : flushes_on m h - past ≡ count
  beyond = omega (arith, counted)

  pub published-due : count % FLUSHES_PER_PUBLISH ≡ 0 → published cl m past h ≡ tried cl (Publish m) h
  published-due due =
      let test : ((flushes_on m h - past) % FLUSHES_PER_PUBLISH == 0) ≡ true = ap (λ n. n % FLUSHES_PER_PUBLISH == 0) beyond ∙ eq-eqb (count % FLUSHES_PER_PUBLISH) 0 due in
      ap (λ b. cond b (tried cl (Publish m) h) h) test

  pub published-later : count % FLUSHES_PER_PUBLISH ≢ 0 → published cl m past h ≡ h
  published-later other =
      let test : ((flushes_on m h - past) % FLUSHES_PER_PUBLISH == 0) ≡ false = ap (λ n. n % FLUSHES_PER_PUBLISH == 0) beyond ∙ ne_eqb (count % FLUSHES_PER_PUBLISH) 0 other in
      ap (λ b. cond b (tried cl (Publish m) h) h) test

-- so it is with what the publish gives
module _ (cl : Cluster) (m count : ℕ) (h new : List Event) (r : Result (Unit {0}) RoundHalt) (due : count % FLUSHES_PER_PUBLISH ≡ 0) where
  pub due-published : OnOk r (new ≡ tried cl (Publish m) h) → OnOk r ((past : ℕ) → flushes_on m h ≡ past + count → new ≡ published cl m past h)
  due-published = by r
    where
      by : (x : Result (Unit {0}) RoundHalt) → OnOk x (new ≡ tried cl (Publish m) h) → OnOk x ((past : ℕ) → flushes_on m h ≡ past + count → new ≡ published cl m past h)
      by (Ok u) done = λ past counted. done ∙ sym (published-due cl m past count h counted due)
      by (Err e) done = tt

  pub due-published_halts : IfErr r (λ halt. IsRoundHalt halt cl (tried cl (Publish m) h) new) → IfErr r (λ halt. (past : ℕ) → flushes_on m h ≡ past + count → IsRoundHalt halt cl (published cl m past h) new)
  due-published_halts = by r
    where
      by : (x : Result (Unit {0}) RoundHalt) → IfErr x (λ halt. IsRoundHalt halt cl (tried cl (Publish m) h) new) → IfErr x (λ halt. (past : ℕ) → flushes_on m h ≡ past + count → IsRoundHalt halt cl (published cl m past h) new)
      by (Ok u) halted = tt
      by (Err e) halted = λ past counted. subst (λ g. IsRoundHalt e cl g new) (sym (published-due cl m past count h counted due)) halted

-- where no rule refuses an event, it happens
pub tried-done : (cl : Cluster) (e : Event) (h : List Event) → refusal cl e h ≡ None → tried cl e h ≡ e ∷ h
tried-done cl e h none = ap (λ r. cond (is_none r) (e ∷ h) h) none

-- what halts the flush halts the flush with its publish
pub flush-halts : (cl : Cluster) (a : Actor) (past : ℕ) (h new : List Event) (halt : RoundHalt) → refusal cl (Flush a) h ≡ None → IsRoundHalt halt cl (tried cl (Flush a) h) new → IsRoundHalt halt cl (flushed cl a.node past a.serial h) new
flush-halts cl a past h new halt none =
    halts-whole halt cl (tried cl (Flush a) h) (flushed cl a.node past a.serial h) new
    (λ e on. subst (GoesOn e new) (sym (flushed-done cl a past h none))
    (published-adds cl a.node past e new (Flush a ∷ h) (subst (GoesOn e new) (tried-done cl (Flush a) h none) on)))

-- the flush, and then what the publish gives
module _ (cl now_cl : Cluster) (a : Actor) (count : ℕ) (h now new : List Event) (node : ℕ) (r : Result (Unit {0}) RoundHalt) (none : refusal cl (Flush a) h ≡ None) (same : now_cl ≡ cl) (is : now ≡ tried cl (Flush a) h) (here : node ≡ a.node) where
  after : now ≡ Flush a ∷ h
  after = is ∙ tried-done cl (Flush a) h none

  counts : (past : ℕ) → flushes_on a.node (Flush a ∷ h) ≡ past + count → flushes_on node now ≡ past + count
  counts past counted = ap (λ n. flushes_on n now) here ∙ ap (flushes_on a.node) after ∙ counted

  whole : (past : ℕ) → published now_cl node past now ≡ flushed cl a.node past a.serial h
  whole past =
      ap (λ (c : Cluster). published c node past now) same ∙ ap (λ n. published cl n past now) here ∙ ap (published cl a.node past) after
      ∙ sym (flushed-done cl a past h none)

  pub flush-published : OnOk r ((past : ℕ) → flushes_on node now ≡ past + count → new ≡ published now_cl node past now) → OnOk r ((past : ℕ) → flushes_on a.node (Flush a ∷ h) ≡ past + count → new ≡ flushed cl a.node past a.serial h)
  flush-published = by r
    where
      by : (x : Result (Unit {0}) RoundHalt) → OnOk x ((past : ℕ) → flushes_on node now ≡ past + count → new ≡ published now_cl node past now) → OnOk x ((past : ℕ) → flushes_on a.node (Flush a ∷ h) ≡ past + count → new ≡ flushed cl a.node past a.serial h)
      by (Ok u) done = λ past counted. done past (counts past counted) ∙ whole past
      by (Err e) done = tt

  pub flush-published_halts : IfErr r (λ halt. (past : ℕ) → flushes_on node now ≡ past + count → IsRoundHalt halt now_cl (published now_cl node past now) new) → IfErr r (λ halt. (past : ℕ) → flushes_on a.node (Flush a ∷ h) ≡ past + count → IsRoundHalt halt cl (flushed cl a.node past a.serial h) new)
  flush-published_halts = by r
    where
      by : (x : Result (Unit {0}) RoundHalt) → IfErr x (λ halt. (past : ℕ) → flushes_on node now ≡ past + count → IsRoundHalt halt now_cl (published now_cl node past now) new) → IfErr x (λ halt. (past : ℕ) → flushes_on a.node (Flush a ∷ h) ≡ past + count → IsRoundHalt halt cl (flushed cl a.node past a.serial h) new)
      by (Ok u) halted = tt
      by (Err e) halted = λ past counted.
          subst (λ g. IsRoundHalt e cl g new) (whole past) (subst (λ (c : Cluster). IsRoundHalt e c (published now_cl node past now) new) same (halted past (counts past counted)))

-- what is asked of a walk, over an equal history
pub next-is : (w s : Story) (m : ℕ) (after first : Option Actor) → w ≡ s → IsNextFlush w.cluster m w.past after first → IsNextFlush s.cluster m s.past after first
next-is w s m after first same is = subst (λ (x : Story). IsNextFlush x.cluster m x.past after first) same is

pub next-over : (cl now_cl : Cluster) (m : ℕ) (h : List Event) (after first : Option Actor) → now_cl ≡ cl → IsNextFlush now_cl m h after first → IsNextFlush cl m h after first
next-over cl now_cl m h after first same is = subst (λ (x : Cluster). IsNextFlush x m h after first) same is

-- ---- from one actor to the next

-- the first serial after the actor that is given
abbrev pub next_of : Option Actor → ℕ
next_of None = 0
next_of (Some a) = a.serial + 1

-- the actors of node m up to the one that is given were flushed, and these were so many flushes
pub record IsFlushedUpTo (cl : Cluster) (m : ℕ) (h now : List Event) (after : Option Actor) (count : ℕ) : Type 0 where
  pub reached : now ≡ each (flushed cl m (flushes_on m h)) (next_of after) h
  pub here : IfSome after (λ a. a.node ≡ m)
  pub counted : flushes_on m now ≡ flushes_on m h + count
  pub born : births m now ≡ births m h
  pub few : count ≤ next_of after
  pub within : next_of after ≤ births m h

-- at first none was
pub flushed-start : (cl : Cluster) (m : ℕ) (h : List Event) → IsFlushedUpTo cl m h h None 0
flushed-start cl m h = record { reached = refl; here = tt; counted = omega arith; born = refl; few = omega arith; within = omega arith }

-- an actor of the node above the one that is given has its serial or a later one
above-from : (m : ℕ) (after : Option Actor) (a : Actor) → IfSome after (λ b. b.node ≡ m) → a.node ≡ m → IsAbove after a → next_of after ≤ a.serial
above-from m None a node here above = omega arith
above-from m (Some b) a node here above = elim above [
  | inl lower ↦ absurd (omega (arith, lower, node, here))
  | inr same ↦ omega (arith, same.1)
]

from-above : (m : ℕ) (after : Option Actor) (s : ℕ) → IfSome after (λ b. b.node ≡ m) → next_of after ≤ s → IsAbove after (actor_of m s)
from-above m None s node from = tt
from-above m (Some b) s node from = inr (node, omega (arith, from))

-- an actor whose flush is not refused was born
flush-born : (cl : Cluster) (a : Actor) (h : List Event) → refusal cl (Flush a) h ≡ None → a.serial < births a.node h
flush-born cl a h none = ltb-true a.serial (births a.node h) (first_broken-none (checks cl (Flush a) h) none).0

-- an actor is not below itself, nor below one with a lower serial
not-from : (m s : ℕ) (a : Actor) → a.node ≡ m → s < a.serial → IsFrom a (actor_of m s) → ⊥
not-from m s a here below from = elim from [
  | inl same ↦ (let serial : a.serial ≡ s = ap (λ (x : Actor). x.serial) same in omega (arith, serial, below))
  | inr higher ↦ elim higher [
    | inl node ↦ omega (arith, node, here)
    | inr serial ↦ omega (arith, serial.1, below)
  ]
]

module _ (cl : Cluster) (m : ℕ) (h now : List Event) (after : Option Actor) (count : ℕ) (at : IsFlushedUpTo cl m h now after count) where
  -- where none is left, all were flushed
  pub flushed-all : IsNextFlush cl m now after None → now ≡ actors_flushed cl m h
  flushed-all none =
      each-skip (flushed cl m (flushes_on m h)) h now (next_of after) (births m h) at.within at.reached
      (λ s from below. flushed-nothing cl m s (flushes_on m h) now (λ free. none (actor_of m s) (refl, free, from-above m after s at.here from)))

  module _ (a : Actor) (next : IsNextFlush cl m now after (Some a)) where
    pub next-born : a.serial < births m h
    next-born = (let born = flush-born cl a now next.0.1 in let here = next.0.0 in omega (arith, ap (λ n. births n now) here, born, at.born))

    pub next-from : next_of after ≤ a.serial
    next-from = above-from m after a at.here next.0.0 next.0.2

    -- those before it have nothing to tell
    pub next-reached : now ≡ each (flushed cl m (flushes_on m h)) a.serial h
    next-reached =
        each-skip (flushed cl m (flushes_on m h)) h now (next_of after) a.serial next-from at.reached
        (λ s from below. flushed-nothing cl m s (flushes_on m h) now
        (λ free. not-from m s a next.0.0 below (next.1 (actor_of m s) (refl, free, from-above m after s at.here from))))

    -- with it there is one flush more
    pub next-counted : flushes_on a.node (Flush a ∷ now) ≡ flushes_on m h + (count + 1)
    next-counted =
        let here : (a.node == a.node) ≡ true = eqb-refl a.node in
        let more : flushes_on a.node (Flush a ∷ now) ≡ flushes_on a.node now + 1 = ap (λ b. cond b (flushes_on a.node now + 1) (flushes_on a.node now)) here in
        let before : flushes_on a.node now ≡ flushes_on m now = ap (λ n. flushes_on n now) next.0.0 in
        omega (arith, more, before, at.counted)

    -- and then it is the last one that was flushed
    pub next-flushed : (new : List Event) → new ≡ flushed cl a.node (flushes_on m h) a.serial now → IsFlushedUpTo cl m h new (Some a) (count + 1)
    next-flushed new done =
        let past = flushes_on m h in
        let here = next.0.0 in
        let there : new ≡ flushed cl m past a.serial now = done ∙ ap (λ n. flushed cl n past a.serial now) here in
        let later : suc a.serial ≡ a.serial + 1 = omega arith in
        let told : new ≡ published cl a.node past (Flush a ∷ now) = done ∙ flushed-done cl a past now next.0.1 in
        let counted : flushes_on a.node new ≡ past + (count + 1) =
        subst (λ g. flushes_on a.node g ≡ past + (count + 1)) (sym told)
        (published-keeps (λ g. flushes_on a.node g ≡ past + (count + 1)) cl a.node (λ _ _ e. e) past (Flush a ∷ now) next-counted) in
        let born : births m new ≡ births m h =
        subst (λ g. births m g ≡ births m h) (sym there) (flushed-keeps (λ g. births m g ≡ births m h) cl m (λ _ _ e. e) (λ _ _ _ e. e) past a.serial now at.born) in
        let few = at.few in
        record {
          reached = there ∙ ap (flushed cl m past a.serial) next-reached ∙ ap (λ k. each (flushed cl m past) k h) later;
          here = here;
          counted = ap (λ n. flushes_on n new) (sym here) ∙ counted;
          born = born;
          few = omega (arith, few, next-from);
          within = omega (arith, next-born);
        }
