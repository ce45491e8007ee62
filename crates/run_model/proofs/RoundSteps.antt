-- What a round keeps: whatever each of its events keeps, where no rule refuses it, holds at the end of each step, each stage
-- and the whole round. And what each step makes true for its own number, and keeps for lower ones, is true of all.
use Rattle.std.proofs.Common.{◌≡◌, ◌<◌, ◌-◌, ◌%◌, ◌==◌, ℕ, zero, suc, true, false, cond, List, ◌∷◌, length, is_none, Some, None, refl, sym, ◌∙◌, subst, inl, inr, arith}
use Rattle.std.proofs.lemmas.Bool.{cases_lt}
use Rattle.std.proofs.lemmas.Option.{none-some}
use Rattle.crgc_ids.specs.Actor.{Actor}
use Rattle.history_model.specs.declared.events.Event.{Event}
use Rattle.history_model.specs.declared.events.Event.TheVariants.{Flush, Publish, Window, Remove, Hand, Sweep}
use Rattle.history_model.specs.Cluster.{Cluster, births}
use Rattle.history_model.specs.Folds.{was_handed}
use Rattle.history_model.specs.Legal.{refusal}
use Rattle.history_model.specs.Streams.{stream}
use Rattle.run_model.specs.declared.round_laws.TheConstants.{FLUSHES_PER_PUBLISH}
use Rattle.run_model.specs.Round.{each, flushed, flushed_on, flushes, flushes_on, handed, handed_from, hands, published, removals, round, sweeps, tried, windows}

-- ---- one event

-- what holds before the event holds after it, where no rule refuses it
abbrev pub Keeps : (List Event → Type 0) → Cluster → Event → Type 0
Keeps P cl e = (h : List Event) → refusal cl e h ≡ None → P h → P (e ∷ h)

module _ (P : List Event → Type 0) (cl : Cluster) (e : Event) (h : List Event) where
  -- what holds of what comes next, if no rule refuses the event, and else of what was before
  pub allowed-makes : (next : List Event) → (refusal cl e h ≡ None → P next) → ((refusal cl e h ≡ None → ⊥) → P h) → P (cond (is_none (refusal cl e h)) next h)
  allowed-makes next after before =
      elim (refusal cl e h) as (λ r. refusal cl e h ≡ r → P (cond (is_none r) next h)) [
        | None ↦ λ none. after none
        | Some rule ↦ λ some. before (λ none. none-some rule (sym none ∙ some))
      ] refl

  pub tried-makes : (refusal cl e h ≡ None → P (e ∷ h)) → ((refusal cl e h ≡ None → ⊥) → P h) → P (tried cl e h)
  tried-makes = allowed-makes (e ∷ h)

  pub tried-keeps : (refusal cl e h ≡ None → P h → P (e ∷ h)) → P h → P (tried cl e h)
  tried-keeps keeps holds = tried-makes (λ none. keeps none holds) (λ _. holds)

-- ---- a step for each number

pub each-keeps : (P : List Event → Type 0) (step : ℕ → List Event → List Event) → ((k : ℕ) (h : List Event) → P h → P (step k h)) → (n : ℕ) (h : List Event) → P h → P (each step n h)
each-keeps P step keeps zero h holds = holds
each-keeps P step keeps (suc n) h holds = keeps n (each step n h) (each-keeps P step keeps n h holds)

-- I holds all along; the step of k makes Q k true, and keeps it true for lower numbers
pub each-makes : (I : List Event → Type 0) (Q : ℕ → List Event → Type 0) (step : ℕ → List Event → List Event)
    → ((k : ℕ) (h : List Event) → I h → I (step k h)) → ((k : ℕ) (h : List Event) → I h → Q k (step k h))
    → ((k j : ℕ) (h : List Event) → j < k → I h → Q j h → Q j (step k h))
    → (n : ℕ) (h : List Event) → I h → (j : ℕ) → j < n → Q j (each step n h)
each-makes I Q step keeps makes stays zero h holds j below = absurd (omega arith)
each-makes I Q step keeps makes stays (suc n) h holds j below =
    let before = each step n h in
    let now = each-keeps I step keeps n h holds in
    elim (cases_lt j n) [
      | inl lower ↦ stays n j before lower now (each-makes I Q step keeps makes stays n h holds j lower)
      | inr last ↦ (let same : n ≡ j = omega (arith, below, last) in subst (λ k. Q k (step n before)) same (makes n before now))
    ]

-- ---- the stages

-- the actor of a node with a serial
abbrev pub actor_of : ℕ → ℕ → Actor
actor_of m s = record { node = m; serial = s }

module _ (P : List Event → Type 0) (cl : Cluster) where
  pub removals-keep : ((m n : ℕ) → Keeps P cl (Remove m n)) → (h : List Event) → P h → P (removals cl h)
  removals-keep keeps =
      each-keeps P (λ m. each (λ n. tried cl (Remove m n)) cl.nodes)
      (λ m. each-keeps P (λ n. tried cl (Remove m n)) (λ n h. tried-keeps P cl (Remove m n) h (keeps m n h)) cl.nodes) cl.nodes

  pub windows-keep : ((m s : ℕ) → Keeps P cl (Window m s)) → (h : List Event) → P h → P (windows cl h)
  windows-keep keeps =
      each-keeps P (λ m. each (λ s. tried cl (Window m s)) cl.nodes)
      (λ m. each-keeps P (λ s. tried cl (Window m s)) (λ s h. tried-keeps P cl (Window m s) h (keeps m s h)) cl.nodes) cl.nodes

  module _ (m : ℕ) (publish : Keeps P cl (Publish m)) where
    pub published-keeps : (past : ℕ) (h : List Event) → P h → P (published cl m past h)
    published-keeps past h holds =
        elim ((flushes_on m h - past) % FLUSHES_PER_PUBLISH == 0) as (λ v. P (cond v (tried cl (Publish m) h) h)) [
          | true ↦ tried-keeps P cl (Publish m) h (publish h) holds
          | false ↦ holds
        ]

    module _ (flush : (s : ℕ) → Keeps P cl (Flush (actor_of m s))) where
      pub flushed-keeps : (past s : ℕ) (h : List Event) → P h → P (flushed cl m past s h)
      flushed-keeps past s h holds =
          let a = actor_of m s in
          allowed-makes P cl (Flush a) h (published cl m past (Flush a ∷ h)) (λ none. published-keeps past (Flush a ∷ h) (flush s h none holds)) (λ _. holds)

      pub flushed_on-keeps : (h : List Event) → P h → P (flushed_on cl m h)
      flushed_on-keeps h holds =
          let past = flushes_on m h in
          let all = each (flushed cl m past) (births m h) h in
          tried-keeps P cl (Publish m) all (publish all) (each-keeps P (flushed cl m past) (flushed-keeps past) (births m h) h holds)

  pub flushes-keep : ((a : Actor) → Keeps P cl (Flush a)) → ((m : ℕ) → Keeps P cl (Publish m)) → (h : List Event) → P h → P (flushes cl h)
  flushes-keep flush publish = each-keeps P (flushed_on cl) (λ m. flushed_on-keeps m (publish m) (λ s. flush (actor_of m s))) cl.nodes

  module _ (keeps : (m o k : ℕ) → Keeps P cl (Hand m o k)) where
    pub handed-keeps : (m o k : ℕ) (h : List Event) → P h → P (handed cl m o k h)
    handed-keeps m o k h holds =
        elim (was_handed m o k h) as (λ v. P (cond v h (tried cl (Hand m o k) h))) [ true ↦ holds | false ↦ tried-keeps P cl (Hand m o k) h (keeps m o k h) holds ]

    pub handed_from-keeps : (m o : ℕ) (h : List Event) → P h → P (handed_from cl m o h)
    handed_from-keeps m o h = each-keeps P (handed cl m o) (handed-keeps m o) (length (stream cl o h)) h

    pub hands-keep : (h : List Event) → P h → P (hands cl h)
    hands-keep = each-keeps P (λ m. each (handed_from cl m) cl.nodes) (λ m. each-keeps P (handed_from cl m) (handed_from-keeps m) cl.nodes) cl.nodes

  pub sweeps-keep : ((m : ℕ) → Keeps P cl (Sweep m)) → (h : List Event) → P h → P (sweeps cl h)
  sweeps-keep keeps = each-keeps P (λ m. tried cl (Sweep m)) (λ m h. tried-keeps P cl (Sweep m) h (keeps m h)) cl.nodes

-- ---- the whole round

-- each of the five forms of events before the sweeps keeps P
pub record IsKept (cl : Cluster) (P : List Event → Type 0) : Type 0 where
  pub remove : (m n : ℕ) → Keeps P cl (Remove m n)
  pub window : (m s : ℕ) → Keeps P cl (Window m s)
  pub flush : (a : Actor) → Keeps P cl (Flush a)
  pub publish : (m : ℕ) → Keeps P cl (Publish m)
  pub hand : (m o k : ℕ) → Keeps P cl (Hand m o k)

-- the round up to its sweeps
abbrev pub prepared : Cluster → List Event → List Event
prepared cl h = hands cl (flushes cl (windows cl (removals cl h)))

module _ (P : List Event → Type 0) (cl : Cluster) (kept : IsKept cl P) where
  pub prepared-keeps : (h : List Event) → P h → P (prepared cl h)
  prepared-keeps h holds =
      let removed = removals cl h in
      let told = windows cl removed in
      hands-keep P cl kept.hand (flushes cl told) (flushes-keep P cl kept.flush kept.publish told (windows-keep P cl kept.window removed (removals-keep P cl kept.remove h holds)))

  pub round-keeps : ((m : ℕ) → Keeps P cl (Sweep m)) → (h : List Event) → P h → P (round cl h)
  round-keeps sweep h holds = sweeps-keep P cl sweep (prepared cl h) (prepared-keeps h holds)
