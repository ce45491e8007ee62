-- A step for each number, one after the other: what comes of the next one, which of them may be skipped, and that what halts
-- a part of a history halts the whole.
use Rattle.std.proofs.Common.{◌≡◌, ◌<◌, ◌≤◌, ◌+◌, ℕ, zero, suc, List, ◌∷◌, ◌++◌, sym, ◌∙◌, ap, subst, inl, inr, arith, Result, Ok, Err}
use Rattle.std.specs.Prelude.{IfErr, OnOk}
use Rattle.std.proofs.lemmas.Bool.{cases_lt}
use Rattle.history_model.specs.declared.events.Event.{Event}
use Rattle.history_model.specs.Cluster.{Cluster}
use Rattle.run_model.specs.Round.{each}
use Rattle.run_model.proofs.RoundSteps.{each-keeps}
use Rattle.cluster_round.specs.Halting.{IsRoundHalt}
use Rattle.cluster_round.specs.declared.halt.RoundHalt.{RoundHalt}
use Rattle.cluster_round.specs.declared.halt.RoundHalt.TheVariants as halts

-- ---- halts

-- after the past, the history goes on with the event
abbrev pub GoesOn : Event → List Event → List Event → Type 0
GoesOn e past h = (later : List Event) × (h ≡ later ++ e ∷ past)

-- what halts a part halts the whole, if that goes on as the part does
pub halts-whole : (halt : RoundHalt) (cl : Cluster) (part whole past : List Event) → ((e : Event) → GoesOn e past part → GoesOn e past whole) → IsRoundHalt halt cl part past → IsRoundHalt halt cl whole past
halts-whole (halts.Limit which) cl part whole past on is = (let more = on is.1 (is.0, is.2) in (more.0, is.1, more.1, is.3))
halts-whole halts.NoMemory cl part whole past on is = tt

-- ---- a step for each number

-- the step only adds
abbrev pub OnlyAdds : (ℕ → List Event → List Event) → Type 0
OnlyAdds step = (e : Event) (past : List Event) (k : ℕ) (h : List Event) → GoesOn e past h → GoesOn e past (step k h)

-- what holds after n steps holds after more, where each step keeps it
pub each-more : (P : List Event → Type 0) (step : ℕ → List Event → List Event) → ((k : ℕ) (h : List Event) → P h → P (step k h)) → (n total : ℕ) (h : List Event) → n ≤ total → P (each step n h) → P (each step total h)
each-more P step keeps n zero h within holds = (let same : n ≡ zero = omega (arith, within) in subst (λ k. P (each step k h)) same holds)
each-more P step keeps n (suc total) h within holds =
    elim (cases_lt total n) [
      | inl last ↦ (let same : n ≡ suc total = omega (arith, within, last) in subst (λ k. P (each step k h)) same holds)
      | inr before ↦ keeps total (each step total h) (each-more P step keeps n total h before holds)
    ]

-- steps that change nothing may be skipped
pub each-skip : (step : ℕ → List Event → List Event) (h now : List Event) (i j : ℕ) → i ≤ j → now ≡ each step i h → ((k : ℕ) → i ≤ k → k < j → step k now ≡ now) → now ≡ each step j h
each-skip step h now i zero within is stays = (let same : i ≡ zero = omega (arith, within) in is ∙ ap (λ k. each step k h) same)
each-skip step h now i (suc j) within is stays =
    elim (cases_lt j i) [
      | inl last ↦ (let same : i ≡ suc j = omega (arith, within, last) in is ∙ ap (λ k. each step k h) same)
      | inr before ↦ (
          let rest = each-skip step h now i j before is (λ k from below. stays k from (omega (arith, below))) in
          sym (stays j before (omega arith)) ∙ ap (step j) rest
          )
    ]

-- ---- the steps of a cluster

module _ (step : Cluster → ℕ → List Event → List Event) (cl now_cl : Cluster) (n k : ℕ) (h now new : List Event) (same : now_cl ≡ cl) (here : k ≡ n) (is : now ≡ each (step cl) n h) where
  pub step-next : new ≡ step now_cl k now → new ≡ each (step cl) (n + 1) h
  step-next next =
      let more : suc n ≡ n + 1 = omega arith in
      next ∙ ap (λ (c : Cluster). step c k now) same ∙ ap (λ j. step cl j now) here ∙ ap (step cl n) is ∙ ap (λ k. each (step cl) k h) more

  -- what halts a step halts all of them
  pub step-halts : (halt : RoundHalt) (total : ℕ) → n < total → OnlyAdds (step cl) → IsRoundHalt halt now_cl (step now_cl k now) new → IsRoundHalt halt cl (each (step cl) total h) new
  step-halts halt total below adds halted =
      let here : IsRoundHalt halt cl (each (step cl) (suc n) h) new =
      subst (λ g. IsRoundHalt halt cl (step cl n g) new) is
      (subst (λ j. IsRoundHalt halt cl (step cl j now) new) here (subst (λ (c : Cluster). IsRoundHalt halt c (step c k now) new) same halted)) in
      halts-whole halt cl (each (step cl) (suc n) h) (each (step cl) total h) new
      (λ e on. each-more (GoesOn e new) (step cl) (λ k g. adds e new k g) (suc n) total h (omega (arith, below)) on) here

-- ---- two parts, one after the other

module _ (next : Cluster → List Event → List Event) (cl now_cl : Cluster) (first now new : List Event) (same : now_cl ≡ cl) (is : now ≡ first) where
  target-same : next now_cl now ≡ next cl first
  target-same = ap (λ (c : Cluster). next c now) same ∙ ap (next cl) is

  pub next-ok : (r : Result (Unit {0}) RoundHalt) → OnOk r (new ≡ next now_cl now) → OnOk r (new ≡ next cl first)
  next-ok (Ok u) more = more ∙ target-same
  next-ok (Err e) more = tt

  pub next-halts : (r : Result (Unit {0}) RoundHalt) → IfErr r (λ halt. IsRoundHalt halt now_cl (next now_cl now) new) → IfErr r (λ halt. IsRoundHalt halt cl (next cl first) new)
  next-halts (Ok u) halted = tt
  next-halts (Err e) halted = subst (λ g. IsRoundHalt e cl g new) target-same (subst (λ (c : Cluster). IsRoundHalt e c (next now_cl now) new) same halted)

  -- one part in the middle halts, and more would follow
  pub part-halts : (halt : RoundHalt) (whole : List Event) → ((e : Event) → GoesOn e new (next cl first) → GoesOn e new whole) → IsRoundHalt halt now_cl (next now_cl now) new → IsRoundHalt halt cl whole new
  part-halts halt whole on halted = halts-whole halt cl (next cl first) whole new on (next-halts (Err halt) halted)

  pub part-next : new ≡ next now_cl now → new ≡ next cl first
  part-next more = more ∙ target-same
