-- What comes of an event that is tried.
use Rattle.std.proofs.Common.{◌≡◌, [], ◌∷◌, None, cond, is_none, Result, Ok, Err, sym, ◌∙◌, ap, subst}
use Rattle.std.specs.Prelude.{IfErr, OnErr, OnOk}
use Rattle.history_model.specs.declared.events.Event.{Event}
use Rattle.history_model.specs.Legal.{refusal}
use Rattle.history_model.specs.Story.{Story}
use Rattle.journal_model.specs.Limits.{limit_passed}
use Rattle.run_model.specs.Round.{tried}
use Rattle.true_config.specs.Steps.{Adds, MayFollow}
use Rattle.true_config.specs.declared.applied.Told.{Told}
use Rattle.cluster_course.specs.Halting.{IsHalt}
use Rattle.cluster_course.specs.declared.halt.Halt.{Halt}
use Rattle.cluster_course.specs.declared.halt.Halt.TheVariants as hindrances
use Rattle.cluster_round.specs.Halting.{IsRoundHalt, outcome_of}
use Rattle.cluster_round.specs.declared.halt.RoundHalt.{RoundHalt}

-- an event that is tried happens or is left out
module _ (e : Event) (s : Story) where
  happens : refusal s.cluster e s.past ≡ None → tried s.cluster e s.past ≡ e ∷ s.past
  happens none = ap (λ r. cond (is_none r) (e ∷ s.past) s.past) none

module _ (e : Event) (s t : Story) where
  pub tries-cluster : (r : Result Told Halt) → OnOk r (Adds e s t) → OnErr r (t ≡ s) → t.cluster ≡ s.cluster
  tries-cluster (Ok told) adds same = adds.cluster
  tries-cluster (Err h) adds same = ap (λ (x : Story). x.cluster) same

  ok-by : (r : Result Told Halt) → OnOk r (Adds e s t) → OnOk r (MayFollow e s) → IfErr r (λ h. IsHalt h e s) → OnErr r (t ≡ s) → OnOk (outcome_of r) (t.past ≡ tried s.cluster e s.past)
  ok-by (Ok told) adds may halt same = adds.past ∙ sym (happens e s may.legal)
  ok-by (Err (hindrances.Rule broken)) adds may halt same =
      ap (λ (x : Story). x.past) same ∙ sym (ap (λ r. cond (is_none r) (e ∷ s.past) s.past) halt)
  ok-by (Err (hindrances.Limit which)) adds may halt same = tt
  ok-by (Err hindrances.NoMemory) adds may halt same = tt

  halt-by : (r : Result Told Halt) → IfErr r (λ h. IsHalt h e s) → OnErr r (t ≡ s) → IfErr (outcome_of r) (λ h. IsRoundHalt h s.cluster (tried s.cluster e s.past) t.past)
  halt-by (Ok told) halt same = tt
  halt-by (Err (hindrances.Rule broken)) halt same = tt
  halt-by (Err (hindrances.Limit which)) halt same =
      let past : t.past ≡ s.past = ap (λ (x : Story). x.past) same in
      ([], e, happens e s halt.0 ∙ ap (λ p. e ∷ p) (sym past), ap (limit_passed s.cluster e) past ∙ halt.1)
  halt-by (Err hindrances.NoMemory) halt same = tt

  module _ (r : Result Told Halt) (w : Result (Unit {0}) RoundHalt) (is : w ≡ outcome_of r) where
    pub tries-ok : OnOk r (Adds e s t) → OnOk r (MayFollow e s) → IfErr r (λ h. IsHalt h e s) → OnErr r (t ≡ s) → OnOk w (t.past ≡ tried s.cluster e s.past)
    tries-ok adds may halt same = subst (λ x. OnOk x (t.past ≡ tried s.cluster e s.past)) (sym is) (ok-by r adds may halt same)

    pub tries-halt : IfErr r (λ h. IsHalt h e s) → OnErr r (t ≡ s) → IfErr w (λ h. IsRoundHalt h s.cluster (tried s.cluster e s.past) t.past)
    tries-halt halt same = subst (λ x. IfErr x (λ h. IsRoundHalt h s.cluster (tried s.cluster e s.past) t.past)) (sym is) (halt-by r halt same)
