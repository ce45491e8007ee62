use Rattle.std.proofs.Common.{◌≡◌, ◌⊎◌, ℕ, Option, Some, None, refl, sym, ◌∙◌, ap, subst, inl, inr}
use Rattle.crgc_ids.specs.declared.Which.{Which}
use Rattle.operation_model.specs.declared.operations.Op.{Op}
use Rattle.operation_model.specs.declared.replies.Reply.{Reply}
use Rattle.operation_model.specs.Answers.{IsAnswer, IsCourse, IsGranted, IsMade, MayFollow, Unless, WouldPass, refused}
use Rattle.operation_model.specs.Courses.{claim_at, events_by, world}
use Rattle.operation_model.specs.Deeds.{deed_of}
use Rattle.operation_model.specs.Fits.{Fits}
use Rattle.operation_model.specs.Openings.{IsSoundOpening, Opening}
use Rattle.operation_model.specs.Turns.{Calls}
use Rattle.operation_model.proofs.CourseLaws.{refused-quiet}
use Rattle.operation_model.proofs.LegalGrants.{follows-or_passes, granted-legal}
use Rattle.operation_model.proofs.laws.what_is_granted_is_legal.Goals as goal

module _ (o : Opening) (h : Calls) (op : Op) (r : Reply) (pass : ℕ) (opening : IsSoundOpening o) (course : IsCourse o h) (fit : Fits o h op pass) where
  -- a refusal has no events
  answer-follows : IsAnswer o h op r → (v : Option Reply) → refused o.script (claim_at o h) op (world o h) ≡ v → Unless v r (IsGranted o h op (world o h) r) → IsMade o h op r ⊎ ((limit : Which) × WouldPass o h op limit)
  answer-follows answer (Some x) is same =
      let quiet = ap (deed_of op) same ∙ (refused-quiet o.script (claim_at o h) op (world o h) x is).0 in
      inl (answer, subst (λ d. MayFollow o.script (events_by o.script d (world o h)) (world o h)) (sym quiet) tt)
  answer-follows answer None is done =
      elim (follows-or_passes o.script (events_by o.script (deed_of op r) (world o h)) (world o h) (granted-legal o opening h course pass op r fit is done)) [
        | inl follow ↦ inl (answer, follow)
        | inr would ↦ inr (would.0, (r, answer, would.1))
      ]

pub returns-clause-legal : goal.returns-clause-legal
returns-clause-legal c = λ o h op r pass opening course fit not_refused done. granted-legal o opening h course pass op r fit not_refused done

pub returns-clause-either : goal.returns-clause-either
returns-clause-either c = λ o h op r pass opening course fit answer.
    answer-follows o h op r pass opening course fit answer (refused o.script (claim_at o h) op (world o h)) refl answer
