-- A tie, and one that is taken back.
use Rattle.std.proofs.Common.{◌<◌, [], ◌∷◌, sym, ◌∙◌, ap, subst, arith}
use Rattle.crgc_ids.specs.Actor.{Actor}
use Rattle.history_model.proofs.Basics.{same_actor-refl}
use Rattle.refob_counts.specs.Counts.{count_of}
use Rattle.actor_states.specs.State.{Gains, IsAlike, State}
use Rattle.roster.specs.Table.{Changes, IsAsBefore, KeepsTable, Table, state_at}
use Rattle.roster.proofs.ActorCases.{at-actor}
use Rattle.roster.proofs.HeldSteps.{weigh}

pub keeps-then : (r s t : Table) → KeepsTable r s → KeepsTable s t → KeepsTable r t
keeps-then r s t first second = record {
  version = second.version ∙ first.version;
  count = second.count ∙ first.count;
  up = λ n. second.up n ∙ first.up n;
  births = λ n. second.births n ∙ first.births n;
}

-- the owner of a tie holds the target, also where nothing more changed
pub gained-held : (r s t : Table) (owner target : Actor) → Changes r s owner (λ x y. Gains x y (target ∷ [])) → IsAsBefore s t → 0 < count_of (state_at t owner).held target
gained-held r s t owner target gains alike =
    let more = gains.changed.1 target in
    let kept = (alike.1 owner).1 target in
    let itself = ap weigh (same_actor-refl target) in
    omega arith

-- what the owner lost again it had not before
lost-again : (s0 s1 s2 s3 : State) (target : Actor) → Gains s0 s1 (target ∷ []) → IsAlike s1 s2 → Gains s3 s2 (target ∷ []) → IsAlike s0 s3
lost-again s0 s1 s2 s3 target gains alike loses =
    let back = λ (x : State). record x { held = s3.held } in (
      ap back (sym loses.0) ∙ ap back alike.0 ∙ ap back gains.0,
      λ a. (
          let first = gains.1 a in
          let same = alike.1 a in
          let last = loses.1 a in
          omega arith
          ),
    )

pub tie-taken_back : (r s t u : Table) (owner target : Actor) → Changes r s owner (λ x y. Gains x y (target ∷ [])) → IsAsBefore s t → Changes t u owner (λ x y. Gains y x (target ∷ [])) → IsAsBefore r u
tie-taken_back r s t u owner target gains alike loses = (
  keeps-then r t u (keeps-then r s t gains.kept alike.0) loses.kept,
  λ a. at-actor (λ x. IsAlike (state_at r x) (state_at u x)) owner a
      (lost-again (state_at r owner) (state_at s owner) (state_at t owner) (state_at u owner) target gains.changed (alike.1 owner) loses.changed)
      (λ apart. subst (λ x. IsAlike x (state_at u a)) (gains.others a apart) (subst (IsAlike (state_at s a)) (sym (loses.others a apart)) (alike.1 a))),
)
