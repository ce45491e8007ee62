-- What may be asked of a cluster under a lock, and what its state stands for.
use Rattle.std.specs.Prelude.{ℕ, ◌≡◌, [], ◌∷◌, ◌++◌, refl, get_or, None}
use Rattle.turn_lock.specs.History.{calls_of, entry}
use Rattle.operation_model.specs.declared.operations.Op.{Op}
use Rattle.operation_model.specs.declared.replies.Reply.{Reply}
use Rattle.operation_model.specs.Answers.{IsCourse, IsReply}
use Rattle.operation_model.specs.Courses.{claim_at, halt_at, verdict_of, verdicts, world}
use Rattle.operation_model.specs.Deeds.{deed_of}
use Rattle.operation_model.specs.Fits.{Fits}
use Rattle.operation_model.specs.Openings.{IsSoundOpening, Opening}
use Rattle.operation_model.specs.Turns.{Calls}
use Rattle.operation_model.proofs.StillFits.{still-fits}
use Rattle.world_object.specs.State.{ClusterState, as_opening}

-- the pass may make the operation after these calls: the lock was made with a sound cluster, and the operation fits
pub record MayMake (start : Opening) (history : Calls) (op : Op) (pass : ℕ) : Type 0 where
  pub sound : IsSoundOpening start
  pub fits : Fits start history op pass

-- the calls are a course from the start, and the cluster is what that course makes of it, with the verdicts of its sweeps before
-- those that the start has; of its actors it has the names and behaviours that are theirs in its history
pub record IsStateOf (start : ClusterState) (history : Calls) (state : ClusterState) : Type 0 where
  pub course : IsCourse (as_opening start) history
  pub script : state.script ≡ start.script
  pub past : state.past ≡ world (as_opening start) history
  pub claims : (n : ℕ) → get_or state.claims n None ≡ claim_at (as_opening start) history n
  pub halt : state.halt ≡ halt_at (as_opening start) history
  pub verdicts : state.verdicts ≡ verdicts history ++ start.verdicts

pub state_of_nothing : (start : ClusterState) → IsStateOf start [] start
state_of_nothing start = record { course = tt; script = refl; past = refl; claims = λ n. refl; halt = refl; verdicts = refl }

pub still_may_make : (start : Opening) (later history : Calls) (op : Op) (pass : ℕ)
    → calls_of pass later ≡ [] → MayMake start history op pass → MayMake start (later ++ history) op pass
still_may_make start later history op pass none may = record { sound = may.sound; fits = still-fits start later history op pass none may.fits }

-- the cluster stands for some calls, after which the pass may make the operation
abbrev pub MayStep : ClusterState → ℕ → Op → Type 0
MayStep state pass op = (start : ClusterState) × (history : Calls) × IsStateOf start history state × MayMake (as_opening start) history op pass

-- what one call makes of a cluster: that of a lock that was made with the cluster as it was before
pub record IsStep (before : ClusterState) (pass : ℕ) (op : Op) (reply : Reply) (after : ClusterState) : Type 0 where
  pub answer : IsReply (as_opening before) [] before.halt op reply
  pub script : after.script ≡ before.script
  pub past : after.past ≡ world (as_opening before) (entry pass op reply ∷ [])
  pub claims : (n : ℕ) → get_or after.claims n None ≡ claim_at (as_opening before) (entry pass op reply ∷ []) n
  pub halt : after.halt ≡ halt_at (as_opening before) (entry pass op reply ∷ [])
  pub verdicts : after.verdicts ≡ verdict_of (deed_of op reply) ++ before.verdicts
