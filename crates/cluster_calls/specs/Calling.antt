-- Calls that a pass makes through the lock of a cluster.
use Rattle.std.specs.Prelude.{◌≡◌, [], ◌∷◌, Option, Some, None, Result, Ok, Err}
use Rattle.turn_lock.specs.History.{calls_of, entry}
use Rattle.turn_lock.specs.Known.{Known, Made}
use Rattle.operation_model.specs.declared.operations.Op.{Op}
use Rattle.operation_model.specs.declared.replies.Halt.{Halt}
use Rattle.operation_model.specs.declared.replies.Reply.{Reply}
use Rattle.operation_model.specs.declared.replies.Reply.TheVariants.{Halted}
use Rattle.operation_model.specs.Answers.{IsCourse}
use Rattle.operation_model.specs.Openings.{IsSoundOpening, Opening}
use Rattle.operation_model.specs.Turns.{Calls}
use Rattle.world_object.specs.State.{ClusterState, as_opening}

-- what a pass of a cluster's lock knows
abbrev pub Knows : Type 0
Knows = Known ClusterState Op Reply

-- the reply to the last call
abbrev pub last_reply : Calls → Option Reply
last_reply [] = None
last_reply (e ∷ earlier) = Some e.reply

-- the pass is one of the lock, which was made with a sound cluster
pub record CanAsk (lock : Made ClusterState) (pass : Knows) : Type 0 where
  pub lock_is : pass.origin ≡ lock.origin
  pub sound : IsSoundOpening (as_opening lock.start)

-- the pass may have made calls, and is the same else
abbrev pub IsSame : Knows → Knows → Type 0
IsSame old new = new ≡ record old { seen = new.seen; own = new.own }

-- the pass made this call: it is the last of its own, which are those of a course
pub record IsAsked (o : Opening) (op : Op) (r : Reply) (old new : Knows) : Type 0 where
  pub same : IsSame old new
  pub own : new.own ≡ entry old.number op r ∷ old.own
  pub calls : calls_of new.number new.seen ≡ new.own
  pub course : IsCourse o new.seen
  pub last : (earlier : Calls) × (new.seen ≡ entry old.number op r ∷ earlier)

-- the reply, where a halt is an error
abbrev pub reply_in : Result Reply Halt → Reply
reply_in (Ok r) = r
reply_in (Err halt) = Halted halt

-- the cluster has not halted
abbrev pub IsNoHalt : Reply → Type 0
IsNoHalt (Halted halt) = ⊥
IsNoHalt r = Unit {0}
