-- Calls that a worker makes through the lock.
use Rattle.std.specs.Prelude.{◌≡◌}
use Rattle.operation_model.specs.declared.operations.Op.{Op}
use Rattle.operation_model.specs.declared.operations.Op.TheVariants as ops
use Rattle.operation_model.specs.declared.replies.Reply.{Reply}
use Rattle.operation_model.specs.declared.replies.Reply.TheVariants as replies
use Rattle.operation_model.specs.Openings.{Opening}
use Rattle.cluster_calls.specs.Calling.{IsAsked, Knows}
use Rattle.actor_dispatch.specs.declared.asking.Short.{Short}
use Rattle.actor_dispatch.specs.declared.asking.Short.TheVariants as shorts

-- the operation neither begins nor ends a turn
abbrev pub IsQuiet : Op → Type 0
IsQuiet (ops.Flush a) = Unit {0}
IsQuiet (ops.Carry f d) = Unit {0}
IsQuiet (ops.Refill skip) = Unit {0}
IsQuiet ops.Finished = Unit {0}
IsQuiet op = ⊥

-- what a short answer says of the reply
abbrev pub short_of : Reply → Short
short_of replies.Done = shorts.Done
short_of (replies.Born child) = shorts.Born child
short_of (replies.Down n) = shorts.Down
short_of r = shorts.Other

-- the pass made this call, and its reply says so
pub record IsAnswered (o : Opening) (op : Op) (s : Short) (old new : Knows) : Type 0 where
  pub reply : Reply
  pub asked : IsAsked o op reply old new
  pub is : s ≡ short_of reply
