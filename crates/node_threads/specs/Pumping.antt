-- What a pump has done for its node.
use Rattle.std.specs.Prelude.{ℕ, ◌≡◌, ◌≢◌, ◌<◌, ◌==◌, ◌++◌, Bool, true, false, if◌then◌else◌, Option, Some, None}
use Rattle.operation_model.specs.declared.operations.Op.{Op}
use Rattle.operation_model.specs.declared.operations.Op.TheVariants as ops
use Rattle.operation_model.specs.declared.replies.Reply.{Reply}
use Rattle.operation_model.specs.declared.replies.Reply.TheVariants as replies
use Rattle.operation_model.specs.Turns.{Calls}
use Rattle.cluster_calls.specs.Calling.{last_reply}
use Rattle.node_threads.specs.Questions.{AsksNothing, IsMade}

-- among the calls is a carry of each link that leads to the node from one with a lower number than this
abbrev pub HasCarries : ℕ → ℕ → Calls → Type 0
HasCarries node below calls = (f : ℕ) → f < below → f ≢ node → IsMade (ops.Carry f node) calls

-- among the calls is all that a pump does for its node
pub record HasAll (node : ℕ) (calls : Calls) : Type 0 where
  pub carries : HasCarries node 16 calls
  pub window : IsMade (ops.Window node) calls
  pub removal : IsMade (ops.Remove node) calls
  pub publish : IsMade (ops.Publish node) calls

-- the last call was answered that the node is down
abbrev pub EndsDown : ℕ → Calls → Type 0
EndsDown node own = last_reply own ≡ Some (replies.Down node)

-- ---- rounds

-- the operation fits after every history, and it is no question
abbrev pub IsFree : Op → Type 0
IsFree (ops.Publish n) = Unit {0}
IsFree (ops.Window d) = Unit {0}
IsFree (ops.Remove d) = Unit {0}
IsFree (ops.Carry f d) = Unit {0}
IsFree op = ⊥

-- whether the operation was done; None where the node is down
abbrev pub done_by : ℕ → Reply → Option Bool
done_by node replies.Done = Some true
done_by node (replies.Down n) = if n == node then None else Some false
done_by node r = Some false

-- the calls that the pass made since ask nothing, and have this
abbrev pub Since : (Calls → Type 0) → Calls → Calls → Type 0
Since P old new = (calls : Calls) × (new ≡ calls ++ old) × AsksNothing calls × P calls

-- so it is, or the node is down
abbrev pub SinceOrDown : ℕ → (Calls → Type 0) → Calls → Calls → Option Bool → Type 0
SinceOrDown node P old new None = EndsDown node new
SinceOrDown node P old new (Some any) = Since P old new

abbrev pub HasPublish : ℕ → Calls → Type 0
HasPublish node calls = IsMade (ops.Publish node) calls

abbrev pub HasRemoval : ℕ → Calls → Type 0
HasRemoval node calls = IsMade (ops.Remove node) calls × HasPublish node calls

abbrev pub HasWindow : ℕ → Calls → Type 0
HasWindow node calls = IsMade (ops.Window node) calls × HasRemoval node calls
