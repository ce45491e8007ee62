-- Which operations a pass may make: it depends on what the lock was made with and on the pass's own calls alone.
use Rattle.std.specs.Prelude.{ℕ, ◌≡◌, true, None}
use Rattle.turn_lock.specs.History.{calls_of}
use Rattle.run_model.specs.Doing.{cluster_of}
use Rattle.operation_model.specs.declared.operations.Op.{Op}
use Rattle.operation_model.specs.declared.operations.Op.TheVariants as ops
use Rattle.operation_model.specs.Hands.{IsOwnVerdict, given, given_since, has_claimed}
use Rattle.operation_model.specs.Openings.{IsNew, Opening}
use Rattle.operation_model.specs.Turns.{Calls, IfOpen, IsNextAct, IsWholeTurn, open_turn}

-- the operation fits after these calls of the pass
abbrev pub FitsOwn : Opening → Calls → Op → Type 0
-- an act is the next one of the turn that it has open, and a rest ends that turn
FitsOwn o own (ops.Act a act) = (let s = o.script in IfOpen (IsNextAct s.code a act) (open_turn own))
FitsOwn o own (ops.Rest a locals) = (let s = o.script in IfOpen (IsWholeTurn s.code a locals) (open_turn own))
-- it hands only to nodes that it has claimed, and no bulletin twice
FitsOwn o own (ops.Hand n x k) = (has_claimed n own ≡ true) × (given n x k own ≡ None)
-- it sweeps only for nodes that it has claimed, only where it was given something since, and with the verdict of that
FitsOwn o own (ops.Sweep v) =
    IsNew o × (has_claimed v.node own ≡ true) × (given_since v.node own ≡ true) × IsOwnVerdict (cluster_of o.script) own v
-- all else fits
FitsOwn o own op = Unit {0}

-- the pass may make the operation after the history
abbrev pub Fits : Opening → Calls → Op → ℕ → Type 0
Fits o history op pass = FitsOwn o (calls_of pass history) op
