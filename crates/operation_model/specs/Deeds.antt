-- Deeds: what an operation did, by what it asked and what it was answered.
use Rattle.std.specs.Prelude.{ℕ, Bool, List, Option, Some, None}
use Rattle.crgc_ids.specs.Actor.{Actor}
use Rattle.history_model.specs.declared.records.Verdict.{Verdict}
use Rattle.behaviour_lang.specs.declared.act.Act.{Act}
use Rattle.behaviour_lang.specs.declared.act.List.{List as Which}
use Rattle.operation_model.specs.declared.operations.Op.{Op}
use Rattle.operation_model.specs.declared.operations.Op.TheVariants as ops
use Rattle.operation_model.specs.declared.replies.Reply.{Reply}
use Rattle.operation_model.specs.declared.replies.Reply.TheVariants as replies

-- with what a turn begins: the actor, by which list of which behaviour it runs, the names that it kept, the references of the
-- message, and whether it is a root
pub record Begun : Type 0 where
  pub actor : Actor
  pub behaviour : ℕ
  pub list : Which
  pub locals : List (List ℕ × Actor)
  pub refs : List Actor
  pub root : Bool

-- the answer that tells it
abbrev pub turn_reply : Begun → Reply
turn_reply b = replies.Turn b.actor b.behaviour b.list b.locals b.refs b.root

pub data Deed : Type 0 where
  -- a turn began, by a planned wake or with a message
  woke : Begun → Deed
  took : Begun → Deed
  -- an act of the actor's turn was done, with the child that was born, if any
  acted : Actor → Act → Option Actor → Deed
  -- the actor's turn ended, and it keeps these names
  rested : Actor → List (List ℕ × Actor) → Deed
  flushed : Actor → Deed
  published : ℕ → Deed
  -- the node cut a window, or removed a node
  cut : ℕ → Deed
  removed : ℕ → Deed
  -- what is planned on the link happened
  carried : ℕ → ℕ → Deed
  claimed : ℕ → Deed
  -- these bytes, of that number of the origin's bulletins, were given for the node's collector
  handed : ℕ → ℕ → ℕ → List ℕ → Deed
  swept : Verdict → Deed
  -- nothing was left to do
  was_over : Deed
  -- nothing was done
  nothing : Deed

abbrev pub if_done : Deed → Reply → Deed
if_done d replies.Done = d
if_done d r = nothing

abbrev pub woke_by : Reply → Deed
woke_by (replies.Turn a b list locals refs root) =
    woke (record { actor = a; behaviour = b; list = list; locals = locals; refs = refs; root = root })
woke_by r = nothing

abbrev pub took_by : Reply → Deed
took_by (replies.Turn a b list locals refs root) =
    took (record { actor = a; behaviour = b; list = list; locals = locals; refs = refs; root = root })
took_by r = nothing

abbrev pub acted_by : Actor → Act → Reply → Deed
acted_by a act (replies.Born c) = acted a act (Some c)
acted_by a act replies.Done = acted a act None
acted_by a act r = nothing

abbrev pub handed_by : ℕ → ℕ → ℕ → Reply → Deed
handed_by n o k (replies.Bytes bytes) = handed n o k bytes
handed_by n o k r = nothing

abbrev pub over_by : Reply → Deed
over_by replies.AllDone = was_over
over_by r = nothing

-- what was done
abbrev pub deed_of : Op → Reply → Deed
deed_of (ops.Claim n) r = if_done (claimed n) r
deed_of ops.Wake r = woke_by r
deed_of (ops.Take a) r = took_by r
deed_of (ops.Act a act) r = acted_by a act r
deed_of (ops.Rest a locals) r = if_done (rested a locals) r
deed_of (ops.Flush a) r = if_done (flushed a) r
deed_of (ops.Publish n) r = if_done (published n) r
deed_of (ops.Window d) r = if_done (cut d) r
deed_of (ops.Remove d) r = if_done (removed d) r
deed_of (ops.Carry f d) r = if_done (carried f d) r
deed_of (ops.Hand n o k) r = handed_by n o k r
deed_of (ops.Sweep v) r = if_done (swept v) r
deed_of ops.GiveUp r = nothing
deed_of (ops.Refill skip) r = nothing
deed_of ops.Finished r = over_by r
