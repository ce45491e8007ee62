-- What a collecting thread has done for its node.
use Rattle.std.specs.Prelude.{ℕ, ◌≡◌, ◌<◌, ◌⊎◌, ◌++◌, [], ◌∷◌, true, false, Some}
use Rattle.crgc_ids.specs.Actor.{Actor}
use Rattle.run_model.specs.Doing.{cluster_of}
use Rattle.script_reader.specs.Valid.{Scripted}
use Rattle.operation_model.specs.declared.operations.Op.{Op}
use Rattle.operation_model.specs.declared.operations.Op.TheVariants as ops
use Rattle.operation_model.specs.declared.replies.Reply.{Reply}
use Rattle.operation_model.specs.declared.replies.Reply.TheVariants as replies
use Rattle.operation_model.specs.Hands.{given_since}
use Rattle.operation_model.specs.Turns.{Calls}
use Rattle.collector.specs.Collected.{Collected, cut_of, node_count, was_stopped}
use Rattle.shadow_graph.specs.Seen.{is_dropped}
use Rattle.collected_calls.specs.Collecting.{IsCollectorOf, RemembersMore}
use Rattle.cluster_calls.specs.Calling.{Knows, last_reply}
use Rattle.node_threads.specs.Questions.{EndsDone}

-- one of the calls is of the operation, and was answered so
abbrev pub IsAnswered : Op → Reply → Calls → Type 0
IsAnswered op r [] = ⊥
IsAnswered op r (e ∷ earlier) = ((e.op ≡ op) × (e.reply ≡ r)) ⊎ IsAnswered op r earlier

-- the origin's bulletin at the collector's cut was asked for, and there was none
abbrev pub HasEnd : ℕ → Collected → Calls → Type 0
HasEnd o c calls = IsAnswered (ops.Hand c.node o (cut_of c o)) replies.Nothing calls

-- so it is of each origin with a lower number than this
abbrev pub HasEnds : ℕ → Collected → Calls → Type 0
HasEnds below c calls = (o : ℕ) → o < below → o < node_count c → HasEnd o c calls

-- a sweep of the node stands after each bulletin that was given for it by the calls since
abbrev pub AreSwept : ℕ → Calls → Calls → Type 0
AreSwept node old new = (calls : Calls) × (new ≡ calls ++ old) × (given_since node calls ≡ false)

-- the collector has dropped whomever it stopped
abbrev pub HasDropped : Collected → Type 0
HasDropped c = (a : Actor) → was_stopped c a ≡ true → is_dropped c.graph a ≡ true

-- nothing is left to do: the collector goes with the calls of its pass; between the last two questions the pass was told of each
-- origin that it has no bulletin from the collector's cut on; and what it was given since is swept
pub record IsAllCollected (s : Scripted) (old new : Knows) (c : Collected) : Type 0 where
  pub collector : IsCollectorOf (cluster_of s) new.own c
  pub ends : EndsDone new.number (HasEnds 16 c) new.own
  pub swept : AreSwept c.node old.own new.own

-- the collector's node is down, as the last call was answered; the verdict of a last sweep may not have been told
pub record IsDown (s : Scripted) (new : Knows) (c : Collected) : Type 0 where
  pub last : last_reply new.own ≡ Some (replies.Down c.node)
  pub collector : RemembersMore (cluster_of s) new.own c
