-- How the collector of a pass goes on with the calls of that pass.
use Rattle.std.specs.Prelude.{ℕ, ◌≡◌, ◌≢◌, ◌<◌, ◌++◌, [], ◌∷◌, Bool, true, false, Option, Some, None}
use Rattle.turn_lock.specs.History.{calls_of}
use Rattle.turn_lock.specs.Known.{Made}
use Rattle.run_model.specs.Doing.{cluster_of}
use Rattle.operation_model.specs.declared.operations.Op.TheVariants as ops
use Rattle.operation_model.specs.declared.replies.Reply.{Reply}
use Rattle.operation_model.specs.declared.replies.Reply.TheVariants as replies
use Rattle.operation_model.specs.Answers.{IsCourse}
use Rattle.operation_model.specs.Hands.{given_since}
use Rattle.operation_model.specs.Openings.{IsNew}
use Rattle.operation_model.specs.Turns.{Calls}
use Rattle.collector.specs.Collected.{Collected, cut_of, node_count}
use Rattle.collector.specs.Taking.{IsTaken, Takes}
use Rattle.node_collectors.specs.Standing.{IsRead}
use Rattle.collected_calls.specs.Collecting.{IsCollectorOf}
use Rattle.world_object.specs.State.{ClusterState, as_opening}
use Rattle.cluster_calls.specs.Calling.{CanAsk, Knows}
use Rattle.node_threads.specs.Questions.{AsksNothing}
use Rattle.node_threads.specs.Collecting.{HasDropped, HasEnd, HasEnds, IsDown}
use Rattle.crgc_ids.specs.declared.limits.TheConstants.{MOST_EVENTS}

-- the pass is one of the lock, which was made with the cluster of a script, and its calls are those of a course; the collector goes
-- with them
pub record CanCollect (lock : Made ClusterState) (pass : Knows) (c : Collected) : Type 0 where
  pub may : CanAsk lock pass
  pub opening : IsNew (as_opening lock.start)
  pub calls : calls_of pass.number pass.seen ≡ pass.own
  pub course : IsCourse (as_opening lock.start) pass.seen
  pub collector : (let start = lock.start in IsCollectorOf (cluster_of start.script) pass.own c)
  pub dropped : HasDropped c

-- the pass made calls since, of which that holds, and its collector went with them
pub record Goes (lock : Made ClusterState) (old new : Knows) (before after : Collected) (P : Calls → Type 0) : Type 0 where
  pub can : CanCollect lock new after
  pub node : after.node ≡ before.node
  pub calls : Calls
  pub own : new.own ≡ calls ++ old.own
  pub has : P calls

-- or it ended, since the node is down
pub record Ends (lock : Made ClusterState) (new : Knows) (before after : Collected) : Type 0 where
  pub node : after.node ≡ before.node
  pub down : (let start = lock.start in IsDown start.script new after)
  pub dropped : HasDropped after

abbrev pub GoesOrEnds : Made ClusterState → Knows → Knows → Collected → Collected → (Bool → Calls → Type 0) → Option Bool → Type 0
GoesOrEnds lock old new before after P None = Ends lock new before after
GoesOrEnds lock old new before after P (Some any) = Goes lock old new before after (P any)

-- ---- hands

-- the calls are hands to the node
abbrev pub AreHands : ℕ → Calls → Type 0
AreHands node [] = Unit {0}
AreHands node (e ∷ earlier) = ((o k : ℕ) × (e.op ≡ ops.Hand node o k)) × AreHands node earlier

-- no more bulletins are folded than were, but of this origin
abbrev pub KeepsOthers : ℕ → Collected → Collected → Type 0
KeepsOthers origin before after = (o : ℕ) → o ≢ origin → cut_of after o ≡ cut_of before o

-- the calls are hands of that origin's bulletins to the collector's node; whether any bulletin was given
pub record AreFetched (origin : ℕ) (before after : Collected) (any : Bool) (calls : Calls) : Type 0 where
  pub hands : AreHands after.node calls
  pub given : given_since after.node calls ≡ any
  pub others : KeepsOthers origin before after

-- one was fetched, or there is none
abbrev pub IsFetched : ℕ → Collected → Collected → Bool → Calls → Type 0
IsFetched origin before after more calls = AreFetched origin before after more calls × (more ≡ false → HasEnd origin after calls)

-- all that are there were fetched
abbrev pub AllAreFetched : ℕ → Collected → Collected → Bool → Calls → Type 0
AllAreFetched origin before after any calls = AreFetched origin before after any calls × HasEnd origin after calls

-- where the cluster has such a node
abbrev pub AreFetchedIfNode : ℕ → Collected → Collected → Bool → Calls → Type 0
AreFetchedIfNode origin before after any calls =
    AreFetched origin before after any calls × (origin < node_count after → HasEnd origin after calls)

-- the calls are hands to the collector's node, and all that is there of each origin with a lower number was fetched
pub record EachIsFetched (below : ℕ) (after : Collected) (any : Bool) (calls : Calls) : Type 0 where
  pub hands : AreHands after.node calls
  pub given : given_since after.node calls ≡ any
  pub ends : HasEnds below after calls

-- what comes of the answer to a hand: a bulletin is taken; or there is none; or the node is down
abbrev pub IsFolded : ℕ → ℕ → Reply → Collected → Collected → Option Bool → Type 0
IsFolded o k (replies.Bytes bytes) old new more = (more ≡ Some true) × Takes o k bytes old new × IsTaken o k new
IsFolded o k (replies.Down n) old new more = (more ≡ None) × (new ≡ old)
IsFolded o k r old new more = (more ≡ Some false) × (new ≡ old)

-- bytes can be taken under the number, and are read
abbrev pub CanFold : ℕ → ℕ → ℕ → Reply → Type 0
CanFold nodes o k (replies.Bytes bytes) = (k < MOST_EVENTS) × IsRead nodes o bytes
CanFold nodes o k r = Unit {0}

-- ---- sweeps

-- after these calls nothing that was given for the node before waits for its sweep
abbrev pub Clears : ℕ → Calls → Type 0
Clears node calls = (earlier : Calls) → given_since node (calls ++ earlier) ≡ false

-- the calls sweep, and ask nothing; no more bulletins are folded than were
pub record AreSweeps (before after : Collected) (any : Bool) (calls : Calls) : Type 0 where
  pub asks : AsksNothing calls
  pub clears : Clears after.node calls
  pub cuts : (o : ℕ) → cut_of after o ≡ cut_of before o

-- a round: all that is there of each origin was fetched, and what was given is swept
pub record IsRound (after : Collected) (any : Bool) (calls : Calls) : Type 0 where
  pub asks : AsksNothing calls
  pub ends : HasEnds 16 after calls
  pub swept : given_since after.node calls ≡ false
