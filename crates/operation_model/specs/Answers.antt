-- How each operation is answered, and which courses of calls are right.
use Rattle.std.specs.Prelude.{ℕ, ◌≡◌, ◌⊎◌, ◌==◌, ◌&&◌, ◌||◌, ◌++◌, Bool, not, if◌then◌else◌, nat_lt, unwrap_or, is_none, List, [], ◌∷◌, drop, length, map, slice_get, take, Option, Some, None}
use Rattle.std.specs.List.{filter}
use Rattle.std.specs.Option.{is_some}
use Rattle.crgc_ids.specs.Actor.{Actor}
use Rattle.crgc_ids.specs.declared.Which.{Which}
use Rattle.history_model.specs.declared.events.Event.{Event}
use Rattle.history_model.specs.declared.events.Event.TheVariants as events
use Rattle.history_model.specs.Cluster.{newborn}
use Rattle.history_model.specs.Legal.{has_nothing, refusal}
use Rattle.history_model.specs.Live.{busy_count, is_ready, live_count}
use Rattle.history_model.specs.Messages.{waiting}
use Rattle.history_model.specs.State.{is_busy, is_root, is_up}
use Rattle.history_model.specs.Streams.{Notice, stream}
use Rattle.journal_model.specs.Limits.{limit_passed}
use Rattle.behaviour_lang.specs.Bound.{local_names}
use Rattle.behaviour_lang.specs.declared.act.Act.{Act}
use Rattle.behaviour_lang.specs.declared.act.Act.TheVariants as acts
use Rattle.behaviour_lang.specs.declared.act.List.{List as Lists}
use Rattle.behaviour_lang.specs.declared.act.List.TheVariants as lists
use Rattle.script_reader.specs.Valid.{Scripted}
use Rattle.run_model.specs.Doing.{cluster_of, first_refs}
use Rattle.run_model.specs.Planned.{actors, is_possible, is_within_budget, next_wake, planned}
use Rattle.operation_model.specs.declared.operations.Op.{Op}
use Rattle.operation_model.specs.declared.operations.Op.TheVariants as ops
use Rattle.operation_model.specs.declared.operations.TheConstants.{ACTORS_PER_REFILL}
use Rattle.operation_model.specs.declared.replies.Halt.{Halt}
use Rattle.operation_model.specs.declared.replies.Halt.TheVariants.{Limit, Memory}
use Rattle.operation_model.specs.declared.replies.Reply.{Reply}
use Rattle.operation_model.specs.declared.replies.Reply.TheVariants.{Done, Nothing, Down, Over, NotReady, Claimed, Born, Bytes, Ids, NotYet, AllDone, Halted}
use Rattle.operation_model.specs.declared.replies.Why.TheVariants.{Busy, NoMail}
use Rattle.operation_model.specs.Courses.{behaviour_at, claim_at, events_by, halt_at, names_at, next_carried, next_removal, next_window, world}
use Rattle.operation_model.specs.Deeds.{Begun, deed_of, turn_reply}
use Rattle.operation_model.specs.Fits.{Fits}
use Rattle.operation_model.specs.Hands.{Spells}
use Rattle.operation_model.specs.Openings.{Opening}
use Rattle.operation_model.specs.Turns.{Calls}

-- ---- refusals

-- a reply, and whether it is due
pub record Refusal : Type 0 where
  pub holds : Bool
  pub reply : Reply

abbrev pub when : Bool → Reply → Refusal
when b r = record { holds = b; reply = r }

-- the nodes that an operation names, by themselves or as those of actors
abbrev pub nodes_of : Op → List ℕ
nodes_of (ops.Claim n) = n ∷ []
nodes_of ops.Wake = []
nodes_of (ops.Take a) = a.node ∷ []
nodes_of (ops.Act a act) = a.node ∷ []
nodes_of (ops.Rest a locals) = a.node ∷ []
nodes_of (ops.Flush a) = a.node ∷ []
nodes_of (ops.Publish n) = n ∷ []
nodes_of (ops.Window d) = d ∷ []
nodes_of (ops.Remove d) = d ∷ []
nodes_of (ops.Carry f d) = f ∷ d ∷ []
nodes_of (ops.Hand n o k) = n ∷ o ∷ []
nodes_of (ops.Sweep v) = v.node ∷ []
nodes_of ops.GiveUp = []
nodes_of (ops.Refill skip) = []
nodes_of ops.Finished = []

abbrev pub unknown : ℕ → List ℕ → List Refusal
unknown nodes named = map (λ n. when (not (nat_lt n nodes)) Nothing) named

-- the node has crashed
abbrev pub down : ℕ → List Event → Refusal
down n w = when (not (is_up n w)) (Down n)

-- as many turns have begun as the script allows, or more
abbrev pub over : Scripted → List Event → Refusal
over s w = when (not (is_within_budget s w)) Over

-- the actors that may take a message, rising
abbrev pub ready : Scripted → List Event → List Actor
ready s w = filter (λ a. is_ready a w) (actors s w)

-- something is left to do: an actor is busy; or a turn may still begin, and a message is live or a wake is planned
abbrev pub is_unfinished : Scripted → List Event → Bool
is_unfinished s w =
    not (busy_count (cluster_of s) w == 0)
    || (is_within_budget s w && (not (live_count (cluster_of s) w == 0) || not (planned s w == 0)))

abbrev pub not_yet : Scripted → List Event → Reply
not_yet s w = NotYet (busy_count (cluster_of s) w) (live_count (cluster_of s) w) (planned s w)

-- why the operation is not done, in order; `claims` says who has claimed each node
abbrev pub refusals : Scripted → (ℕ → Option ℕ) → Op → List Event → List Refusal
refusals s claims (ops.Claim n) w = when (is_some (claims n)) (Claimed (unwrap_or (claims n) 0)) ∷ []
refusals s claims ops.Wake w = over s w ∷ when (is_none (next_wake s w)) Nothing ∷ []
refusals s claims (ops.Take a) w =
    down a.node w ∷ over s w ∷ when (is_busy a w) (NotReady Busy) ∷ when (has_nothing (waiting a w)) (NotReady NoMail) ∷ []
refusals s claims (ops.Act a act) w = down a.node w ∷ []
refusals s claims (ops.Rest a locals) w = down a.node w ∷ []
refusals s claims (ops.Flush a) w = down a.node w ∷ when (not (is_possible s (events.Flush a) w)) Nothing ∷ []
refusals s claims (ops.Publish n) w = down n w ∷ when (not (is_possible s (events.Publish n) w)) Nothing ∷ []
refusals s claims (ops.Window d) w = down d w ∷ when (is_none (next_window s d w)) Nothing ∷ []
refusals s claims (ops.Remove d) w = down d w ∷ when (is_none (next_removal s d w)) Nothing ∷ []
refusals s claims (ops.Carry f d) w = when (is_none (next_carried s f d w)) Nothing ∷ []
refusals s claims (ops.Hand n o k) w = down n w ∷ when (not (nat_lt k (length (stream (cluster_of s) o w)))) Nothing ∷ []
refusals s claims (ops.Sweep v) w = down v.node w ∷ []
refusals s claims ops.GiveUp w = []
refusals s claims (ops.Refill skip) w = when (has_nothing (drop skip (ready s w))) Nothing ∷ []
refusals s claims ops.Finished w = when (is_unfinished s w) (not_yet s w) ∷ []

-- the first one that is due
abbrev pub first_refusal : List Refusal → Option Reply
first_refusal [] = None
first_refusal (c ∷ cs) = if c.holds then Some c.reply else first_refusal cs

-- an operation that names a node which the world does not have finds nothing to do
abbrev pub refused : Scripted → (ℕ → Option ℕ) → Op → List Event → Option Reply
refused s claims op w = first_refusal (unknown s.nodes (nodes_of op) ++ refusals s claims op w)

-- ---- what is granted

-- the turn begins with the actor's behaviour and names, by that list and with these references
pub record IsBegun (o : Opening) (h : Calls) (list : Lists) (refs : List Actor) (b : Begun) : Type 0 where
  pub behaviour : b.behaviour ≡ behaviour_at o h b.actor
  pub list_is : b.list ≡ list
  pub names : local_names b.locals ≡ names_at o h b.actor
  pub refs_are : b.refs ≡ refs
  pub root : b.root ≡ is_root b.actor (world o h)

-- the answer to an act: a spawned child is the next actor of its parent's node
abbrev pub act_reply : Actor → Act → List Event → Reply
act_reply a (acts.Spawn b) w = Born (newborn a.node w)
act_reply a (acts.Send t refs) w = Done
act_reply a (acts.Drop t) w = Done
act_reply a acts.Retire w = Done

-- the answer to an operation that is not refused, where w is the world
abbrev pub IsGranted : Opening → Calls → Op → List Event → Reply → Type 0
IsGranted o h (ops.Claim n) w r = r ≡ Done
IsGranted o h ops.Wake w r =
    (b : Begun) × (r ≡ turn_reply b) × (next_wake o.script w ≡ Some b.actor) × IsBegun o h lists.Wake [] b
IsGranted o h (ops.Take a) w r =
    (b : Begun) × (r ≡ turn_reply b) × (b.actor ≡ a) × IsBegun o h lists.Message (first_refs (waiting a w)) b
IsGranted o h (ops.Act a act) w r = r ≡ act_reply a act w
IsGranted o h (ops.Rest a locals) w r = r ≡ Done
IsGranted o h (ops.Flush a) w r = r ≡ Done
IsGranted o h (ops.Publish n) w r = r ≡ Done
IsGranted o h (ops.Window d) w r = r ≡ Done
IsGranted o h (ops.Remove d) w r = r ≡ Done
IsGranted o h (ops.Carry f d) w r = r ≡ Done
IsGranted o h (ops.Hand n x k) w r =
    (bytes : List ℕ) × (m : Notice)
    × (r ≡ Bytes bytes) × (slice_get (stream (cluster_of o.script) x w) k ≡ Some m) × Spells x bytes m
IsGranted o h (ops.Sweep v) w r = r ≡ Done
IsGranted o h ops.GiveUp w r = ⊥
IsGranted o h (ops.Refill skip) w r = r ≡ Ids (take ACTORS_PER_REFILL (drop skip (ready o.script w)))
IsGranted o h ops.Finished w r = r ≡ AllDone

-- ---- events

-- no rule refuses the events, one after another
abbrev pub AreLegal : Scripted → List Event → List Event → Type 0
AreLegal s [] w = Unit {0}
AreLegal s (e ∷ es) w = (refusal (cluster_of s) e w ≡ None) × AreLegal s es (e ∷ w)

-- the events follow one after another: no rule refuses them, and they pass no limit
abbrev pub MayFollow : Scripted → List Event → List Event → Type 0
MayFollow s [] w = Unit {0}
MayFollow s (e ∷ es) w =
    (refusal (cluster_of s) e w ≡ None) × (limit_passed (cluster_of s) e w ≡ None) × MayFollow s es (e ∷ w)

-- the first of them that passes a limit passes this one; no rule refuses it, or those before it
abbrev pub PassesLimit : Scripted → Which → List Event → List Event → Type 0
PassesLimit s limit [] w = ⊥
PassesLimit s limit (e ∷ es) w =
    (refusal (cluster_of s) e w ≡ None)
    × ((limit_passed (cluster_of s) e w ≡ Some limit) ⊎ ((limit_passed (cluster_of s) e w ≡ None) × PassesLimit s limit es (e ∷ w)))

-- ---- answers

abbrev pub Unless : Option Reply → Reply → Type 0 → Type 0
Unless None r granted = granted
Unless (Some refusal) r granted = r ≡ refusal

-- the answer that the operation has, where there is memory and no limit is met
abbrev pub IsAnswer : Opening → Calls → Op → Reply → Type 0
IsAnswer o h op r =
    Unless (refused o.script (claim_at o h) op (world o h)) r (IsGranted o h op (world o h) r)

-- it has that answer, and its events follow
abbrev pub IsMade : Opening → Calls → Op → Reply → Type 0
IsMade o h op r = IsAnswer o h op r × MayFollow o.script (events_by o.script (deed_of op r) (world o h)) (world o h)

-- the events of its answer would pass the limit
abbrev pub WouldPass : Opening → Calls → Op → Which → Type 0
WouldPass o h op limit =
    (r : Reply) × IsAnswer o h op r
    × PassesLimit o.script limit (events_by o.script (deed_of op r) (world o h)) (world o h)

-- the answer of a cluster that has not halted: it makes the operation, or halts at a limit or for want of memory
abbrev pub MayAnswer : Opening → Calls → Op → Reply → Type 0
MayAnswer o h op r =
    IsMade o h op r ⊎ ((limit : Which) × (r ≡ Halted (Limit limit)) × WouldPass o h op limit) ⊎ (r ≡ Halted Memory)

-- a cluster that has halted gives no other answer any more
abbrev pub IsReply : Opening → Calls → Option Halt → Op → Reply → Type 0
IsReply o h (Some why) op r = r ≡ Halted why
IsReply o h None op r = MayAnswer o h op r

-- each call fitted, and was answered so
abbrev pub IsCourse : Opening → Calls → Type 0
IsCourse o [] = Unit {0}
IsCourse o (e ∷ earlier) =
    Fits o earlier e.op e.pass × IsReply o earlier (halt_at o earlier) e.op e.reply × IsCourse o earlier
