-- What an operation makes of the parts of a cluster.
use Rattle.std.specs.Prelude.{ℕ, ◌≡◌, ◌++◌, List, [], get_or, Option, Some, None}
use Rattle.history_model.specs.declared.events.Event.{Event}
use Rattle.history_model.specs.Rows.{onto}
use Rattle.operation_model.specs.declared.operations.Op.{Op}
use Rattle.operation_model.specs.declared.replies.Halt.{Halt}
use Rattle.operation_model.specs.declared.replies.Halt.TheVariants.{Limit, Memory}
use Rattle.operation_model.specs.declared.replies.Reply.{Reply}
use Rattle.operation_model.specs.Answers.{IsGranted, MayFollow, PassesLimit, refused}
use Rattle.operation_model.specs.Courses.{claim_after, events_by, verdict_of}
use Rattle.operation_model.specs.Deeds.{deed_of}
use Rattle.world_object.specs.declared.parts.ClusterParts.{ClusterParts}
use Rattle.world_object.specs.Standing.{opening_of}

-- why the operation is not done, if it is not
abbrev pub refused_by : ClusterParts → Op → Option Reply
refused_by p op = (let o = opening_of p in refused o.script o.claims op o.past)

-- the events follow, and the world has them; nothing else changed
pub record Happens (events : List Event) (old new : ClusterParts) : Type 0 where
  pub follow : MayFollow old.script.value events old.world.past
  pub cluster : new.world.cluster ≡ old.world.cluster
  pub past : new.world.past ≡ onto old.world.past events
  pub others : new ≡ record old { world = new.world }

-- the events follow, and the world has them; script, claims, halt and verdicts are as before
pub record Makes (events : List Event) (old new : ClusterParts) : Type 0 where
  pub follow : MayFollow old.script.value events old.world.past
  pub past : new.world.past ≡ onto old.world.past events
  pub script : new.script.value ≡ old.script.value
  pub claims : new.claims ≡ old.claims
  pub halt : new.halt ≡ old.halt
  pub verdicts : new.verdicts ≡ old.verdicts

-- why a cluster halts before these events: one of them would pass the limit; want of memory says nothing
abbrev pub HaltsBefore : ClusterParts → List Event → Halt → Type 0
HaltsBefore p events (Limit limit) = PassesLimit p.script.value limit events p.world.past
HaltsBefore p events Memory = Unit {0}

-- the operation is granted, with this reply
abbrev pub Grants : ClusterParts → Op → Reply → Type 0
Grants p op r = (let o = opening_of p in IsGranted o [] op o.past r)

-- the events of the operation where it has this reply
abbrev pub events_of : ClusterParts → Op → Reply → List Event
events_of p op r = events_by p.script.value (deed_of op r) p.world.past

-- the operation is granted with this reply, and its events happen
pub record IsDone (op : Op) (old new : ClusterParts) (r : Reply) : Type 0 where
  pub granted : Grants old op r
  pub makes : Makes (events_of old op r) old new

-- the events of the operation would pass the limit
abbrev pub Halts : ClusterParts → Op → Halt → Type 0
Halts p op (Limit limit) = (r : Reply) × Grants p op r × PassesLimit p.script.value limit (events_of p op r) p.world.past
Halts p op Memory = Unit {0}

-- the claim of the node is the pass's now, and the others are as before
pub record IsClaimed (node pass : ℕ) (old new : List (Option ℕ)) : Type 0 where
  pub own : get_or new node None ≡ Some pass
  pub others : (n : ℕ) → (n ≡ node → ⊥) → get_or new n None ≡ get_or old n None

-- the operation of the pass is granted with this reply, and its events happen; a claim is noted, and the verdict of a sweep is kept
pub record IsGrantedTo (pass : ℕ) (op : Op) (old new : ClusterParts) (r : Reply) : Type 0 where
  pub granted : Grants old op r
  pub follow : MayFollow old.script.value (events_of old op r) old.world.past
  pub past : new.world.past ≡ onto old.world.past (events_of old op r)
  pub script : new.script.value ≡ old.script.value
  pub claims : (n : ℕ) → get_or new.claims n None ≡ claim_after (deed_of op r) pass n (get_or old.claims n None)
  pub halt : new.halt ≡ old.halt
  pub verdicts : new.verdicts ≡ verdict_of (deed_of op r) ++ old.verdicts
