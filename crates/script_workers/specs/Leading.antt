-- The crew of a lock over a cluster, and the pass that leads it.
use Rattle.std.specs.Prelude.{ℕ, ◌≡◌, ◌+◌, ◌<◌, ◌≤◌, ◌^◌, Bool, true, false, List, [], length, Option, IfSome}
use Rattle.std.specs.List.{list_any}
use Rattle.behaviour_lang.specs.declared.code.Behaviour.{Behaviour}
use Rattle.turn_lock.specs.Known.{Known, Made}
use Rattle.operation_model.specs.declared.operations.Op.{Op}
use Rattle.operation_model.specs.declared.replies.Reply.{Reply}
use Rattle.operation_model.specs.declared.replies.Reply.TheVariants.{AllDone, Halted}
use Rattle.operation_model.specs.Openings.{IsNew, IsSoundOpening}
use Rattle.operation_model.specs.Turns.{Calls}
use Rattle.script_workers.specs.declared.threads.Crew.{Crew}
use Rattle.run_model.specs.Doing.{cluster_of}
use Rattle.turn_lock.specs.History.{calls_of}
use Rattle.collector.specs.Collected.{Collected}
use Rattle.world_object.specs.State.{ClusterState, as_opening}
use Rattle.script_workers.specs.Returned.{AreBack, IsBack}

-- nothing was left to do, or the cluster had halted
abbrev pub ends_work : Reply → Bool
ends_work AllDone = true
ends_work (Halted why) = true
ends_work r = false

-- one of the calls was answered so
abbrev pub has_end : Calls → Bool
has_end calls = list_any (λ e. ends_work e.reply) calls

-- the pass is one of the lock, which was made with a sound cluster
pub record IsOfSound (lock : Made ClusterState) (pass : Known ClusterState Op Reply) : Type 0 where
  pub lock_is : pass.origin ≡ lock.origin
  pub sound : IsSoundOpening (as_opening lock.start)

-- and with a new one of a script with so many nodes
pub record IsOfNew (lock : Made ClusterState) (nodes : ℕ) (pass : Known ClusterState Op Reply) : Type 0 where
  pub of_sound : IsOfSound lock pass
  pub new : IsNew (as_opening lock.start)
  pub nodes_are : (let c = lock.start in let s = c.script in s.nodes) ≡ nodes
  pub few : nodes ≤ 16

-- and the pass has made no call
pub record MayServeNodes (lock : Made ClusterState) (nodes : ℕ) (pass : Known ClusterState Op Reply) : Type 0 where
  pub of_new : IsOfNew lock nodes pass
  pub none : pass.own ≡ []

-- it is the number of one of the crew
abbrev pub IsOfCrew : Crew → ℕ → Type 0
IsOfCrew crew number = number < crew.workers + (crew.nodes + crew.nodes)

-- the pass may serve for the one of the crew with this number; the code is the cluster's
pub record MayServe (lock : Made ClusterState) (code : List Behaviour) (crew : Crew) (number : ℕ) (pass : Known ClusterState Op Reply) : Type 0 where
  pub may : MayServeNodes lock crew.nodes pass
  pub code_is : code ≡ (let c = lock.start in let s = c.script in s.code)
  pub crew_has : IsOfCrew crew number

-- the pass is the first one of the lock, and may split so many more, for the first of a crew with some worker; it took in no calls of
-- the passes to come
pub record MayLead (lock : Made ClusterState) (code : List Behaviour) (crew : Crew) (count : ℕ) (pass : Known ClusterState Op Reply) : Type 0 where
  pub of_new : IsOfNew lock crew.nodes pass
  pub code_is : code ≡ (let c = lock.start in let s = c.script in s.code)
  pub first : pass.number ≡ 0
  pub room : pass.split + count < 2 ^ 32
  pub some : 0 < crew.workers
  pub crew_has : count ≤ crew.workers + (crew.nodes + crew.nodes)
  pub none_later : (p : ℕ) → pass.split < p → calls_of p pass.gathered ≡ []

-- so many passes more were split from it and are joined, and calls of no others; where there are any, one of them came to an end.
-- The collectors came back, each with the calls of one of these passes
pub record HasLed (lock : Made ClusterState) (count : ℕ) (old new : Known ClusterState Op Reply) (cs : List Collected) : Type 0 where
  pub lock_is : new.origin ≡ old.origin
  pub number : new.number ≡ old.number
  pub split : new.split ≡ old.split + count
  pub joined : length new.joined ≡ length old.joined + count
  pub own : new.own ≡ old.own
  pub ended : 0 < count → has_end new.gathered ≡ true
  pub before : (p : ℕ) → p ≤ old.split → calls_of p new.gathered ≡ calls_of p old.gathered
  pub none_later : (p : ℕ) → new.split < p → calls_of p new.gathered ≡ []
  pub back : (let c = lock.start in AreBack (cluster_of c.script) old.split new.gathered cs)

-- the pass has served, and its calls are all its own; that of a worker came to an end, and a collector came back with it
pub record HasServed (lock : Made ClusterState) (crew : Crew) (number : ℕ) (old new : Known ClusterState Op Reply) (c : Option Collected) : Type 0 where
  pub lock_is : new.origin ≡ old.origin
  pub number_is : new.number ≡ old.number
  pub calls : calls_of new.number new.own ≡ new.own
  pub ended : number < crew.workers → has_end new.own ≡ true
  pub back : (let start = lock.start in IfSome c (IsBack (cluster_of start.script) new.own))
