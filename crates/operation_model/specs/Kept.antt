-- What is so at each call of a course: the calls tell of turns, names, behaviours, claims and hands what is so in the world.
use Rattle.std.specs.Prelude.{ℕ, ◌≡◌, Bool, true, false, List, ◌++◌, slice_get, Option, Some, None}
use Rattle.crgc_ids.specs.Actor.{Actor}
use Rattle.turn_lock.specs.History.{calls_of}
use Rattle.history_model.specs.declared.events.Event.{Event}
use Rattle.history_model.specs.Cluster.{Cluster, is_born}
use Rattle.history_model.specs.Folds.{was_handed}
use Rattle.history_model.specs.State.{is_busy}
use Rattle.history_model.specs.Streams.{Notice, stream}
use Rattle.history_model.specs.Sweeps.{is_stopped}
use Rattle.behaviour_lang.specs.Bound.{Names}
use Rattle.behaviour_lang.specs.Steps.{Left, visible, whole}
use Rattle.behaviour_lang.specs.declared.act.Act.{Act}
use Rattle.history_model.specs.declared.records.Verdict.{Verdict}
use Rattle.journal_model.specs.Verdicts.{AreVerdicts}
use Rattle.script_reader.specs.Valid.{Scripted}
use Rattle.run_model.specs.Doing.{Doing, cluster_of, doing}
use Rattle.run_model.specs.Follows.{IsRun, handed_since}
use Rattle.run_model.specs.Planned.{crash_due}
use Rattle.operation_model.specs.Courses.{behaviour_at, claim_at, names_at, verdicts, world}
use Rattle.operation_model.specs.Hands.{Spells, given, given_since, has_claimed, own_stopped}
use Rattle.operation_model.specs.Openings.{Opening}
use Rattle.operation_model.specs.Turns.{Calls, Open, open_turn, turn_left}

-- ---- turns

-- these acts, and then what an outcome has
abbrev pub after_acts : List Act → List Act × Names → List Act × Names
after_acts done o = (done ++ o.0, o.1)

-- after these acts, with these children, the turn l has come to `now`: whatever children are born later
abbrev pub IsReached : Left → List Act → List Actor → Left → Type 0
IsReached l done children now =
    (more : List Actor) → visible (whole l (children ++ more)) ≡ after_acts done (visible (whole now more))

-- the actor of an open turn
abbrev pub turn_actor : Open → Actor
turn_actor t = (let b = t.begun in b.actor)

-- the names of what an actor does
abbrev pub names_of : Doing → Names
names_of d = (let l = d.turn in l.names)

-- the turn is the actor's in the world: it is busy, and its turn has come so far
pub record IsRunning (s : Scripted) (w : List Event) (t : Open) : Type 0 where
  pub busy : is_busy (turn_actor t) w ≡ true
  pub reached : (let d = doing s (turn_actor t) w in IsReached (turn_left s.code t.begun) t.acts t.children d.turn)

module _ (s : Scripted) (w : List Event) (turns : ℕ → Option Open) where
  -- each open turn runs in the world, and no two passes have one actor's; the names of who is in no turn, and all behaviours, are
  -- those of the world
  pub record KeepsTurns (names : Actor → Names) (behaviours : Actor → ℕ) : Type 0 where
    pub running : (p : ℕ) (t : Open) → turns p ≡ Some t → IsRunning s w t
    pub apart : (p q : ℕ) (t u : Open) → turns p ≡ Some t → turns q ≡ Some u → turn_actor t ≡ turn_actor u → p ≡ q
    pub names_are : (a : Actor) → is_born a w ≡ true → is_busy a w ≡ false → names a ≡ names_of (doing s a w)
    pub behaviours_are : (a : Actor) → is_born a w ≡ true → (let d = doing s a w in behaviours a ≡ d.behaviour)

-- ---- claims and hands

-- of each pass: whether it has claimed a node, the bytes that it was given for it, whether it was given any since it swept, and
-- whether its sweeps have stopped an actor; and the verdicts of the sweeps of all passes, the last one first
pub record Hands : Type 0 where
  pub has_claimed : ℕ → ℕ → Bool
  pub given : ℕ → ℕ → ℕ → ℕ → Option (List ℕ)
  pub given_since : ℕ → ℕ → Bool
  pub has_stopped : ℕ → Actor → Bool
  pub verdicts : List Verdict

-- the bytes are those of a bulletin that was handed: it stands in its origin's stream
pub record IsHanded (cl : Cluster) (w : List Event) (n o k : ℕ) (bytes : List ℕ) : Type 0 where
  pub was : was_handed n o k w ≡ true
  pub notice : Notice
  pub stands : slice_get (stream cl o w) k ≡ Some notice
  pub spells : Spells o bytes notice

-- a pass that claimed a node is the one that has claimed it; what was handed to a node was given to that pass, and what a pass was
-- given was handed; where it was given something since its last sweep, something was handed there since the node's last sweep; and
-- the actors of a node that have been stopped are those that this pass has stopped. The verdicts are those of the sweeps
pub record KeepsHands (cl : Cluster) (w : List Event) (claims : ℕ → Option ℕ) (x : Hands) : Type 0 where
  pub claimed_by : (p n : ℕ) → x.has_claimed p n ≡ true → claims n ≡ Some p
  pub handed_by : (n o k : ℕ) → was_handed n o k w ≡ true
      → (p : ℕ) × (claims n ≡ Some p) × ((bytes : List ℕ) × (x.given p n o k ≡ Some bytes))
  pub given_is : (p n o k : ℕ) (bytes : List ℕ) → x.given p n o k ≡ Some bytes → IsHanded cl w n o k bytes
  pub since : (p n : ℕ) → x.has_claimed p n ≡ true → x.given_since p n ≡ true → handed_since n w ≡ true
  pub stops_are : (p : ℕ) (a : Actor) → x.has_claimed p a.node ≡ true → x.has_stopped p a ≡ is_stopped cl a w
  pub none_stopped : (a : Actor) → claims a.node ≡ None → is_stopped cl a w ≡ false
  pub stops_own : (p : ℕ) (a : Actor) → x.has_stopped p a ≡ true → x.has_claimed p a.node ≡ true
  pub verdicts_are : AreVerdicts cl w x.verdicts

-- ---- all of it

-- of each pass the turn that it has open, and what it has done as the collector of nodes
abbrev pub open_turns : Calls → ℕ → Option Open
open_turns h = λ p. open_turn (calls_of p h)

abbrev pub hands_of : Calls → Hands
hands_of h = record {
  has_claimed = λ p n. has_claimed n (calls_of p h);
  given = λ p n o k. given n o k (calls_of p h);
  given_since = λ p n. given_since n (calls_of p h);
  has_stopped = λ p a. own_stopped (calls_of p h) a;
  verdicts = verdicts h;
}

module _ (s : Scripted) (w : List Event) (turns : ℕ → Option Open) where
  -- the world is a run in which no crash is due; and what the calls tell of turns, names, behaviours, claims and hands is so in
  -- the world
  pub record IsKeptIn (names : Actor → Names) (behaviours : Actor → ℕ) (claims : ℕ → Option ℕ) (x : Hands) : Type 0 where
    pub run : IsRun s w
    pub none_due : crash_due s w ≡ None
    pub keeps : KeepsTurns s w turns names behaviours
    pub hands : KeepsHands (cluster_of s) w claims x

abbrev pub IsKept : Opening → Calls → Type 0
IsKept o h = IsKeptIn o.script (world o h) (open_turns h) (names_at o h) (behaviour_at o h) (claim_at o h) (hands_of h)
