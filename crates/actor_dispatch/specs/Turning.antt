-- The turns that a worker has begun, and how far the one that it runs has come.
use Rattle.std.specs.Prelude.{ℕ, ◌≡◌, ◌<◌, ◌==◌, ◌++◌, Bool, true, false, not, List, [], ◌∷◌, length, IsSome, Option, Some, None, is_some}
use Rattle.std.specs.List.{filter}
use Rattle.crgc_ids.specs.Actor.{Actor, same_actor}
use Rattle.crgc_ids.specs.Members.{IsAmong, IsPart}
use Rattle.turn_lock.specs.History.{calls_of}
use Rattle.behaviour_lang.specs.Steps.{step_by_step, visible, whole, with_child}
use Rattle.behaviour_lang.specs.TurnState.{TurnState, is_spawn, left_of}
use Rattle.behaviour_lang.specs.declared.act.Act.{Act}
use Rattle.behaviour_lang.specs.declared.act.Step.TheVariants as steps
use Rattle.operation_model.specs.declared.replies.Reply.{Reply}
use Rattle.operation_model.specs.declared.replies.Reply.TheVariants as replies
use Rattle.operation_model.specs.Deeds.{Deed, woke, took, rested, deed_of}
use Rattle.operation_model.specs.Kept.{IsReached, after_acts, turn_actor}
use Rattle.operation_model.specs.Openings.{Opening}
use Rattle.operation_model.specs.Turns.{Calls, Open, open_turn, turn_left}
use Rattle.actor_dispatch.specs.declared.asking.Short.{Short}
use Rattle.actor_dispatch.specs.declared.asking.Short.TheVariants as shorts
use Rattle.cluster_calls.specs.Calling.{Knows}

-- ---- turns that are left

-- a deed begins the turn of an actor, or ends it
abbrev pub left_by_deed : Deed → List Actor → List Actor
left_by_deed (woke b) actors = b.actor ∷ actors
left_by_deed (took b) actors = b.actor ∷ actors
left_by_deed (rested a locals) actors = filter (λ b. not (same_actor a b)) actors
left_by_deed d actors = actors

-- the turns of a node that is down are lost
abbrev pub left_by_reply : Reply → List Actor → List Actor
left_by_reply (replies.Down n) actors = filter (λ b. not (b.node == n)) actors
left_by_reply r actors = actors

-- the actors whose turns a pass began and did not end, without those on nodes that it was told are down
abbrev pub turns_left : Calls → List Actor
turns_left [] = []
turns_left (e ∷ earlier) = left_by_reply e.reply (left_by_deed (deed_of e.op e.reply) (turns_left earlier))

-- the later calls leave no turn that was not left before
abbrev pub LeavesNone : Calls → Calls → Type 0
LeavesNone old new = IsPart (turns_left new) (turns_left old)

-- nor that of this actor
abbrev pub Loses : Actor → Calls → Calls → Type 0
Loses a old new = (b : Actor) → IsAmong b (turns_left new) → IsAmong b (turns_left old) × (same_actor a b ≡ false)

-- ---- the turn that runs

-- what follows a turn that goes on, or one that is lost
abbrev pub GoesOn : Bool → Type 0 → Type 0 → Type 0
GoesOn true on lost = on
GoesOn false on lost = lost

-- the code's turn is the rest of the one that the pass has open
pub record IsInTurn (o : Opening) (p : Knows) (a : Actor) (t : TurnState) : Type 0 where
  pub calls : calls_of p.number p.seen ≡ p.own
  pub turn : Open
  pub is_open : open_turn p.own ≡ Some turn
  pub actor : turn_actor turn ≡ a
  pub in_code : (let s = o.script in t.behaviour < length s.code)
  pub running : t.ended ≡ false
  pub none_owed : t.owed ≡ None
  pub reached : (let s = o.script in IsReached (turn_left s.code turn.begun) turn.acts turn.children (left_of s.code t))

-- after its acts comes this one, and then the rest of the code's turn
pub record IsDue (o : Opening) (p : Knows) (a : Actor) (act : Act) (t : TurnState) : Type 0 where
  pub calls : calls_of p.number p.seen ≡ p.own
  pub turn : Open
  pub is_open : open_turn p.own ≡ Some turn
  pub actor : turn_actor turn ≡ a
  pub in_code : (let s = o.script in t.behaviour < length s.code)
  pub running : t.ended ≡ false
  pub owed : is_some t.owed ≡ is_spawn (steps.Act act)
  pub next : (let s = o.script in (more : List Actor) → visible (whole (turn_left s.code turn.begun) (turn.children ++ more))
      ≡ after_acts turn.acts (visible (step_by_step (steps.Act act) (left_of s.code t) more)))

-- no act is left of it
pub record IsWhole (o : Opening) (p : Knows) (a : Actor) (t : TurnState) : Type 0 where
  pub calls : calls_of p.number p.seen ≡ p.own
  pub turn : Open
  pub is_open : open_turn p.own ≡ Some turn
  pub actor : turn_actor turn ≡ a
  pub ended : t.ended ≡ true
  pub all : (let s = o.script in visible (whole (turn_left s.code turn.begun) turn.children) ≡ (turn.acts, t.names))

-- where a child was born its birth is owed
abbrev pub OwesIfBorn : Short → Option (List ℕ) → Type 0
OwesIfBorn (shorts.Born child) owed = IsSome owed
OwesIfBorn short owed = Unit {0}

-- what comes of an act by its answer: it goes on, with the child's name bound, or it is lost
abbrev pub IsAfter : Short → Bool → Knows → Knows → TurnState → TurnState → Type 0
IsAfter shorts.Done on p q t now = (on ≡ true) × (q ≡ p) × (now ≡ t)
IsAfter (shorts.Born child) on p q t now =
    (on ≡ true) × (q ≡ p) × (now ≡ record t { names = with_child t.owed child t.names; owed = None })
IsAfter shorts.Down on p q t now = (on ≡ false) × (q ≡ p)
IsAfter shorts.Other on p q t now = ⊥
