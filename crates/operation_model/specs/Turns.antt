-- The turn that a pass has open, and what it may do next in it.
use Rattle.std.specs.Prelude.{ℕ, ◌≡◌, List, [], ◌∷◌, ◌++◌, Option, Some, None, option_to_list}
use Rattle.crgc_ids.specs.Actor.{Actor}
use Rattle.turn_lock.specs.declared.object.Entry.{Entry}
use Rattle.behaviour_lang.specs.Bound.{Names, local_names, names_at_start}
use Rattle.behaviour_lang.specs.Steps.{Left, left, visible, whole}
use Rattle.behaviour_lang.specs.TurnState.{instrs_of}
use Rattle.behaviour_lang.specs.declared.act.Act.{Act}
use Rattle.behaviour_lang.specs.declared.code.Behaviour.{Behaviour}
use Rattle.operation_model.specs.declared.operations.Op.{Op}
use Rattle.operation_model.specs.declared.replies.Reply.{Reply}
use Rattle.operation_model.specs.Deeds.{Begun, Deed, woke, took, acted, rested, deed_of}

-- calls of a cluster, the newest first
abbrev pub Calls : Type 0
Calls = List (Entry Op Reply)

-- a turn that has begun and not ended: with what it began, the acts that were done, in order, and the children that were born
pub record Open : Type 0 where
  pub begun : Begun
  pub acts : List Act
  pub children : List Actor

abbrev pub fresh : Begun → Open
fresh b = record { begun = b; acts = []; children = [] }

-- one act more was done, with that child
abbrev pub with_act : Act → Option Actor → Open → Open
with_act act child t = record {
  begun = t.begun;
  acts = t.acts ++ act ∷ [];
  children = t.children ++ option_to_list child;
}

abbrev pub grown : Act → Option Actor → Option Open → Option Open
grown act child None = None
grown act child (Some t) = Some (with_act act child t)

-- what a deed of the pass does to the turn that it has open
abbrev pub turn_after : Deed → Option Open → Option Open
turn_after (woke b) t = Some (fresh b)
turn_after (took b) t = Some (fresh b)
turn_after (acted a act child) t = grown act child t
turn_after (rested a locals) t = None
turn_after d t = t

-- the turn that a pass has open after its calls: the one that it began last, if that did not end
abbrev pub open_turn : Calls → Option Open
open_turn [] = None
open_turn (e ∷ earlier) = turn_after (deed_of e.op e.reply) (open_turn earlier)

-- the turn from its beginning
abbrev pub turn_left : List Behaviour → Begun → Left
turn_left code b = left (instrs_of code b.behaviour b.list) (names_at_start b.refs b.locals) b.root

-- the acts of the whole turn, as far as its children were born, and the names that are bound then
abbrev pub turn_of : List Behaviour → Open → List Act × Names
turn_of code t = visible (whole (turn_left code t.begun) t.children)

-- with more children the turn begins with the acts that it has without them
abbrev pub Grows : Left → List Actor → List Actor → Type 0
Grows l children more =
    (later : List Act)
    × (let longer = visible (whole l (children ++ more)) in let o = visible (whole l children) in longer.0 ≡ o.0 ++ later)

-- the act is the next one of the actor's turn
abbrev pub IsNextAct : List Behaviour → Actor → Act → Open → Type 0
IsNextAct code a act t =
    (let b = t.begun in b.actor ≡ a) × ((more : List Act) × (let whole_turn = turn_of code t in whole_turn.0 ≡ t.acts ++ act ∷ more))

-- the actor's turn is done, and it keeps these names
abbrev pub IsWholeTurn : List Behaviour → Actor → List (List ℕ × Actor) → Open → Type 0
IsWholeTurn code a locals t =
    (let b = t.begun in b.actor ≡ a)
    × (let whole_turn = turn_of code t in whole_turn.0 ≡ t.acts)
    × (let whole_turn = turn_of code t in whole_turn.1 ≡ local_names locals)

-- the pass has a turn open, of which that holds
abbrev pub IfOpen : (Open → Type 0) → Option Open → Type 0
IfOpen P None = ⊥
IfOpen P (Some t) = P t
