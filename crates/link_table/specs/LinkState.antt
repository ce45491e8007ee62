-- What contracts see of one link, and how its calls change it.
use Rattle.std.specs.Prelude.{◌≡◌, ◌+◌, ◌<◌, ◌^◌, ℕ, Bool, true, false, List, [], Option, Some, None}
use Rattle.std.specs.List.{count_by}
use Rattle.crgc_ids.specs.Actor.{Actor, same_actor}
use Rattle.ingress_gateway.specs.Admission.{Admits}
use Rattle.ingress_gateway.specs.Gate.{Gate, emptied, is_admitted}
use Rattle.ingress_gateway.specs.Pending.{carried_count, message_count}
use Rattle.link_table.specs.declared.piles.Envelope.{Envelope}
use Rattle.link_table.specs.declared.piles.Pile.{Pile}
use Rattle.link_table.specs.Piled.{ChangesPile, fewer, message_in, more, pile_at, stripped}

-- whether it is open, how many messages were sent, the receiving gate, and the piles of copies by their numbers
pub record LinkState : Type 0 where
  pub is_open : Bool
  pub sent : ℕ
  pub gate : Gate
  pub piles : List (ℕ × Pile)

-- the open link from s to d, on which nothing was sent
pub record IsNewLink (l : LinkState) (s d : ℕ) : Type 0 where
  pub ends : (l.gate.from ≡ s) × (l.gate.at ≡ d)
  pub state : (l.is_open ≡ true) × (l.sent ≡ 0) × (l.piles ≡ [])
  pub numbers : (k : ℕ) → is_admitted l.gate k ≡ false
  pub admitted : (l.gate.messages ≡ []) × (l.gate.carried ≡ [])

-- the link as the node at its end leaves it when it crashes
abbrev pub abandoned : LinkState → LinkState
abandoned l = record l { is_open = false; piles = [] }

-- the link after what was admitted went into a window
abbrev pub cut : LinkState → LinkState
cut l = record l { gate = emptied l.gate }

-- the link as the node at its end leaves it when it removes the other
abbrev pub closed : LinkState → LinkState
closed l = record l { is_open = false; gate = record (emptied l.gate) { is_closed = true }; piles = [] }

-- one number changed its pile to this one
pub record IsMoved (old new : LinkState) (number : ℕ) (pile : Option Pile) : Type 0 where
  pub link : (new.is_open ≡ old.is_open) × (new.sent ≡ old.sent)
  pub piles : ChangesPile old.piles new.piles number pile

-- a copy of the number was lost, or came again
abbrev pub Loses : LinkState → LinkState → ℕ → Type 0
Loses old new number = IsMoved old new number (fewer (pile_at old.piles number)) × (new.gate ≡ old.gate)

abbrev pub Repeats : LinkState → LinkState → ℕ → Type 0
Repeats old new number = IsMoved old new number (more (pile_at old.piles number)) × (new.gate ≡ old.gate)

-- the message got the next number, and its first copy is there if the link is open
pub record Sends (old new : LinkState) (message : Envelope) : Type 0 where
  pub link : (new.is_open ≡ old.is_open) × (new.gate ≡ old.gate)
  pub number : new.sent ≡ old.sent + 1
  pub opened : old.is_open ≡ true → ChangesPile old.piles new.piles old.sent (Some (record { copies = 1; message = Some message }))
  pub shut : old.is_open ≡ false → new.piles ≡ old.piles

abbrev pub SendsTo : LinkState → LinkState → Actor → List Actor → Type 0
SendsTo old new to refs = Sends old new (record { to = to; refs = refs })

-- what the gate becomes by the message that comes to it, or by none
abbrev pub GateAdmits : Gate → Gate → ℕ → Option Envelope → Type 0
GateAdmits old new number None = (is_admitted old number ≡ true) × (new ≡ old)
GateAdmits old new number (Some m) = (is_admitted old number ≡ false) × Admits old new number m.to m.refs

-- a copy came to the gate: the message was admitted with the first one
pub record Admitted (old new : LinkState) (number : ℕ) : Type 0 where
  pub moved : IsMoved old new number (fewer (stripped (pile_at old.piles number)))
  pub gate : GateAdmits old.gate new.gate number (message_in (pile_at old.piles number))

-- the counts of the next window fit 32 bits with the message
abbrev pub FitsGate : Gate → Option Envelope → Type 0
FitsGate gate None = Unit {0}
FitsGate gate (Some m) =
    (message_count m.to gate.messages + 1 < 2 ^ 32)
    × ((a : Actor) → carried_count m.to a gate.carried + count_by (same_actor a) m.refs < 2 ^ 32)
