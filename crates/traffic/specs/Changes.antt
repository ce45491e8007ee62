-- How the calls of the traffic change it.
use Rattle.std.specs.Prelude.{◌≡◌, ◌+◌, ◌-◌, ◌<◌, ◌&&◌, ◌||◌, not, if◌then◌else◌, nat_lt, drop, length, ℕ, Bool, true, List, [], ◌∷◌, ◌++◌, Option, Some, None}
use Rattle.crgc_ids.specs.Actor.{Actor, same_actor}
use Rattle.link_table.specs.declared.piles.Envelope.{Envelope}
use Rattle.link_table.specs.LinkState.{Admitted, IsNewLink, Loses, Repeats, SendsTo, closed, cut}
use Rattle.link_table.specs.Piled.{kept_count}
use Rattle.link_table.specs.Table.{IsLink, OthersStay, after_crash}
use Rattle.mail_laws.specs.Standing.{ChangesMail}
use Rattle.mailboxes.specs.Mail.{mail_of, room_of}
use Rattle.ready_actors.specs.Ready.{IsLeft, has_actor}
use Rattle.traffic.specs.Loads.{ChangesLive, GoesDown, live_in, up_in}
use Rattle.traffic.specs.TrafficState.{TrafficState, link_of, message_on}

-- ---- parts that stay

abbrev pub SameLinks : TrafficState → TrafficState → Type 0
SameLinks old new = (s d : ℕ) → IsLink s d → link_of new s d ≡ link_of old s d

abbrev pub SameMail : TrafficState → TrafficState → Type 0
SameMail old new = (a : Actor) → mail_of new.boxes a ≡ mail_of old.boxes a

abbrev pub SameReady : TrafficState → TrafficState → Type 0
SameReady old new = (a : Actor) → has_actor new.ready a ≡ has_actor old.ready a

-- all is as it was; reserved room does not count
pub record IsAsBefore (old new : TrafficState) : Type 0 where
  pub nodes : (new.nodes ≡ old.nodes) × (new.loads ≡ old.loads)
  pub links : SameLinks old new
  pub mail : SameMail old new
  pub ready : SameReady old new

-- ---- actors that may take a message

-- the actor is one of them, if so; each other one is where it was
abbrev pub IsReadyIf : Bool → List Actor → List Actor → Actor → Type 0
IsReadyIf test old new b = (a : Actor) → has_actor new a ≡ ((test && same_actor b a) || has_actor old a)

-- the actor is none of them; each other one is where it was
abbrev pub IsNotReady : List Actor → List Actor → Actor → Type 0
IsNotReady old new b = (a : Actor) → has_actor new a ≡ (not (same_actor b a) && has_actor old a)

-- ---- changes

-- nothing waits, nothing is under way, and all nodes are up
pub record IsNewTraffic (t : TrafficState) (nodes : ℕ) : Type 0 where
  pub nodes_are : t.nodes ≡ nodes
  pub loads : (n : ℕ) → (up_in t.loads n ≡ true) × (live_in t.loads n ≡ 0)
  pub links : (s d : ℕ) → IsLink s d → IsNewLink (link_of t s d) s d
  pub empty : (t.boxes ≡ []) × (t.ready ≡ [])

-- the message waits last for its recipient, who may take it if it is idle
pub record Delivers (old new : TrafficState) (to : Actor) (refs : List Actor) (idle : Bool) : Type 0 where
  pub nodes : new.nodes ≡ old.nodes
  pub loads : ChangesLive old.loads new.loads to.node (live_in old.loads to.node + 1)
  pub links : SameLinks old new
  pub mail : ChangesMail old.boxes new.boxes to (mail_of old.boxes to ++ refs ∷ [])
  pub ready : IsReadyIf idle old.ready new.ready to

-- no mail and no ready actor changed
pub record IsOfLinks (old new : TrafficState) : Type 0 where
  pub nodes : new.nodes ≡ old.nodes
  pub boxes : new.boxes ≡ old.boxes
  pub ready : new.ready ≡ old.ready

-- the message is sent on the link, and is live if that is open
pub record SendsOnLink (old new : TrafficState) (s : ℕ) (to : Actor) (refs : List Actor) : Type 0 where
  pub rest : IsOfLinks old new
  pub link : SendsTo (link_of old s to.node) (link_of new s to.node) to refs
  pub others : OthersStay old.links new.links s to.node
  pub loads : ChangesLive old.loads new.loads to.node (live_in old.loads to.node + (if (link_of old s to.node).is_open then 1 else 0))

-- a message between actors of one node waits at once; between two nodes it is sent on the link
abbrev pub SendsMessage : TrafficState → TrafficState → Actor → Actor → List Actor → Bool → Type 0
SendsMessage old new f t refs idle =
    (f.node ≡ t.node → Delivers old new t refs idle) × ((f.node ≡ t.node → ⊥) → SendsOnLink old new f.node t refs)

-- so many messages less are under way on the link, and live
abbrev pub FewerLive : TrafficState → TrafficState → ℕ → ℕ → Type 0
FewerLive old new s d =
    ChangesLive old.loads new.loads d (live_in old.loads d - (kept_count (link_of old s d).piles - kept_count (link_of new s d).piles))

-- a copy is lost; so is its message, where that was the last one, and none was admitted
pub record LosesCopy (old new : TrafficState) (s d k : ℕ) : Type 0 where
  pub rest : IsOfLinks old new
  pub link : Loses (link_of old s d) (link_of new s d) k
  pub others : OthersStay old.links new.links s d
  pub loads : FewerLive old new s d

-- there is one copy more
pub record RepeatsCopy (old new : TrafficState) (s d k : ℕ) : Type 0 where
  pub rest : IsOfLinks old new
  pub link : Repeats (link_of old s d) (link_of new s d) k
  pub others : OthersStay old.links new.links s d
  pub loads : new.loads ≡ old.loads

-- what becomes of the message of a copy that comes: the first time it waits last for its recipient, who may take it if idle
abbrev pub Arrives : TrafficState → TrafficState → Option Envelope → Bool → Type 0
Arrives old new None idle = SameMail old new × SameReady old new
Arrives old new (Some m) idle = ChangesMail old.boxes new.boxes m.to (mail_of old.boxes m.to ++ m.refs ∷ []) × IsReadyIf idle old.ready new.ready m.to

-- a copy comes to the gate
pub record AdmitsCopy (old new : TrafficState) (s d k : ℕ) (idle : Bool) : Type 0 where
  pub nodes : (new.nodes ≡ old.nodes) × (new.loads ≡ old.loads)
  pub link : Admitted (link_of old s d) (link_of new s d) k
  pub others : OthersStay old.links new.links s d
  pub arrives : Arrives old new (message_on old s d k) idle

-- the actor's first message is taken out, and the actor takes no other one
pub record TakesMessage (old new : TrafficState) (a : Actor) : Type 0 where
  pub nodes : new.nodes ≡ old.nodes
  pub links : new.links ≡ old.links
  pub loads : ChangesLive old.loads new.loads a.node (live_in old.loads a.node - 1)
  pub mail : ChangesMail old.boxes new.boxes a (drop 1 (mail_of old.boxes a))
  pub ready : IsNotReady old.ready new.ready a

-- only the actors that may take a message changed
pub record IsOfReady (old new : TrafficState) : Type 0 where
  pub nodes : (new.nodes ≡ old.nodes) × (new.loads ≡ old.loads)
  pub links : new.links ≡ old.links
  pub boxes : new.boxes ≡ old.boxes

-- the actor takes no message until it rests
pub record Wakes (old new : TrafficState) (a : Actor) : Type 0 where
  pub rest : IsOfReady old new
  pub ready : IsNotReady old.ready new.ready a

-- the actor may take a message again, if one waits
pub record Rests (old new : TrafficState) (a : Actor) : Type 0 where
  pub rest : IsOfReady old new
  pub ready : IsReadyIf (nat_lt 0 (length (mail_of old.boxes a))) old.ready new.ready a

-- the node is down: nothing is live there, none of its actors may take a message, and the links to it are abandoned
pub record NodeGoesDown (old new : TrafficState) (n : ℕ) : Type 0 where
  pub nodes : new.nodes ≡ old.nodes
  pub loads : GoesDown old.loads new.loads n
  pub links : (s d : ℕ) → IsLink s d → link_of new s d ≡ after_crash n old.links s d
  pub boxes : new.boxes ≡ old.boxes
  pub ready : IsLeft old.ready new.ready n

-- what was admitted on the link went into a window
pub record CutsWindow (old new : TrafficState) (s d : ℕ) : Type 0 where
  pub rest : IsOfLinks old new
  pub link : link_of new s d ≡ cut (link_of old s d)
  pub others : OthersStay old.links new.links s d
  pub loads : new.loads ≡ old.loads

-- the link is closed, and what was under way there is not live any more
pub record ClosesLink (old new : TrafficState) (s d : ℕ) : Type 0 where
  pub rest : IsOfLinks old new
  pub link : link_of new s d ≡ closed (link_of old s d)
  pub others : OthersStay old.links new.links s d
  pub loads : FewerLive old new s d

-- room is reserved for one more message to the actor, who may take it if it is idle
pub record HasRoomFor (old new : TrafficState) (to : Actor) (idle : Bool) : Type 0 where
  pub nodes : (new.nodes ≡ old.nodes) × (new.loads ≡ old.loads)
  pub links : new.links ≡ old.links
  pub mail : SameMail old new
  pub room : 0 < room_of new.boxes to
  pub ready : IsReadyIf idle old.ready new.ready to
