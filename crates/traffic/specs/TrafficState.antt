-- What contracts see of the traffic between actors, and how it is read.
use Rattle.std.specs.Prelude.{ℕ, List, Option}
use Rattle.std.specs.Option.{option_map}
use Rattle.crgc_ids.specs.Actor.{Actor}
use Rattle.link_table.specs.declared.piles.Envelope.{Envelope}
use Rattle.link_table.specs.declared.piles.Pile.{Pile}
use Rattle.link_table.specs.LinkState.{LinkState}
use Rattle.link_table.specs.Piled.{message_in, pile_at}
use Rattle.link_table.specs.Table.{link_at}
use Rattle.mail_laws.specs.Standing.{Boxes}
use Rattle.traffic.specs.Loads.{Loads}

-- how many nodes the cluster has, which are up and how many live messages go to each, the links, the messages that wait
-- for each actor, and the actors that may take one
pub record TrafficState : Type 0 where
  pub nodes : ℕ
  pub loads : Loads
  pub links : List LinkState
  pub boxes : Boxes
  pub ready : List Actor

-- the link from s to d, and the copies and the message of number k on it
abbrev pub link_of : TrafficState → ℕ → ℕ → LinkState
link_of t s d = link_at t.links s d

abbrev pub pile_on : TrafficState → ℕ → ℕ → ℕ → Option Pile
pile_on t s d k = pile_at (link_of t s d).piles k

-- the message of number k, while a copy of it is on the link and none was admitted
abbrev pub message_on : TrafficState → ℕ → ℕ → ℕ → Option Envelope
message_on t s d k = message_in (pile_on t s d k)

-- the actor to which it goes
abbrev pub recipient_on : TrafficState → ℕ → ℕ → ℕ → Option Actor
recipient_on t s d k = option_map (λ (m : Envelope). m.to) (message_on t s d k)
