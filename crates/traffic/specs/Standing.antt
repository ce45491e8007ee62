-- What the traffic stands for: what is true of it in a history.
use Rattle.std.specs.Prelude.{◌≡◌, ◌≤◌, ℕ, Bool, true, false, not, List, ◌∷◌, Option, Some, None}
use Rattle.crgc_ids.specs.Actor.{Actor}
use Rattle.history_model.specs.declared.events.Event.{Event}
use Rattle.history_model.specs.declared.events.Event.TheVariants.{Seed, Tie, Wake, Take, Spawn, Send, Drop, Retire, Rest, Flush, Publish, Window, Admit, Lose, Repeat, Crash, Remove, Hand, Sweep}
use Rattle.history_model.specs.Cluster.{Cluster}
use Rattle.history_model.specs.Legal.{IsLegal}
use Rattle.history_model.specs.Live.{is_ready, live_at}
use Rattle.history_model.specs.State.{is_busy, is_up}
use Rattle.link_table.specs.Standing.{StandsFor}
use Rattle.link_table.specs.Table.{IsLink}
use Rattle.mail_laws.specs.Standing.{StandsForMail}
use Rattle.ready_actors.specs.Ready.{has_actor}
use Rattle.traffic.specs.Loads.{live_in, up_in}
use Rattle.traffic.specs.TrafficState.{TrafficState, link_of}

-- the traffic is as the history of the cluster says: which nodes are up, how many live messages go to each, each link, the
-- messages that wait for each actor, and who may take one
pub record IsTrafficOf (cl : Cluster) (h : List Event) (t : TrafficState) : Type 0 where
  pub nodes : t.nodes ≡ cl.nodes
  pub few : cl.nodes ≤ 16
  pub up : (n : ℕ) → up_in t.loads n ≡ is_up n h
  pub live : (n : ℕ) → live_in t.loads n ≡ live_at cl n h
  pub links : (s d : ℕ) → IsLink s d → StandsFor s d h (link_of t s d)
  pub mail : StandsForMail h t.boxes
  pub ready : (a : Actor) → has_actor t.ready a ≡ is_ready a h

-- the traffic that stood for the history stands, as it is now, for the history with the event, if that is legal
abbrev pub Keeps : Cluster → Event → List Event → TrafficState → TrafficState → Type 0
Keeps cl e p old new = IsLegal cl (e ∷ p) → IsTrafficOf cl p old → IsTrafficOf cl (e ∷ p) new

-- for each cluster and each history before the event
abbrev pub AlwaysKeeps : Event → TrafficState → TrafficState → Type 0
AlwaysKeeps e old new = (cl : Cluster) (p : List Event) → Keeps cl e p old new

-- it tells whether the actor is idle, if there is one
abbrev pub TellsIdle : Bool → Option Actor → List Event → Type 0
TellsIdle idle None h = Unit {0}
TellsIdle idle (Some a) h = idle ≡ not (is_busy a h)

-- the same for an event by which a message may come to the actor, where it is told whether that one is idle
abbrev pub KeepsIfTold : Bool → Option Actor → Event → TrafficState → TrafficState → Type 0
KeepsIfTold idle to e old new = (cl : Cluster) (p : List Event) → TellsIdle idle to p → Keeps cl e p old new

-- what is true of each history for which the traffic stands
abbrev pub InHistoriesOf : TrafficState → (List Event → Type 0) → Type 0
InHistoriesOf t P = (cl : Cluster) (h : List Event) → IsTrafficOf cl h t → P h

-- the event touches nothing of the traffic
abbrev pub is_beside : Event → Bool
is_beside (Seed n) = true
is_beside (Tie a b) = true
is_beside (Spawn a) = true
is_beside (Drop a b) = true
is_beside (Retire a) = true
is_beside (Flush a) = true
is_beside (Publish n) = true
is_beside (Hand m o k) = true
is_beside (Sweep m) = true
is_beside (Wake a) = false
is_beside (Take a) = false
is_beside (Rest a) = false
is_beside (Send f t refs) = false
is_beside (Window d s) = false
is_beside (Admit s d k) = false
is_beside (Lose s d k) = false
is_beside (Repeat s d k) = false
is_beside (Crash n) = false
is_beside (Remove d s) = false
