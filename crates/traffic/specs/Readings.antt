-- What readers answer, in the words of a history.
use Rattle.std.specs.Prelude.{◌≡◌, ◌≢◌, ◌<◌, ◌≤◌, ℕ, true, false, List, Option, Some, None}
use Rattle.crgc_ids.specs.Actor.{Actor}
use Rattle.history_model.specs.declared.events.Event.{Event}
use Rattle.history_model.specs.declared.events.Event.TheVariants.{Remove, Window}
use Rattle.history_model.specs.Cluster.{Cluster}
use Rattle.history_model.specs.Legal.{refusal}
use Rattle.history_model.specs.Live.{is_ready}
use Rattle.history_model.specs.Messages.{copies}
use Rattle.ingress_gateway.specs.Pending.{named_count}
use Rattle.link_table.specs.Standing.{is_link_open}
use Rattle.ready_actors.specs.Ready.{IsAbove, IsFrom}
use Rattle.traffic.specs.Loads.{up_in}
use Rattle.traffic.specs.TrafficState.{TrafficState, link_of}

-- a copy of the number is on the link, and can be admitted
abbrev pub IsOnOpenLink : ℕ → ℕ → List Event → ℕ → Type 0
IsOnOpenLink s d h k = (is_link_open s d h ≡ true) × (0 < copies s d k h)

-- the lowest such number; None where there is none
abbrev pub IsHead : ℕ → ℕ → List Event → Option ℕ → Type 0
IsHead s d h None = (k : ℕ) → IsOnOpenLink s d h k → ⊥
IsHead s d h (Some n) = IsOnOpenLink s d h n × ((k : ℕ) → IsOnOpenLink s d h k → n ≤ k)

-- the lowest actor, of those above the one that is given, that may take a message; None where there is none
abbrev pub IsNextReady : List Event → Option Actor → Option Actor → Type 0
IsNextReady h after None = (a : Actor) → is_ready a h ≡ true → IsAbove after a → ⊥
IsNextReady h after (Some n) = (is_ready n h ≡ true) × IsAbove after n × ((a : Actor) → is_ready a h ≡ true → IsAbove after a → IsFrom n a)

-- the lowest node of which something is true; None where it is true of none
abbrev pub IsLowestNode : (ℕ → Type 0) → Option ℕ → Type 0
IsLowestNode P None = (n : ℕ) → P n → ⊥
IsLowestNode P (Some n) = P n × ((k : ℕ) → P k → n ≤ k)

-- the two nodes are different ones of the cluster, and the link from s to d is open
abbrev pub IsOpenLink : TrafficState → ℕ → ℕ → Type 0
IsOpenLink t d s = (s < t.nodes) × (d < t.nodes) × (s ≢ d) × ((link_of t s d).is_open ≡ true)

-- node d may cut a window of the link from s: something was admitted since the last one
abbrev pub MayCut : TrafficState → ℕ → ℕ → Type 0
MayCut t d s = IsOpenLink t d s × (0 < named_count (link_of t s d).gate.messages (link_of t s d).gate.carried)

-- node d may remove node s, which has crashed
abbrev pub MayRemove : TrafficState → ℕ → ℕ → Type 0
MayRemove t d s = IsOpenLink t d s × (up_in t.loads s ≡ false)

-- the lowest node from which no rule refuses a window of d, and the lowest one that no rule refuses d to remove
abbrev pub IsNextWindow : Cluster → ℕ → List Event → Option ℕ → Type 0
IsNextWindow cl d h = IsLowestNode (λ s. refusal cl (Window d s) h ≡ None)

abbrev pub IsNextRemoval : Cluster → ℕ → List Event → Option ℕ → Type 0
IsNextRemoval cl d h = IsLowestNode (λ s. refusal cl (Remove d s) h ≡ None)
