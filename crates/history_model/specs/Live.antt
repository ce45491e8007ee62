-- How many messages are live and how many actors are busy, and which actors are ready to take a message.
use Rattle.std.specs.Prelude.{◌+◌, ◌==◌, ◌&&◌, not, if◌then◌else◌, nat_lt, ℕ, Bool, IsFalse, IsTrue, List, length, map}
use Rattle.std.specs.List.{range_with_len, sum_by}
use Rattle.crgc_ids.specs.Actor.{Actor}
use Rattle.crgc_ids.specs.Nodes.{nodes_below}
use Rattle.history_model.specs.declared.events.Event.{Event}
use Rattle.history_model.specs.Tally.{tally}
use Rattle.history_model.specs.Cluster.{Cluster, births}
use Rattle.history_model.specs.Messages.{Message, copies, is_closed, sent, waiting, was_admitted}
use Rattle.history_model.specs.State.{is_busy, is_up}
use Rattle.history_model.specs.Legal.{has_nothing}
use Rattle.history_model.specs.Quiescent.{IsLive}

-- the actors that were born on node n, rising
abbrev pub actors_of : ℕ → List Event → List Actor
actors_of n h = map (λ s. record { node = n; serial = s }) (range_with_len 0 (births n h))

-- how many messages wait for the actors of node n
abbrev pub waiting_at : ℕ → List Event → ℕ
waiting_at n h = sum_by (λ a. length (waiting a h)) (actors_of n h)

-- number k is under way on the link from s to d: the link is not closed, k was not admitted, and a copy is on the link
abbrev pub is_under_way : ℕ → ℕ → List Event → ℕ → Bool
is_under_way s d h k = not (is_closed s d h) && (not (was_admitted s d k h) && nat_lt 0 (copies s d k h))

-- how many messages are under way from s to d
abbrev pub under_way : ℕ → ℕ → List Event → ℕ
under_way s d h = tally (is_under_way s d h) (range_with_len 0 (length (sent s d h)))

-- how many messages are under way to node d, from other nodes
abbrev pub coming_to : Cluster → ℕ → List Event → ℕ
coming_to cl d h = sum_by (λ s. if s == d then 0 else under_way s d h) (nodes_below cl.nodes)

-- how many live messages go to actors of node n
abbrev pub live_at : Cluster → ℕ → List Event → ℕ
live_at cl n h = if is_up n h then waiting_at n h + coming_to cl n h else 0

-- how many messages are live
abbrev pub live_count : Cluster → List Event → ℕ
live_count cl h = sum_by (λ n. live_at cl n h) (nodes_below cl.nodes)

-- how many actors of node n are busy, where it is up
abbrev pub busy_at : ℕ → List Event → ℕ
busy_at n h = if is_up n h then tally (λ a. is_busy a h) (actors_of n h) else 0

-- how many actors of nodes that are up are busy
abbrev pub busy_count : Cluster → List Event → ℕ
busy_count cl h = sum_by (λ n. busy_at n h) (nodes_below cl.nodes)

-- a may take a message: its node is up, it is idle, and mail waits for it
abbrev pub is_ready : Actor → List Event → Bool
is_ready a h = is_up a.node h && (not (is_busy a h) && not (has_nothing (waiting a h)))

-- no message is live
abbrev pub NothingIsLive : List Event → Type 0
NothingIsLive h = (m : Message) → ¬ IsLive h m

-- no actor of a node that is up is busy
abbrev pub NobodyIsBusy : List Event → Type 0
NobodyIsBusy h = (a : Actor) → IsTrue (is_up a.node h) → IsFalse (is_busy a h)
