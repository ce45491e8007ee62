-- The round: whatever is due is removed, told and handed on, and then each node sweeps. Each step after a history gives the
-- history after it, and adds only events that no rule refuses. So nodes that are down do nothing.
use Rattle.std.specs.Prelude.{ℕ, zero, suc, ◌-◌, ◌%◌, ◌==◌, Bool, true, false, if◌then◌else◌, List, ◌∷◌, length, is_none}
use Rattle.history_model.specs.declared.events.Event.{Event}
use Rattle.history_model.specs.declared.events.Event.TheVariants.{Flush, Publish, Window, Remove, Hand, Sweep}
use Rattle.history_model.specs.Tally.{tally}
use Rattle.history_model.specs.Cluster.{Cluster, births}
use Rattle.history_model.specs.Streams.{stream}
use Rattle.history_model.specs.Legal.{refusal}
use Rattle.history_model.specs.Folds.{was_handed}
use Rattle.run_model.specs.declared.round_laws.TheConstants.{FLUSHES_PER_PUBLISH}

-- the event happens where no rule refuses it
abbrev pub tried : Cluster → Event → List Event → List Event
tried cl e h = if is_none (refusal cl e h) then e ∷ h else h

-- the step for each number below n, rising
abbrev pub each : (ℕ → List Event → List Event) → ℕ → List Event → List Event
each step zero h = h
each step (suc n) h = step n (each step n h)

-- each node m removes each node n that crashed
abbrev pub removals : Cluster → List Event → List Event
removals cl h = each (λ m. each (λ n. tried cl (Remove m n)) cl.nodes) cl.nodes h

-- each node m tells what it admitted from each node s
abbrev pub windows : Cluster → List Event → List Event
windows cl h = each (λ m. each (λ s. tried cl (Window m s)) cl.nodes) cl.nodes h

-- how often an actor of node m was flushed
abbrev pub is_flush_on : ℕ → Event → Bool
is_flush_on m (Flush a) = a.node == m
is_flush_on m _ = false

abbrev pub flushes_on : ℕ → List Event → ℕ
flushes_on m h = tally (is_flush_on m) h

-- m publishes if its flushes beyond the past ones are a multiple of 32
abbrev pub published : Cluster → ℕ → ℕ → List Event → List Event
published cl m past h = if (flushes_on m h - past) % FLUSHES_PER_PUBLISH == 0 then tried cl (Publish m) h else h

-- actor number s of node m is flushed where it can be, and then m may publish
abbrev pub flushed : Cluster → ℕ → ℕ → ℕ → List Event → List Event
flushed cl m past s h =
    if is_none (refusal cl (Flush (record { node = m; serial = s })) h)
    then published cl m past (Flush (record { node = m; serial = s }) ∷ h)
    else h

-- so is each actor of node m, with the flushes before the round as the past ones; then m publishes what is left in its queue
abbrev pub flushed_on : Cluster → ℕ → List Event → List Event
flushed_on cl m h = tried cl (Publish m) (each (flushed cl m (flushes_on m h)) (births m h) h)

abbrev pub flushes : Cluster → List Event → List Event
flushes cl h = each (flushed_on cl) cl.nodes h

-- bulletin k of node o is handed to m, where it was not yet
abbrev pub handed : Cluster → ℕ → ℕ → ℕ → List Event → List Event
handed cl m o k h = if was_handed m o k h then h else tried cl (Hand m o k) h

abbrev pub handed_from : Cluster → ℕ → ℕ → List Event → List Event
handed_from cl m o h = each (handed cl m o) (length (stream cl o h)) h

-- to each node m are handed all bulletins of each node o
abbrev pub hands : Cluster → List Event → List Event
hands cl h = each (λ m. each (handed_from cl m) cl.nodes) cl.nodes h

-- each node m sweeps
abbrev pub sweeps : Cluster → List Event → List Event
sweeps cl h = each (λ m. tried cl (Sweep m)) cl.nodes h

-- the whole round
abbrev pub round : Cluster → List Event → List Event
round cl h = sweeps cl (hands cl (flushes cl (windows cl (removals cl h))))

-- the forms of events of which a round is made: no actor acts in them, and they move no message
abbrev pub is_of_round : Event → Bool
is_of_round (Remove m n) = true
is_of_round (Window m s) = true
is_of_round (Flush a) = true
is_of_round (Publish m) = true
is_of_round (Hand m o k) = true
is_of_round (Sweep m) = true
is_of_round _ = false
