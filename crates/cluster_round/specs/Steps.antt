-- The steps of a round that are of one node.
use Rattle.std.specs.Prelude.{ℕ, List}
use Rattle.history_model.specs.declared.events.Event.{Event}
use Rattle.history_model.specs.declared.events.Event.TheVariants.{Window, Remove}
use Rattle.history_model.specs.Cluster.{Cluster, births}
use Rattle.run_model.specs.Round.{each, flushed, flushes_on, handed_from, tried}

-- node m removes each node that crashed
abbrev pub removals_at : Cluster → ℕ → List Event → List Event
removals_at cl m h = each (λ n. tried cl (Remove m n)) cl.nodes h

-- node m tells what it admitted from each node
abbrev pub windows_at : Cluster → ℕ → List Event → List Event
windows_at cl m h = each (λ s. tried cl (Window m s)) cl.nodes h

-- each actor of node m is flushed where it can be, and in between m publishes
abbrev pub actors_flushed : Cluster → ℕ → List Event → List Event
actors_flushed cl m h = each (flushed cl m (flushes_on m h)) (births m h) h

-- to node m are handed all bulletins of each node
abbrev pub handed_to : Cluster → ℕ → List Event → List Event
handed_to cl m h = each (handed_from cl m) cl.nodes h
