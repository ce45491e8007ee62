-- The histories that a journal may tell, and how long a journal may be.
use Rattle.std.specs.Prelude.{ℕ, ◌≤◌, List, length}
use Rattle.history_model.specs.declared.events.Event.{Event}
use Rattle.history_model.specs.Cluster.{Cluster}
use Rattle.history_model.specs.Legal.{IsLegal}
use Rattle.journal_model.specs.Lines.{AreWithinRanges}
use Rattle.run_model.specs.Schedule.{IsWithinLimits}
use Rattle.crgc_ids.specs.declared.limits.TheConstants.{MOST_BYTES}

-- the cluster has 1 to 16 nodes, and its version is 1 or 2
pub record IsClusterInRange (cl : Cluster) : Type 0 where
  pub some_node : 1 ≤ cl.nodes
  pub nodes : cl.nodes ≤ 16
  pub some_version : 1 ≤ cl.version
  pub version : cl.version ≤ 2

-- the history is legal, its numbers are in their ranges, and it passes no limit at any of its events
pub record IsTellable (cl : Cluster) (h : List Event) : Type 0 where
  pub cluster : IsClusterInRange cl
  pub legal : IsLegal cl h
  pub ranges : AreWithinRanges h
  pub limits : IsWithinLimits cl h

-- the text is no longer than the input limit
abbrev pub IsWithinInput : List ℕ → Type 0
IsWithinInput text = length text ≤ MOST_BYTES
