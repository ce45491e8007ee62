-- What was read of a journal, with the cluster of its header.
use Rattle.std.specs.Prelude.{ℕ, Bool, false, [], drop}
use Rattle.history_model.specs.Cluster.{Cluster}
use Rattle.history_model.specs.Story.{Story}
use Rattle.journal_model.specs.Journals.{Replay}
use Rattle.cluster_course.specs.Due.{lines_made_due}

pub record Following : Type 0 where
  pub cluster : Cluster
  pub replay : Replay

-- before the first event
abbrev pub start : Replay
start = record { past = []; due = []; ended = false }

-- so many of the lines that the last event made due were read
abbrev pub following : Story → ℕ → Bool → Following
following s told over = record { cluster = s.cluster; replay = record { past = s.past; due = drop told (lines_made_due s.cluster s.past); ended = over } }
