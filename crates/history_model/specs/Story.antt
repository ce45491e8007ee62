-- What contracts see of a history: its constants, and its events, the newest first.
use Rattle.std.specs.Prelude.{List}
use Rattle.history_model.specs.declared.events.Event.{Event}
use Rattle.history_model.specs.Cluster.{Cluster}

pub record Story : Type 0 where
  pub cluster : Cluster
  pub past : List Event
