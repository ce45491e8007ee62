-- What contracts see of a cluster.
use Rattle.std.specs.Prelude.{ℕ, List, [], get_or, Option, Some, None}
use Rattle.crgc_ids.specs.Actor.{Actor}
use Rattle.history_model.specs.declared.events.Event.{Event}
use Rattle.history_model.specs.declared.records.Verdict.{Verdict}
use Rattle.behaviour_lang.specs.Bound.{Names, local_names}
use Rattle.script_reader.specs.Valid.{Scripted}
use Rattle.script_actors.specs.Table.{Table, behaviour_at, names_at}
use Rattle.operation_model.specs.declared.replies.Halt.{Halt}
use Rattle.operation_model.specs.Openings.{Opening}

-- its script, its history, of each actor the behaviour and the names, which pass has claimed each node, whether it has halted, and
-- the verdicts of its sweeps, the last one first
pub record ClusterState : Type 0 where
  pub script : Scripted
  pub past : List Event
  pub actors : Table
  pub claims : List (Option ℕ)
  pub halt : Option Halt
  pub verdicts : List Verdict

-- the names that a row has, if they are not with a turn
abbrev pub names_or_none : Option (List (List ℕ × Actor)) → Names
names_or_none None = []
names_or_none (Some names) = local_names names

-- a lock that is made with the cluster
abbrev pub as_opening : ClusterState → Opening
as_opening c = record {
  script = c.script;
  past = c.past;
  behaviours = λ a. behaviour_at c.actors a;
  names = λ a. names_or_none (names_at c.actors a);
  claims = λ n. get_or c.claims n None;
  halt = c.halt;
}
