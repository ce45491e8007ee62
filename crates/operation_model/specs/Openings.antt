-- With what a cluster's lock is made, and the cluster that a script makes.
use Rattle.std.specs.Prelude.{ℕ, ◌≡◌, true, false, List, [], Option, None}
use Rattle.crgc_ids.specs.Actor.{Actor}
use Rattle.history_model.specs.declared.events.Event.{Event}
use Rattle.history_model.specs.Cluster.{is_born}
use Rattle.behaviour_lang.specs.Bound.{Names}
use Rattle.script_reader.specs.Valid.{Scripted}
use Rattle.history_model.specs.State.{is_busy}
use Rattle.run_model.specs.Doing.{beginning, behaviour_of, doing, first_names, is_in_ranges, row_of}
use Rattle.run_model.specs.Sound.{IsSound}
use Rattle.operation_model.specs.declared.replies.Halt.{Halt}

-- a cluster as a lock is made with it: its script; its history; the behaviour and the names of each actor; which pass has
-- claimed each node; and whether it has halted. It may be any cluster, also one in the middle of its run
pub record Opening : Type 0 where
  pub script : Scripted
  pub past : List Event
  pub behaviours : Actor → ℕ
  pub names : Actor → Names
  pub claims : ℕ → Option ℕ
  pub halt : Option Halt

-- the cluster that a script makes, which stays in its ranges: of each seed it has the behaviour of its row and the names of its
-- ties; no node is claimed, and it has not halted
pub record IsNew (o : Opening) : Type 0 where
  pub ranges : is_in_ranges o.script ≡ true
  pub past : o.past ≡ beginning o.script
  pub behaviours : (a : Actor) → is_born a o.past ≡ true
      → o.behaviours a ≡ (let s = o.script in behaviour_of (row_of s.seeds [] a))
  pub names : (a : Actor) → is_born a o.past ≡ true → o.names a ≡ first_names o.script a
  pub claims : (n : ℕ) → o.claims n ≡ None
  pub halt : o.halt ≡ None

-- a cluster in the middle of a run, or in whatever history, in which turns can go on: the history is legal, names say no more than
-- is held, and of each actor it has the behaviour, and in no turn the names, that are its in the history
pub record IsSoundOpening (o : Opening) : Type 0 where
  pub sound : IsSound o.script o.past
  pub names : (a : Actor) → is_born a o.past ≡ true → is_busy a o.past ≡ false
      → (let d = doing o.script a o.past in let l = d.turn in o.names a ≡ l.names)
  pub behaviours : (a : Actor) → is_born a o.past ≡ true → (let d = doing o.script a o.past in o.behaviours a ≡ d.behaviour)
