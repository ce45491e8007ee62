-- What the table stands for: the behaviour and the names of each actor that was born, in a history of a script.
use Rattle.std.specs.Prelude.{◌≡◌, ◌<◌, ℕ, Bool, true, false, if◌then◌else◌, List, [], ◌∷◌, length, option_map, Option, Some, None, IfSome}
use Rattle.crgc_ids.specs.Actor.{Actor}
use Rattle.history_model.specs.declared.events.Event.{Event}
use Rattle.history_model.specs.declared.events.Event.TheVariants.{Seed, Tie, Wake, Take, Spawn, Send, Drop, Retire, Rest, Flush, Publish, Window, Admit, Lose, Repeat, Crash, Remove, Hand, Sweep}
use Rattle.history_model.specs.Cluster.{births}
use Rattle.history_model.specs.State.{is_busy}
use Rattle.behaviour_lang.specs.Bound.{Names, local_names}
use Rattle.behaviour_lang.specs.Steps.{Left}
use Rattle.script_reader.specs.Valid.{Scripted}
use Rattle.run_model.specs.Doing.{Doing, doing}
use Rattle.script_actors.specs.declared.rows.Row.{Row}
use Rattle.script_actors.specs.Table.{Table, row_at, rows_on}

-- the names that an actor has now
abbrev pub names_now : Scripted → Actor → List Event → Names
names_now s a h = (let d = doing s a h in let l = d.turn in l.names)

-- the names that its row has: those between its turns, and none while it is busy
abbrev pub kept_names : Scripted → Actor → List Event → Option Names
kept_names s a h = if is_busy a h then None else Some (names_now s a h)

-- the row says of the actor what the script and the history do
pub record IsRowOf (s : Scripted) (h : List Event) (a : Actor) (row : Row) : Type 0 where
  pub behaviour : row.behaviour ≡ (let d = doing s a h in d.behaviour)
  pub in_code : row.behaviour < length s.code
  pub names : option_map local_names row.names ≡ kept_names s a h

-- the table stands at the history: each actor that was born has its row, and nobody else is busy
pub record AreActorsAt (s : Scripted) (h : List Event) (t : Table) : Type 0 where
  pub nodes : length t ≡ s.nodes
  pub counts : (n : ℕ) → length (rows_on t n) ≡ births n h
  pub rows : (a : Actor) → IfSome (row_at t a) (IsRowOf s h a)
  pub born : (a : Actor) → is_busy a h ≡ true → a.serial < births a.node h

-- the event is of no turn, and gives birth to nobody: one of links, streams or collectors, or a crash
abbrev pub is_of_no_turn : Event → Bool
is_of_no_turn (Seed n) = false
is_of_no_turn (Tie a b) = false
is_of_no_turn (Wake a) = false
is_of_no_turn (Take a) = false
is_of_no_turn (Spawn a) = false
is_of_no_turn (Send a t refs) = false
is_of_no_turn (Drop a t) = false
is_of_no_turn (Retire a) = false
is_of_no_turn (Rest a) = false
is_of_no_turn (Flush a) = true
is_of_no_turn (Publish n) = true
is_of_no_turn (Window d f) = true
is_of_no_turn (Admit f d k) = true
is_of_no_turn (Lose f d k) = true
is_of_no_turn (Repeat f d k) = true
is_of_no_turn (Crash n) = true
is_of_no_turn (Remove m n) = true
is_of_no_turn (Hand m o k) = true
is_of_no_turn (Sweep m) = true
