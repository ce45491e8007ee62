-- The table while it is made: the actors of the first seeds, with the names of the first ties.
use Rattle.std.specs.Prelude.{◌≡◌, ◌<◌, ℕ, List, [], ◌∷◌, length, map, option_map, Option, Some, None, IfSome}
use Rattle.crgc_ids.specs.Actor.{Actor}
use Rattle.history_model.specs.declared.events.Event.{Event}
use Rattle.history_model.specs.declared.events.Event.TheVariants.{Seed}
use Rattle.history_model.specs.Cluster.{births}
use Rattle.history_model.specs.Rows.{onto}
use Rattle.behaviour_lang.specs.Bound.{bind, local_names}
use Rattle.script_reader.specs.Valid.{Scripted}
use Rattle.script_reader.specs.declared.script.Seed.{Seed as SeedRow}
use Rattle.script_reader.specs.declared.script.Tie.{Tie as TieRow}
use Rattle.run_model.specs.Doing.{behaviour_of, own_name, row_of, tied}
use Rattle.script_actors.specs.declared.rows.Row.{Row}
use Rattle.script_actors.specs.Table.{SetsRow, Table, behaviour_at, names_at, row, row_at, rows_on}

-- the row is that of one of these seeds, with its own name and those of these ties
pub record IsSeedRow (s : Scripted) (seeds : List SeedRow) (ties : List TieRow) (a : Actor) (r : Row) : Type 0 where
  pub behaviour : r.behaviour ≡ behaviour_of (row_of seeds [] a)
  pub in_code : r.behaviour < length s.code
  pub names : option_map local_names r.names ≡ Some (tied s ties a (own_name a))

-- the table has these seeds and these ties
pub record IsBegun (s : Scripted) (seeds : List SeedRow) (ties : List TieRow) (t : Table) : Type 0 where
  pub counts : (n : ℕ) → length (rows_on t n) ≡ births n (onto [] (map (λ (x : SeedRow). Seed x.node) seeds))
  pub rows : (a : Actor) → IfSome (row_at t a) (IsSeedRow s seeds ties a)

-- the actor has one name more, which is bound to t; nothing else changed
pub record Binds (old new : Table) (a : Actor) (name : List ℕ) (t : Actor) : Type 0 where
  pub before : List (List ℕ × Actor)
  pub after : List (List ℕ × Actor)
  pub had : names_at old a ≡ Some before
  pub bound : local_names after ≡ bind name t (local_names before)
  pub set : SetsRow old new a (row (behaviour_at old a) (Some after))
