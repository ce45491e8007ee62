-- A table whose rows are being read: its actors, each with a mark from the moment in which a row names it.
use Rattle.std.specs.Prelude.{◌≡◌, ◌&&◌, ◌||◌, Bool, false, List, map, Result, Ok, Err}
use Rattle.std.specs.List.{AllByRecursion, list_any}
use Rattle.std.specs.Global.{Vec}
use Rattle.crgc_bytes.specs.Place.{Place}
use Rattle.crgc_ids.specs.Actor.{Actor, IsActorBelow, same_actor}
use Rattle.crgc_ids.specs.Rising.{IsRising}
use Rattle.wire_grammar.specs.declared.fault.WireFault.{WireFault}
use Rattle.graph_wire.specs.Gives.{Fails}
use Rattle.graph_wire.specs.declared.fault.ReadFault.{ReadFault}
use Rattle.graph_wire.specs.declared.table.TableActor.{TableActor}

unfoldable pub actors_of : List TableActor → List Actor
actors_of table = map (λ e. e.actor) table

-- whether the actor stands in the table with a mark
unfoldable pub is_marked : List TableActor → Actor → Bool
is_marked table a = list_any (λ e. same_actor a e.actor && e.named) table

-- the actors stay, and marked are those that were marked before and those among the names
pub record Marks (names : List Actor) (before after : List TableActor) : Type 0 where
  pub actors : actors_of after ≡ actors_of before
  pub named : (a : Actor) → is_marked after a ≡ (list_any (same_actor a) names || is_marked before a)

-- a rising table before the first row
pub record IsFresh (table : List TableActor) : Type 0 where
  pub rise : IsRising IsActorBelow (actors_of table)
  pub unmarked : AllByRecursion (λ e. e.named ≡ false) table

-- marked are exactly those that are among the names
abbrev pub AreNamed : List Actor → List TableActor → Type 0
AreNamed names table = AllByRecursion (λ e. list_any (same_actor e.actor) names ≡ e.named) table

-- the actors of the table that was answered, and the place that was reached, are those of reading
abbrev pub GivesTable : Place → Result (Vec TableActor) ReadFault → Result (List Actor × Place) WireFault → Type 0
GivesTable q (Ok table) read = read ≡ Ok (actors_of table.items, q)
GivesTable q (Err e) read = Fails e read
