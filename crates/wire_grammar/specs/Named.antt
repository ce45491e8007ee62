-- The actors that a bulletin names, and the table of them.
use Rattle.std.specs.Prelude.{ℕ, suc, Bool, List, [], ◌∷◌, ◌++◌, length, nat_lt, if◌then◌else◌}
use Rattle.std.specs.List.{flat_map}
use Rattle.crgc_ids.specs.Actor.{Actor, is_actor_below}
use Rattle.crgc_ids.specs.declared.rising.ActorCount.{ActorCount}
use Rattle.crgc_ids.specs.declared.rising.PairCount.{PairCount}
use Rattle.history_model.specs.declared.records.Bulletin.{Bulletin}
use Rattle.history_model.specs.declared.records.Bulletin.TheVariants as bulletins
use Rattle.history_model.specs.declared.records.Delta.{Delta}
use Rattle.history_model.specs.declared.records.StateRow.{StateRow}
use Rattle.history_model.specs.declared.records.Window.{Window}
use Rattle.history_model.specs.Graph.{rising_actors}

abbrev pub state_names : List StateRow → List Actor
state_names rows = flat_map (λ r. r.actor ∷ []) rows

abbrev pub count_names : List ActorCount → List Actor
count_names rows = flat_map (λ r. r.actor ∷ []) rows

abbrev pub pair_names : List PairCount → List Actor
pair_names rows = flat_map (λ r. r.owner ∷ r.target ∷ []) rows

abbrev pub delta_names : Delta → List Actor
delta_names d = state_names d.states ++ (count_names d.sent ++ (pair_names d.created ++ pair_names d.released))

abbrev pub window_names : Window → List Actor
window_names w = count_names w.messages ++ pair_names w.carried

-- the actors that rows of the bulletin name, each as often as it is named
abbrev pub names_of : Bulletin → List Actor
names_of (bulletins.Delta d) = delta_names d
names_of (bulletins.Window w) = window_names w
names_of (bulletins.Final w) = window_names w

-- the rising list of the actors of a list, each once
unfoldable pub table_of : List Actor → List Actor
table_of names = rising_actors names

-- the index of an actor in a rising table: how many actors are below it
unfoldable pub index_of : List Actor → Actor → ℕ
index_of [] a = 0
index_of (b ∷ rest) a = if is_actor_below b a then suc (index_of rest a) else 0

-- whether a table needs the wide form
abbrev pub is_wide : List Actor → Bool
is_wide table = nat_lt 65535 (length table)
