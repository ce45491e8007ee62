-- A worked history of compaction: two seeds, one of which holds the other, retire one after the other, with a sweep after
-- each. The collector forgets the first one once it is stopped. It is an owner of the second all the same: that it holds it
-- is told only afterwards, by the second's own entry.
use Rattle.std.specs.Prelude.{◌≡◌, Bool, List, [], ◌∷◌, refl}
use Rattle.crgc_ids.specs.Actor.{Actor}
use Rattle.crgc_ids.specs.Greatest.{greatest}
use Rattle.crgc_ids.specs.LostNodes.{lost_nodes}
use Rattle.history_model.specs.declared.events.Event.{Event}
use Rattle.history_model.specs.declared.events.Event.TheVariants.{Seed, Tie, Wake, Retire, Rest, Flush, Publish, Hand, Sweep}
use Rattle.history_model.specs.declared.records.Stop.{Stop}
use Rattle.history_model.specs.Cluster.{Cluster, same_actor}
use Rattle.history_model.specs.Compaction.{compacted_dead, compacted_stops, nobody}
use Rattle.history_model.specs.Folds.{Fold, folded, is_lost}
use Rattle.history_model.specs.Graph.{dead}
use Rattle.history_model.specs.Sweeps.{dead_of, stops_of}

abbrev one_node : Cluster
one_node = record { nodes = 1; version = 1 }

abbrev holder : Actor
holder = record { node = 0; serial = 0 }

abbrev target : Actor
target = record { node = 0; serial = 1 }

-- nothing was received, told or admitted
abbrev stop_with : Actor → List Actor → Stop
stop_with a owners = record { actor = a; received = 0; told = 0; admitted = 0; owners = owners }

-- the newest event first
abbrev holder_retired : List Event
holder_retired =
    Hand 0 0 0 ∷ Publish 0 ∷ Flush holder ∷ Rest holder
    ∷ Retire holder ∷ Wake holder ∷ Tie holder target ∷ Seed 0
    ∷ Seed 0 ∷ []

abbrev target_retired : List Event
target_retired =
    Hand 0 0 1 ∷ Publish 0 ∷ Flush target ∷ Rest target
    ∷ Retire target ∷ Wake target ∷ Sweep 0 ∷ holder_retired

abbrev fold_of : List Event → Fold
fold_of h = folded one_node 0 h

-- the holder was stopped, and is gone
abbrev is_gone : Actor → Bool
is_gone a = same_actor holder a

-- the first sweep stops the holder, which nobody else holds
first_stops : compacted_stops one_node 0 nobody nobody (fold_of holder_retired) ≡ stop_with holder (holder ∷ []) ∷ []
unfolding compacted_dead greatest lost_nodes
first_stops = refl

-- in the second sweep both are dead; without the holder, the target alone
second_dead : dead_of one_node (fold_of target_retired) ≡ holder ∷ target ∷ []
unfolding dead greatest lost_nodes
second_dead = refl

second_left : compacted_dead one_node (is_lost one_node (fold_of target_retired)) is_gone (fold_of target_retired) ≡ target ∷ []
unfolding compacted_dead greatest lost_nodes
second_left = refl

-- it is stopped with both owners, as by a sweep of all
second_stops : compacted_stops one_node 0 is_gone is_gone (fold_of target_retired) ≡ stop_with target (holder ∷ target ∷ []) ∷ []
unfolding compacted_dead greatest lost_nodes
second_stops = refl

second_stops-all : stops_of one_node 0 target_retired ≡ stop_with target (holder ∷ target ∷ []) ∷ []
unfolding dead greatest lost_nodes
second_stops-all = refl
