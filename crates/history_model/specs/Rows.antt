-- The definitions, computed on worked histories: legality, cuts, lost nodes and stops with their evidence.
use Rattle.std.specs.Prelude.{◌≡◌, ℕ, Bool, true, ◌&&◌, List, [], ◌∷◌, map, refl, is_none}
use Rattle.crgc_ids.specs.Actor.{Actor}
use Rattle.crgc_ids.specs.Greatest.{greatest}
use Rattle.crgc_ids.specs.LostNodes.{lost_nodes}
use Rattle.crgc_ids.specs.Nodes.{nodes_below}
use Rattle.history_model.specs.declared.events.Event.{Event}
use Rattle.history_model.specs.declared.events.Event.TheVariants.{Seed, Tie, Wake, Take, Spawn, Send, Drop, Retire, Rest, Flush, Publish, Admit, Lose, Crash, Remove, Hand, Sweep}
use Rattle.history_model.specs.declared.records.Stop.{Stop}
use Rattle.history_model.specs.Cluster.{Cluster}
use Rattle.history_model.specs.Folds.{cut_at, lost_of, folded}
use Rattle.history_model.specs.Graph.{dead}
use Rattle.history_model.specs.Sweeps.{stops_of}
use Rattle.history_model.specs.Legal.{refusal}

abbrev pub cluster : ℕ → ℕ → Cluster
cluster n v = record { nodes = n; version = v }

abbrev pub actor : ℕ → ℕ → Actor
actor n s = record { node = n; serial = s }

abbrev stop : Actor → ℕ → ℕ → ℕ → List Actor → Stop
stop a r t d owners = record { actor = a; received = r; told = t; admitted = d; owners = owners }

-- the events, given in their order, after an earlier history
abbrev pub onto : List Event → List Event → List Event
onto h [] = h
onto h (e ∷ es) = onto (e ∷ h) es

abbrev pub is_legal : Cluster → List Event → Bool
is_legal cl [] = true
is_legal cl (e ∷ p) = is_none (refusal cl e p) && is_legal cl p

-- the history is legal, and a sweep of m finds these cuts, lost nodes and stops
abbrev agrees : Cluster → ℕ → List Event → List ℕ → List ℕ → List Stop → Type 0
agrees cl m h cuts lost stops =
    (is_legal cl h ≡ true) × (map (cut_at cl m h) (nodes_below cl.nodes) ≡ cuts)
    × (lost_of cl (folded cl m h) ≡ lost) × (stops_of cl m h ≡ stops)

-- A parent drops its only child. Both are told, and a sweep stops the child.
abbrev pub dropped_child : List Event
dropped_child = onto [] (
    Seed 0 ∷ Wake (actor 0 0) ∷ Spawn (actor 0 0) ∷ Drop (actor 0 0) (actor 0 1)
    ∷ Rest (actor 0 0) ∷ Flush (actor 0 0) ∷ Flush (actor 0 1) ∷ Publish 0
    ∷ Hand 0 0 0 ∷ []
    )

dropped_child-sweep : agrees (cluster 1 1) 0 dropped_child (1 ∷ []) [] (stop (actor 0 1) 0 0 0 (actor 0 1 ∷ []) ∷ [])
unfolding dead greatest lost_nodes
dropped_child-sweep = (refl, refl, refl, refl)

-- The child is told and the parent is not. The parent is known by the child's entry and has none of its own, so it marks
-- the child.
abbrev pub no_own_entry : List Event
no_own_entry = onto [] (
    Seed 0 ∷ Wake (actor 0 0) ∷ Spawn (actor 0 0) ∷ Flush (actor 0 1)
    ∷ Publish 0 ∷ Hand 0 0 0 ∷ []
    )

no_own_entry-sweep : agrees (cluster 1 1) 0 no_own_entry (1 ∷ []) [] []
unfolding dead greatest lost_nodes
no_own_entry-sweep = (refl, refl, refl, refl)

-- Two actors on two nodes hold each other, and nobody else holds them. Node 0 stops its one.
abbrev pub cycle_over_two_nodes : List Event
cycle_over_two_nodes = onto [] (
    Seed 0 ∷ Seed 1 ∷ Tie (actor 0 0) (actor 1 0) ∷ Wake (actor 0 0)
    ∷ Spawn (actor 0 0) ∷ Wake (actor 1 0) ∷ Spawn (actor 1 0) ∷ Send (actor 0 0) (actor 1 0) (actor 0 1 ∷ [])
    ∷ Rest (actor 1 0) ∷ Admit 0 1 0 ∷ Take (actor 1 0) ∷ Send (actor 1 0) (actor 0 1) (actor 1 1 ∷ [])
    ∷ Send (actor 1 0) (actor 1 1) (actor 0 1 ∷ []) ∷ Drop (actor 1 0) (actor 0 1) ∷ Drop (actor 1 0) (actor 1 1) ∷ Rest (actor 1 0)
    ∷ Drop (actor 0 0) (actor 0 1) ∷ Rest (actor 0 0) ∷ Admit 1 0 0 ∷ Take (actor 0 1)
    ∷ Rest (actor 0 1) ∷ Take (actor 1 1) ∷ Rest (actor 1 1) ∷ Flush (actor 0 0)
    ∷ Flush (actor 0 1) ∷ Flush (actor 1 0) ∷ Flush (actor 1 1) ∷ Publish 0
    ∷ Publish 1 ∷ Hand 0 0 0 ∷ Hand 0 1 0 ∷ Hand 1 0 0
    ∷ Hand 1 1 0 ∷ []
    )

cycle_over_two_nodes-sweep : agrees (cluster 2 1) 0 cycle_over_two_nodes (1 ∷ 1 ∷ []) []
    (stop (actor 0 1) 1 1 0 (actor 0 1 ∷ actor 1 1 ∷ []) ∷ [])
unfolding dead greatest lost_nodes
cycle_over_two_nodes-sweep = (refl, refl, refl, refl)

-- After that sweep node 1 stops the other one, which its stopped owner holds.
abbrev pub other_half_of_cycle : List Event
other_half_of_cycle = Sweep 0 ∷ cycle_over_two_nodes

other_half_of_cycle-sweep : agrees (cluster 2 1) 1 other_half_of_cycle (1 ∷ 1 ∷ []) []
    (stop (actor 1 1) 1 1 0 (actor 0 1 ∷ actor 1 1 ∷ []) ∷ [])
unfolding dead greatest lost_nodes
other_half_of_cycle-sweep = (refl, refl, refl, refl)

-- All that is told of references to 0.1 adds up to none, while a message carries one and 0.2 holds one. But 0.2 has no
-- entry of its own, so it marks 0.1.
abbrev pub masked_count : List Event
masked_count = onto [] (
    Seed 0 ∷ Seed 1 ∷ Tie (actor 0 0) (actor 1 0) ∷ Wake (actor 0 0)
    ∷ Spawn (actor 0 0) ∷ Spawn (actor 0 0) ∷ Send (actor 0 0) (actor 0 2) (actor 0 1 ∷ actor 1 0 ∷ []) ∷ Send (actor 0 0) (actor 1 0) (actor 0 1 ∷ [])
    ∷ Drop (actor 0 0) (actor 0 1) ∷ Drop (actor 0 0) (actor 0 2) ∷ Rest (actor 0 0) ∷ Flush (actor 0 0)
    ∷ Flush (actor 0 1) ∷ Publish 0 ∷ Take (actor 0 2) ∷ Send (actor 0 2) (actor 1 0) (actor 0 1 ∷ [])
    ∷ Admit 0 1 1 ∷ Take (actor 1 0) ∷ Drop (actor 1 0) (actor 0 1) ∷ Rest (actor 1 0)
    ∷ Flush (actor 1 0) ∷ Publish 1 ∷ Hand 0 0 0 ∷ Hand 0 1 0 ∷ []
    )

masked_count-sweep : agrees (cluster 2 1) 0 masked_count (1 ∷ 1 ∷ []) [] []
unfolding dead greatest lost_nodes
masked_count-sweep = (refl, refl, refl, refl)

-- Then all is given up and told, and both are stopped.
abbrev pub masked_count_told : List Event
masked_count_told = onto (Sweep 0 ∷ masked_count) (
    Drop (actor 0 2) (actor 0 1) ∷ Drop (actor 0 2) (actor 1 0) ∷ Rest (actor 0 2) ∷ Flush (actor 0 2)
    ∷ Publish 0 ∷ Admit 0 1 0 ∷ Take (actor 1 0) ∷ Drop (actor 1 0) (actor 0 1)
    ∷ Rest (actor 1 0) ∷ Flush (actor 1 0) ∷ Publish 1 ∷ Hand 0 0 1
    ∷ Hand 0 1 1 ∷ []
    )

masked_count_told-sweep : agrees (cluster 2 1) 0 masked_count_told (2 ∷ 2 ∷ []) []
    (stop (actor 0 1) 0 0 0 (actor 0 1 ∷ []) ∷ stop (actor 0 2) 1 1 0 (actor 0 2 ∷ []) ∷ [])
unfolding dead greatest lost_nodes
masked_count_told-sweep = (refl, refl, refl, refl)

-- Nobody holds 1.1 any more, but a message to it is on the link. It is told as sent and not as taken, so 1.1 is kept.
abbrev pub message_on_link : List Event
message_on_link = onto [] (
    Seed 0 ∷ Seed 1 ∷ Tie (actor 1 0) (actor 0 0) ∷ Wake (actor 1 0)
    ∷ Spawn (actor 1 0) ∷ Send (actor 1 0) (actor 0 0) (actor 1 1 ∷ []) ∷ Drop (actor 1 0) (actor 1 1) ∷ Rest (actor 1 0)
    ∷ Admit 1 0 0 ∷ Take (actor 0 0) ∷ Send (actor 0 0) (actor 1 1) ([]) ∷ Drop (actor 0 0) (actor 1 1)
    ∷ Rest (actor 0 0) ∷ Flush (actor 0 0) ∷ Flush (actor 1 0) ∷ Flush (actor 1 1)
    ∷ Publish 0 ∷ Publish 1 ∷ Hand 1 0 0 ∷ Hand 1 1 0 ∷ []
    )

message_on_link-sweep : agrees (cluster 2 1) 1 message_on_link (1 ∷ 1 ∷ []) [] []
unfolding dead greatest lost_nodes
message_on_link-sweep = (refl, refl, refl, refl)

-- The message is taken, and the same is still folded: 1.1 is kept for now.
abbrev pub message_taken : List Event
message_taken = onto (Sweep 1 ∷ message_on_link) (
    Admit 0 1 0 ∷ Take (actor 1 1) ∷ Rest (actor 1 1) ∷ []
    )

message_taken-sweep : agrees (cluster 2 1) 1 message_taken (1 ∷ 1 ∷ []) [] []
unfolding dead greatest lost_nodes
message_taken-sweep = (refl, refl, refl, refl)

-- Once the take is told, 1.1 is stopped.
abbrev pub message_told : List Event
message_told = onto (Sweep 1 ∷ message_taken) (
    Flush (actor 1 1) ∷ Publish 1 ∷ Hand 1 1 1 ∷ []
    )

message_told-sweep : agrees (cluster 2 1) 1 message_told (1 ∷ 2 ∷ []) [] (stop (actor 1 1) 1 1 0 (actor 1 1 ∷ []) ∷ [])
unfolding dead greatest lost_nodes
message_told-sweep = (refl, refl, refl, refl)

-- The message is lost. It is told as sent and will never be taken, so 1.1 is kept for good.
abbrev pub message_lost : List Event
message_lost = onto [] (
    Seed 0 ∷ Seed 1 ∷ Tie (actor 1 0) (actor 0 0) ∷ Wake (actor 1 0)
    ∷ Spawn (actor 1 0) ∷ Send (actor 1 0) (actor 0 0) (actor 1 1 ∷ []) ∷ Drop (actor 1 0) (actor 1 1) ∷ Rest (actor 1 0)
    ∷ Admit 1 0 0 ∷ Take (actor 0 0) ∷ Send (actor 0 0) (actor 1 1) ([]) ∷ Drop (actor 0 0) (actor 1 1)
    ∷ Rest (actor 0 0) ∷ Flush (actor 0 0) ∷ Flush (actor 1 0) ∷ Flush (actor 1 1)
    ∷ Publish 0 ∷ Publish 1 ∷ Lose 0 1 0 ∷ Hand 1 0 0
    ∷ Hand 1 1 0 ∷ []
    )

message_lost-sweep : agrees (cluster 2 1) 1 message_lost (1 ∷ 1 ∷ []) [] []
unfolding dead greatest lost_nodes
message_lost-sweep = (refl, refl, refl, refl)

-- The sender's node crashes while the message is on the link, where it may still be admitted.
abbrev pub crash_before_admission : List Event
crash_before_admission = onto [] (
    Seed 0 ∷ Seed 1 ∷ Tie (actor 1 0) (actor 0 0) ∷ Wake (actor 1 0)
    ∷ Spawn (actor 1 0) ∷ Send (actor 1 0) (actor 0 0) (actor 1 1 ∷ []) ∷ Drop (actor 1 0) (actor 1 1) ∷ Rest (actor 1 0)
    ∷ Admit 1 0 0 ∷ Take (actor 0 0) ∷ Send (actor 0 0) (actor 1 1) ([]) ∷ Drop (actor 0 0) (actor 1 1)
    ∷ Rest (actor 0 0) ∷ Flush (actor 0 0) ∷ Flush (actor 1 0) ∷ Flush (actor 1 1)
    ∷ Publish 0 ∷ Publish 1 ∷ Crash 0 ∷ Hand 1 0 0
    ∷ Hand 1 1 0 ∷ []
    )

crash_before_admission-sweep : agrees (cluster 2 1) 1 crash_before_admission (1 ∷ 1 ∷ []) [] []
unfolding dead greatest lost_nodes
crash_before_admission-sweep = (refl, refl, refl, refl)

-- Once the node is removed and its Final is folded, it is lost. What it told counts no more, and 1.1 is stopped.
abbrev pub crash_before_admission_removed : List Event
crash_before_admission_removed = onto (Sweep 1 ∷ crash_before_admission) (
    Remove 1 0 ∷ Hand 1 1 1 ∷ []
    )

crash_before_admission_removed-sweep : agrees (cluster 2 1) 1 crash_before_admission_removed (1 ∷ 2 ∷ []) (0 ∷ [])
    (stop (actor 1 1) 0 0 0 (actor 1 1 ∷ []) ∷ [])
unfolding dead greatest lost_nodes
crash_before_admission_removed-sweep = (refl, refl, refl, refl)

-- The message is taken, and the sender's node crashes before it told of the message: more is received than told.
abbrev pub crash_after_admission : List Event
crash_after_admission = onto [] (
    Seed 0 ∷ Seed 1 ∷ Tie (actor 1 0) (actor 0 0) ∷ Wake (actor 1 0)
    ∷ Spawn (actor 1 0) ∷ Send (actor 1 0) (actor 0 0) (actor 1 1 ∷ []) ∷ Drop (actor 1 0) (actor 1 1) ∷ Rest (actor 1 0)
    ∷ Admit 1 0 0 ∷ Take (actor 0 0) ∷ Send (actor 0 0) (actor 1 1) ([]) ∷ Admit 0 1 0
    ∷ Take (actor 1 1) ∷ Rest (actor 1 1) ∷ Crash 0 ∷ Flush (actor 1 0)
    ∷ Flush (actor 1 1) ∷ Publish 1 ∷ Hand 1 1 0 ∷ []
    )

crash_after_admission-sweep : agrees (cluster 2 1) 1 crash_after_admission (0 ∷ 1 ∷ []) [] []
unfolding dead greatest lost_nodes
crash_after_admission-sweep = (refl, refl, refl, refl)

-- The Final tells that the message was admitted from the lost node, and 1.1 is stopped.
abbrev pub crash_after_admission_removed : List Event
crash_after_admission_removed = onto (Sweep 1 ∷ crash_after_admission) (
    Remove 1 0 ∷ Hand 1 1 1 ∷ []
    )

crash_after_admission_removed-sweep : agrees (cluster 2 1) 1 crash_after_admission_removed (0 ∷ 2 ∷ []) (0 ∷ [])
    (stop (actor 1 1) 1 0 1 (actor 1 1 ∷ []) ∷ [])
unfolding dead greatest lost_nodes
crash_after_admission_removed-sweep = (refl, refl, refl, refl)

-- 1.0 gave up 1.1, and has it again by a message of a node that is lost. The Final tells of that reference, so 1.1 is kept.
abbrev pub carried_by_a_lost_node : List Event
carried_by_a_lost_node = onto [] (
    Seed 0 ∷ Seed 1 ∷ Tie (actor 0 0) (actor 1 0) ∷ Tie (actor 1 0) (actor 0 0)
    ∷ Wake (actor 1 0) ∷ Spawn (actor 1 0) ∷ Send (actor 1 0) (actor 0 0) (actor 1 1 ∷ []) ∷ Drop (actor 1 0) (actor 1 1)
    ∷ Rest (actor 1 0) ∷ Admit 1 0 0 ∷ Take (actor 0 0) ∷ Send (actor 0 0) (actor 1 0) (actor 1 1 ∷ [])
    ∷ Admit 0 1 0 ∷ Take (actor 1 0) ∷ Rest (actor 1 0) ∷ Crash 0
    ∷ Flush (actor 1 0) ∷ Flush (actor 1 1) ∷ Publish 1 ∷ Remove 1 0
    ∷ Hand 1 1 0 ∷ Hand 1 1 1 ∷ []
    )

carried_by_a_lost_node-sweep : agrees (cluster 2 1) 1 carried_by_a_lost_node (0 ∷ 2 ∷ []) (0 ∷ []) []
unfolding dead greatest lost_nodes
carried_by_a_lost_node-sweep = (refl, refl, refl, refl)

-- Two nodes removed node 0, and one of their Finals is not folded yet: node 0 is not lost.
abbrev pub one_final_missing : List Event
one_final_missing = onto [] (
    Seed 0 ∷ Seed 1 ∷ Tie (actor 1 0) (actor 0 0) ∷ Wake (actor 1 0)
    ∷ Spawn (actor 1 0) ∷ Send (actor 1 0) (actor 0 0) (actor 1 1 ∷ []) ∷ Drop (actor 1 0) (actor 1 1) ∷ Rest (actor 1 0)
    ∷ Admit 1 0 0 ∷ Take (actor 0 0) ∷ Flush (actor 1 0) ∷ Flush (actor 1 1)
    ∷ Publish 1 ∷ Crash 0 ∷ Remove 1 0 ∷ Remove 2 0
    ∷ Hand 1 1 0 ∷ Hand 1 1 1 ∷ []
    )

one_final_missing-sweep : agrees (cluster 3 1) 1 one_final_missing (0 ∷ 2 ∷ 0 ∷ []) [] []
unfolding dead greatest lost_nodes
one_final_missing-sweep = (refl, refl, refl, refl)

-- With that Final it is.
abbrev pub no_final_missing : List Event
no_final_missing = onto (Sweep 1 ∷ one_final_missing) (
    Hand 1 2 0 ∷ []
    )

no_final_missing-sweep : agrees (cluster 3 1) 1 no_final_missing (0 ∷ 2 ∷ 1 ∷ []) (0 ∷ [])
    (stop (actor 1 1) 0 0 0 (actor 1 1 ∷ []) ∷ [])
unfolding dead greatest lost_nodes
no_final_missing-sweep = (refl, refl, refl, refl)

-- Nodes 2 and 3 crashed, and one Final of a link from them is not folded yet.
abbrev pub two_nodes_crashed : List Event
two_nodes_crashed = onto [] (
    Seed 0 ∷ Crash 2 ∷ Crash 3 ∷ Remove 0 2
    ∷ Remove 0 3 ∷ Remove 1 2 ∷ Remove 1 3 ∷ Hand 0 0 0
    ∷ Hand 0 0 1 ∷ Hand 0 1 0 ∷ []
    )

two_nodes_crashed-sweep : agrees (cluster 4 1) 0 two_nodes_crashed (2 ∷ 1 ∷ 0 ∷ 0 ∷ []) [] []
unfolding dead greatest lost_nodes
two_nodes_crashed-sweep = (refl, refl, refl, refl)

-- With that Final both are lost. No Final tells of the links between the two, and none is needed.
abbrev pub two_nodes_lost_together : List Event
two_nodes_lost_together = onto (Sweep 0 ∷ two_nodes_crashed) (
    Hand 0 1 1 ∷ []
    )

two_nodes_lost_together-sweep : agrees (cluster 4 1) 0 two_nodes_lost_together (2 ∷ 2 ∷ 0 ∷ 0 ∷ []) (2 ∷ 3 ∷ []) []
unfolding dead greatest lost_nodes
two_nodes_lost_together-sweep = (refl, refl, refl, refl)

-- The third bulletin alone is handed: nothing is folded.
abbrev pub handed_third_first : List Event
handed_third_first = onto [] (
    Seed 0 ∷ Flush (actor 0 0) ∷ Publish 0 ∷ Wake (actor 0 0)
    ∷ Flush (actor 0 0) ∷ Publish 0 ∷ Rest (actor 0 0) ∷ Flush (actor 0 0)
    ∷ Publish 0 ∷ Hand 0 0 2 ∷ []
    )

handed_third_first-sweep : agrees (cluster 1 1) 0 handed_third_first (0 ∷ []) [] []
unfolding dead greatest lost_nodes
handed_third_first-sweep = (refl, refl, refl, refl)

-- The first one is handed twice: it is folded, once.
abbrev pub handed_first_twice : List Event
handed_first_twice = onto (Sweep 0 ∷ handed_third_first) (
    Hand 0 0 0 ∷ Hand 0 0 0 ∷ []
    )

handed_first_twice-sweep : agrees (cluster 1 1) 0 handed_first_twice (1 ∷ []) [] []
unfolding dead greatest lost_nodes
handed_first_twice-sweep = (refl, refl, refl, refl)

-- With the second one all three are folded.
abbrev pub handed_second_last : List Event
handed_second_last = onto (Sweep 0 ∷ handed_first_twice) (
    Hand 0 0 1 ∷ []
    )

handed_second_last-sweep : agrees (cluster 1 1) 0 handed_second_last (3 ∷ []) [] []
unfolding dead greatest lost_nodes
handed_second_last-sweep = (refl, refl, refl, refl)

-- A root that nobody else holds retires, and is stopped.
abbrev pub retired_seed : List Event
retired_seed = onto [] (
    Seed 0 ∷ Wake (actor 0 0) ∷ Retire (actor 0 0) ∷ Rest (actor 0 0)
    ∷ Flush (actor 0 0) ∷ Publish 0 ∷ Hand 0 0 0 ∷ []
    )

retired_seed-sweep : agrees (cluster 1 1) 0 retired_seed (1 ∷ []) [] (stop (actor 0 0) 0 0 0 (actor 0 0 ∷ []) ∷ [])
unfolding dead greatest lost_nodes
retired_seed-sweep = (refl, refl, refl, refl)

-- A message that carries 0.2 waits for 0.1. It is told as sent and not as taken, so 0.1 is kept, and keeps 0.2.
abbrev pub untaken_message_marks_child : List Event
untaken_message_marks_child = onto [] (
    Seed 0 ∷ Wake (actor 0 0) ∷ Spawn (actor 0 0) ∷ Spawn (actor 0 0)
    ∷ Send (actor 0 0) (actor 0 1) (actor 0 2 ∷ []) ∷ Drop (actor 0 0) (actor 0 1) ∷ Drop (actor 0 0) (actor 0 2) ∷ Rest (actor 0 0)
    ∷ Flush (actor 0 0) ∷ Flush (actor 0 1) ∷ Flush (actor 0 2) ∷ Publish 0
    ∷ Hand 0 0 0 ∷ []
    )

untaken_message_marks_child-sweep : agrees (cluster 1 1) 0 untaken_message_marks_child (1 ∷ []) [] []
unfolding dead greatest lost_nodes
untaken_message_marks_child-sweep = (refl, refl, refl, refl)

-- The message is taken and that is told. Both are stopped, though 0.1 still holds 0.2.
abbrev pub taken_message_marks_none : List Event
taken_message_marks_none = onto (Sweep 0 ∷ untaken_message_marks_child) (
    Take (actor 0 1) ∷ Rest (actor 0 1) ∷ Flush (actor 0 1) ∷ Publish 0
    ∷ Hand 0 0 1 ∷ []
    )

taken_message_marks_none-sweep : agrees (cluster 1 1) 0 taken_message_marks_none (2 ∷ []) []
    (stop (actor 0 1) 1 1 0 (actor 0 1 ∷ []) ∷ stop (actor 0 2) 0 0 0 (actor 0 1 ∷ actor 0 2 ∷ []) ∷ [])
unfolding dead greatest lost_nodes
taken_message_marks_none-sweep = (refl, refl, refl, refl)

-- A root that holds another root retires, and is stopped.
abbrev pub retired_owner : List Event
retired_owner = onto [] (
    Seed 0 ∷ Seed 0 ∷ Tie (actor 0 0) (actor 0 1) ∷ Wake (actor 0 0)
    ∷ Retire (actor 0 0) ∷ Rest (actor 0 0) ∷ Flush (actor 0 0) ∷ Publish 0
    ∷ Hand 0 0 0 ∷ []
    )

retired_owner-sweep : agrees (cluster 1 1) 0 retired_owner (1 ∷ []) [] (stop (actor 0 0) 0 0 0 (actor 0 0 ∷ []) ∷ [])
unfolding dead greatest lost_nodes
retired_owner-sweep = (refl, refl, refl, refl)

-- Then the other root retires and is stopped, and the stopped one is told among its owners.
abbrev pub stopped_owner_is_told : List Event
stopped_owner_is_told = onto (Sweep 0 ∷ retired_owner) (
    Wake (actor 0 1) ∷ Retire (actor 0 1) ∷ Rest (actor 0 1) ∷ Flush (actor 0 1)
    ∷ Publish 0 ∷ Hand 0 0 1 ∷ []
    )

stopped_owner_is_told-sweep : agrees (cluster 1 1) 0 stopped_owner_is_told (2 ∷ []) []
    (stop (actor 0 1) 0 0 0 (actor 0 0 ∷ actor 0 1 ∷ []) ∷ [])
unfolding dead greatest lost_nodes
stopped_owner_is_told-sweep = (refl, refl, refl, refl)

-- In version 2 a child holds its parent. One that was never flushed marks it.
abbrev pub unflushed_child_marks_parent : List Event
unflushed_child_marks_parent = onto [] (
    Seed 0 ∷ Wake (actor 0 0) ∷ Spawn (actor 0 0) ∷ Retire (actor 0 0)
    ∷ Rest (actor 0 0) ∷ Flush (actor 0 0) ∷ Publish 0 ∷ Hand 0 0 0 ∷ []
    )

unflushed_child_marks_parent-sweep : agrees (cluster 1 2) 0 unflushed_child_marks_parent (1 ∷ []) [] []
unfolding dead greatest lost_nodes
unflushed_child_marks_parent-sweep = (refl, refl, refl, refl)

-- In version 1 the same child keeps nobody.
abbrev pub unflushed_child_version_1 : List Event
unflushed_child_version_1 = onto [] (
    Seed 0 ∷ Wake (actor 0 0) ∷ Spawn (actor 0 0) ∷ Retire (actor 0 0)
    ∷ Rest (actor 0 0) ∷ Flush (actor 0 0) ∷ Publish 0 ∷ Hand 0 0 0 ∷ []
    )

unflushed_child_version_1-sweep : agrees (cluster 1 1) 0 unflushed_child_version_1 (1 ∷ []) []
    (stop (actor 0 0) 0 0 0 (actor 0 0 ∷ []) ∷ [])
unfolding dead greatest lost_nodes
unflushed_child_version_1-sweep = (refl, refl, refl, refl)

-- In version 2 a child that a root holds keeps its parent, though the parent retired and nobody else holds it.
abbrev pub held_child_keeps_parent : List Event
held_child_keeps_parent = onto [] (
    Seed 0 ∷ Seed 0 ∷ Tie (actor 0 0) (actor 0 1) ∷ Wake (actor 0 0)
    ∷ Spawn (actor 0 0) ∷ Send (actor 0 0) (actor 0 1) (actor 0 2 ∷ []) ∷ Drop (actor 0 0) (actor 0 2) ∷ Drop (actor 0 0) (actor 0 1)
    ∷ Retire (actor 0 0) ∷ Rest (actor 0 0) ∷ Take (actor 0 1) ∷ Rest (actor 0 1)
    ∷ Flush (actor 0 0) ∷ Flush (actor 0 1) ∷ Flush (actor 0 2) ∷ Publish 0
    ∷ Hand 0 0 0 ∷ []
    )

held_child_keeps_parent-sweep : agrees (cluster 1 2) 0 held_child_keeps_parent (1 ∷ []) [] []
unfolding dead greatest lost_nodes
held_child_keeps_parent-sweep = (refl, refl, refl, refl)

-- When the root drops the child, parent and child are stopped together.
abbrev pub parent_outlives_child : List Event
parent_outlives_child = onto (Sweep 0 ∷ held_child_keeps_parent) (
    Wake (actor 0 1) ∷ Drop (actor 0 1) (actor 0 2) ∷ Rest (actor 0 1) ∷ Flush (actor 0 1)
    ∷ Publish 0 ∷ Hand 0 0 1 ∷ []
    )

parent_outlives_child-sweep : agrees (cluster 1 2) 0 parent_outlives_child (2 ∷ []) []
    (stop (actor 0 0) 0 0 0 (actor 0 0 ∷ actor 0 2 ∷ []) ∷ stop (actor 0 2) 0 0 0 (actor 0 2 ∷ []) ∷ [])
unfolding dead greatest lost_nodes
parent_outlives_child-sweep = (refl, refl, refl, refl)
