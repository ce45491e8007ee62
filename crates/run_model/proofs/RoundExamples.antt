-- The round, computed on worked histories.
use Rattle.std.specs.Prelude.{◌≡◌, ℕ, List, [], ◌∷◌, ◌++◌, map, refl}
use Rattle.std.specs.List.{filter, range_with_len}
use Rattle.crgc_ids.specs.Actor.{Actor}
use Rattle.crgc_ids.specs.Greatest.{greatest}
use Rattle.crgc_ids.specs.LostNodes.{lost_nodes}
use Rattle.crgc_ids.specs.Members.{IsAmong}
use Rattle.history_model.specs.declared.events.Event.{Event}
use Rattle.history_model.specs.declared.events.Event.TheVariants.{Seed, Tie, Wake, Take, Spawn, Send, Drop, Rest, Flush, Publish, Window, Admit, Lose, Crash, Remove, Hand, Sweep}
use Rattle.history_model.specs.Cluster.{Cluster}
use Rattle.history_model.specs.Graph.{dead}
use Rattle.history_model.specs.Quiescent.{IsQuiescent}
use Rattle.history_model.specs.Rows.{actor, cluster, onto}
use Rattle.history_model.specs.Sweeps.{is_stopped}
use Rattle.history_model.proofs.ExamplesTests.{quiet_set-test}
use Rattle.run_model.specs.Round.{round}

-- the round after the first events adds the others, in their order
abbrev RoundAdds : Cluster → List Event → List Event → Type 0
RoundAdds cl before added = round cl (onto [] before) ≡ onto (onto [] before) added

-- the round after the first events stops these of the first actors of three nodes
abbrev StopsAfterRound : Cluster → List Event → List Actor → Type 0
StopsAfterRound cl before stopped = filter (λ a. is_stopped cl a (round cl (onto [] before))) (actor 0 0 ∷ actor 0 1 ∷ actor 1 0 ∷ actor 1 1 ∷ actor 2 0 ∷ []) ≡ stopped

-- One turn, with the budget spent: two messages are admitted, and nobody took them. All actors are on nodes that are up.
abbrev one_turn : List Event
one_turn =
    Seed 0 ∷ Seed 1 ∷ Seed 2 ∷ Tie (actor 0 0) (actor 1 0) ∷ Tie (actor 0 0) (actor 2 0) ∷ Wake (actor 0 0) ∷
    Spawn (actor 0 0) ∷ Send (actor 0 0) (actor 1 0) (actor 0 1 ∷ []) ∷ Send (actor 0 0) (actor 2 0) (actor 0 1 ∷ []) ∷
    Drop (actor 0 0) (actor 0 1) ∷ Rest (actor 0 0) ∷ Admit 0 1 0 ∷ Admit 0 2 0 ∷ []

one_turn-round : RoundAdds (cluster 3 2) one_turn (
    Window 1 0 ∷ Window 2 0 ∷ Flush (actor 0 0) ∷ Flush (actor 0 1) ∷ Publish 0 ∷ Flush (actor 1 0) ∷ Publish 1 ∷
    Flush (actor 2 0) ∷ Publish 2 ∷ Hand 0 0 0 ∷ Hand 0 1 0 ∷ Hand 0 1 1 ∷ Hand 0 2 0 ∷ Hand 0 2 1 ∷ Hand 1 0 0 ∷
    Hand 1 1 0 ∷ Hand 1 1 1 ∷ Hand 1 2 0 ∷ Hand 1 2 1 ∷ Hand 2 0 0 ∷ Hand 2 1 0 ∷ Hand 2 1 1 ∷ Hand 2 2 0 ∷
    Hand 2 2 1 ∷ Sweep 0 ∷ Sweep 1 ∷ Sweep 2 ∷ []
    )
one_turn-round = refl

one_turn-stopped : StopsAfterRound (cluster 3 2) one_turn []
unfolding dead greatest lost_nodes
one_turn-stopped = refl

-- Node 2 crashed: the nodes that are up remove it, and nothing is asked of it.
abbrev maker_friend_poke : List Event
maker_friend_poke =
    Seed 0 ∷ Seed 1 ∷ Seed 2 ∷ Tie (actor 0 0) (actor 1 0) ∷ Tie (actor 0 0) (actor 2 0) ∷ Wake (actor 0 0) ∷
    Spawn (actor 0 0) ∷ Send (actor 0 0) (actor 1 0) (actor 0 1 ∷ []) ∷ Send (actor 0 0) (actor 2 0) (actor 0 1 ∷ []) ∷
    Drop (actor 0 0) (actor 0 1) ∷ Rest (actor 0 0) ∷ Admit 0 1 0 ∷ Admit 0 2 0 ∷ Take (actor 1 0) ∷
    Spawn (actor 1 0) ∷ Send (actor 1 0) (actor 0 1) (actor 1 1 ∷ []) ∷ Send (actor 1 0) (actor 1 1) (actor 0 1 ∷ []) ∷
    Drop (actor 1 0) (actor 1 1) ∷ Drop (actor 1 0) (actor 0 1) ∷ Rest (actor 1 0) ∷ Admit 1 0 0 ∷ Take (actor 0 1) ∷
    Rest (actor 0 1) ∷ Take (actor 1 1) ∷ Rest (actor 1 1) ∷ Take (actor 2 0) ∷ Send (actor 2 0) (actor 0 1) [] ∷
    Drop (actor 2 0) (actor 0 1) ∷ Rest (actor 2 0) ∷ Crash 2 ∷ Admit 2 0 0 ∷ Take (actor 0 1) ∷ Rest (actor 0 1) ∷ []

maker_friend_poke-round : RoundAdds (cluster 3 2) maker_friend_poke (
    Remove 0 2 ∷ Remove 1 2 ∷ Window 0 1 ∷ Window 1 0 ∷ Flush (actor 0 0) ∷ Flush (actor 0 1) ∷ Publish 0 ∷
    Flush (actor 1 0) ∷ Flush (actor 1 1) ∷ Publish 1 ∷ Hand 0 0 0 ∷ Hand 0 0 1 ∷ Hand 0 0 2 ∷ Hand 0 1 0 ∷
    Hand 0 1 1 ∷ Hand 0 1 2 ∷ Hand 1 0 0 ∷ Hand 1 0 1 ∷ Hand 1 0 2 ∷ Hand 1 1 0 ∷ Hand 1 1 1 ∷ Hand 1 1 2 ∷ Sweep 0 ∷
    Sweep 1 ∷ []
    )
maker_friend_poke-round = refl

maker_friend_poke-stopped : StopsAfterRound (cluster 3 2) maker_friend_poke (actor 0 1 ∷ actor 1 1 ∷ [])
unfolding dead greatest lost_nodes
maker_friend_poke-stopped = refl

-- The same, but the copy on the link from node 1 to node 0 was lost: the round does not come to a quiet point, and stops nobody.
abbrev lost_between_nodes : List Event
lost_between_nodes =
    Seed 0 ∷ Seed 1 ∷ Seed 2 ∷ Tie (actor 0 0) (actor 1 0) ∷ Tie (actor 0 0) (actor 2 0) ∷ Wake (actor 0 0) ∷
    Spawn (actor 0 0) ∷ Send (actor 0 0) (actor 1 0) (actor 0 1 ∷ []) ∷ Send (actor 0 0) (actor 2 0) (actor 0 1 ∷ []) ∷
    Drop (actor 0 0) (actor 0 1) ∷ Rest (actor 0 0) ∷ Admit 0 1 0 ∷ Admit 0 2 0 ∷ Take (actor 1 0) ∷
    Spawn (actor 1 0) ∷ Send (actor 1 0) (actor 0 1) (actor 1 1 ∷ []) ∷ Send (actor 1 0) (actor 1 1) (actor 0 1 ∷ []) ∷
    Drop (actor 1 0) (actor 1 1) ∷ Drop (actor 1 0) (actor 0 1) ∷ Rest (actor 1 0) ∷ Lose 1 0 0 ∷ Take (actor 1 1) ∷
    Rest (actor 1 1) ∷ Take (actor 2 0) ∷ Send (actor 2 0) (actor 0 1) [] ∷ Drop (actor 2 0) (actor 0 1) ∷
    Rest (actor 2 0) ∷ Crash 2 ∷ Admit 2 0 0 ∷ Take (actor 0 1) ∷ Rest (actor 0 1) ∷ Remove 0 2 ∷ []

lost_between_nodes-round : RoundAdds (cluster 3 2) lost_between_nodes (
    Remove 1 2 ∷ Window 1 0 ∷ Flush (actor 0 0) ∷ Flush (actor 0 1) ∷ Publish 0 ∷ Flush (actor 1 0) ∷
    Flush (actor 1 1) ∷ Publish 1 ∷ Hand 0 0 0 ∷ Hand 0 0 1 ∷ Hand 0 1 0 ∷ Hand 0 1 1 ∷ Hand 0 1 2 ∷ Hand 1 0 0 ∷
    Hand 1 0 1 ∷ Hand 1 1 0 ∷ Hand 1 1 1 ∷ Hand 1 1 2 ∷ Sweep 0 ∷ Sweep 1 ∷ []
    )
lost_between_nodes-round = refl

lost_between_nodes-stopped : StopsAfterRound (cluster 3 2) lost_between_nodes []
unfolding dead greatest lost_nodes
lost_between_nodes-stopped = refl

-- Still both are quiescent.
lost_between_nodes-quiescent : (a : Actor) → IsAmong a (actor 0 1 ∷ actor 1 1 ∷ []) → IsQuiescent (cluster 3 2) (round (cluster 3 2) (onto [] lost_between_nodes)) a
lost_between_nodes-quiescent a among =
    let unstopped : List Actor = actor 0 1 ∷ actor 1 1 ∷ [] in
    (unstopped, among, quiet_set-test (cluster 3 2) (round (cluster 3 2) (onto [] lost_between_nodes)) unstopped refl refl)

-- Node 1 crashed while a message of it was under way.
abbrev crash_after_18_events : List Event
crash_after_18_events =
    Seed 0 ∷ Seed 1 ∷ Tie (actor 0 0) (actor 1 0) ∷ Wake (actor 0 0) ∷ Spawn (actor 0 0) ∷ Wake (actor 1 0) ∷
    Spawn (actor 1 0) ∷ Send (actor 0 0) (actor 1 0) (actor 0 1 ∷ []) ∷ Rest (actor 1 0) ∷ Admit 0 1 0 ∷
    Take (actor 1 0) ∷ Send (actor 1 0) (actor 0 1) (actor 1 1 ∷ []) ∷ Send (actor 1 0) (actor 1 1) (actor 0 1 ∷ []) ∷
    Drop (actor 1 0) (actor 0 1) ∷ Drop (actor 1 0) (actor 1 1) ∷ Rest (actor 1 0) ∷ Drop (actor 0 0) (actor 0 1) ∷
    Rest (actor 0 0) ∷ Crash 1 ∷ []

crash_after_18_events-round : RoundAdds (cluster 2 1) crash_after_18_events (
    Remove 0 1 ∷ Flush (actor 0 0) ∷ Flush (actor 0 1) ∷ Publish 0 ∷ Hand 0 0 0 ∷ Hand 0 0 1 ∷ Sweep 0 ∷ []
    )
crash_after_18_events-round = refl

crash_after_18_events-stopped : StopsAfterRound (cluster 2 1) crash_after_18_events (actor 0 1 ∷ [])
unfolding dead greatest lost_nodes
crash_after_18_events-stopped = refl

-- Node 1 crashed after its message was admitted and taken.
abbrev crash_after_21_events : List Event
crash_after_21_events =
    Seed 0 ∷ Seed 1 ∷ Tie (actor 0 0) (actor 1 0) ∷ Wake (actor 0 0) ∷ Spawn (actor 0 0) ∷ Wake (actor 1 0) ∷
    Spawn (actor 1 0) ∷ Send (actor 0 0) (actor 1 0) (actor 0 1 ∷ []) ∷ Rest (actor 1 0) ∷ Admit 0 1 0 ∷
    Take (actor 1 0) ∷ Send (actor 1 0) (actor 0 1) (actor 1 1 ∷ []) ∷ Send (actor 1 0) (actor 1 1) (actor 0 1 ∷ []) ∷
    Drop (actor 1 0) (actor 0 1) ∷ Drop (actor 1 0) (actor 1 1) ∷ Rest (actor 1 0) ∷ Drop (actor 0 0) (actor 0 1) ∷
    Rest (actor 0 0) ∷ Admit 1 0 0 ∷ Take (actor 0 1) ∷ Rest (actor 0 1) ∷ Crash 1 ∷ []

crash_after_21_events-round : RoundAdds (cluster 2 1) crash_after_21_events (
    Remove 0 1 ∷ Flush (actor 0 0) ∷ Flush (actor 0 1) ∷ Publish 0 ∷ Hand 0 0 0 ∷ Hand 0 0 1 ∷ Sweep 0 ∷ []
    )
crash_after_21_events-round = refl

crash_after_21_events-stopped : StopsAfterRound (cluster 2 1) crash_after_21_events (actor 0 1 ∷ [])
unfolding dead greatest lost_nodes
crash_after_21_events-stopped = refl

-- the seeds of node 0 from a number on, so many, each flushed
abbrev flushed_seeds : ℕ → ℕ → List Event
flushed_seeds s n = map (λ k. Flush (actor 0 k)) (range_with_len s n)

-- Seventy seeds on node 0, of which three were flushed before: after every 32 flushes of the round comes a publish, whatever
-- was queued before, and at the end one for the rest.
abbrev many_seeds : List Event
many_seeds = map (λ _. Seed 0) (range_with_len 0 70) ++ flushed_seeds 0 3

many_seeds-round : RoundAdds (cluster 1 1) many_seeds (
    flushed_seeds 3 32 ++ Publish 0 ∷ (flushed_seeds 35 32 ++ Publish 0 ∷ (flushed_seeds 67 3
    ++ Publish 0 ∷ Hand 0 0 0 ∷ Hand 0 0 1 ∷ Hand 0 0 2 ∷ Sweep 0 ∷ []))
    )
many_seeds-round = refl

-- A round in the midst of a turn. The bulletins that were handed already are not handed again, in whatever order they were.
abbrev in_a_turn : List Event
in_a_turn =
    Seed 0 ∷ Flush (actor 0 0) ∷ Publish 0 ∷ Wake (actor 0 0) ∷ Flush (actor 0 0) ∷ Publish 0 ∷ Hand 0 0 1 ∷ Spawn (actor 0 0) ∷ Flush (actor 0 1) ∷ []

in_a_turn-round : RoundAdds (cluster 1 2) in_a_turn (Flush (actor 0 0) ∷ Publish 0 ∷ Hand 0 0 0 ∷ Hand 0 0 2 ∷ Sweep 0 ∷ [])
in_a_turn-round = refl

-- What a round did needs no second one: that only sweeps.
in_a_turn-again : round (cluster 1 2) (round (cluster 1 2) (onto [] in_a_turn)) ≡ Sweep 0 ∷ round (cluster 1 2) (onto [] in_a_turn)
in_a_turn-again = refl
