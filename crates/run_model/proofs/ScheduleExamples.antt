-- The fixed schedule, computed on worked scripts.
use Rattle.std.specs.Prelude.{◌≡◌, ℕ, List, [], ◌∷◌, ◌++◌, length, map, flat_map, refl}
use Rattle.std.specs.List.{range_with_len}
use Rattle.history_model.specs.declared.events.Event.{Event}
use Rattle.history_model.specs.declared.events.Event.TheVariants.{Seed, Tie, Wake, Take, Spawn, Send, Drop, Retire, Rest, Flush, Publish, Window, Admit, Lose, Repeat, Crash, Remove, Hand, Sweep}
use Rattle.history_model.specs.Cluster.{births}
use Rattle.history_model.specs.Live.{actors_of}
use Rattle.history_model.specs.Rows.{actor, onto}
use Rattle.history_model.specs.Sweeps.{is_stopped}
use Rattle.history_model.specs.Tally.{tally}
use Rattle.history_model.specs.Graph.{dead}
use Rattle.crgc_ids.specs.Greatest.{greatest}
use Rattle.crgc_ids.specs.LostNodes.{lost_nodes}
use Rattle.script_reader.specs.Valid.{Scripted}
use Rattle.fault_plan.specs.Rows.{link_row}
use Rattle.run_model.specs.Doing.{cluster_of}
use Rattle.run_model.specs.Round.{round}
use Rattle.run_model.specs.Schedule.{IsDone, IsFixed, schedule}
use Rattle.run_model.proofs.Scripts.{breeder, crash, keepers, maker_friend_poke, quitters, small_workload}

-- Messages, a crash that comes with the end of a turn, and a message of the crashed node.

abbrev poked : List Event
poked =
    Seed 0 ∷ Seed 1 ∷ Seed 2 ∷ Tie (actor 0 0) (actor 1 0) ∷ Tie (actor 0 0) (actor 2 0) ∷ Wake (actor 0 0) ∷
    Spawn (actor 0 0) ∷ Send (actor 0 0) (actor 1 0) (actor 0 1 ∷ []) ∷ Send (actor 0 0) (actor 2 0) (actor 0 1 ∷ []) ∷
    Drop (actor 0 0) (actor 0 1) ∷ Rest (actor 0 0) ∷ Admit 0 1 0 ∷ Admit 0 2 0 ∷ Take (actor 1 0) ∷
    Spawn (actor 1 0) ∷ Send (actor 1 0) (actor 0 1) (actor 1 1 ∷ []) ∷ Send (actor 1 0) (actor 1 1) (actor 0 1 ∷ []) ∷
    Drop (actor 1 0) (actor 1 1) ∷ Drop (actor 1 0) (actor 0 1) ∷ Rest (actor 1 0) ∷ Admit 1 0 0 ∷ Take (actor 0 1) ∷
    Rest (actor 0 1) ∷ Take (actor 1 1) ∷ Rest (actor 1 1) ∷ Take (actor 2 0) ∷ Send (actor 2 0) (actor 0 1) [] ∷
    Drop (actor 2 0) (actor 0 1) ∷ Rest (actor 2 0) ∷ Crash 2 ∷ Admit 2 0 0 ∷ Take (actor 0 1) ∷ Rest (actor 0 1) ∷ []

poked-round : List Event
poked-round =
    Remove 0 2 ∷ Remove 1 2 ∷ Window 0 1 ∷ Window 1 0 ∷ Flush (actor 0 0) ∷ Flush (actor 0 1) ∷ Publish 0 ∷
    Flush (actor 1 0) ∷ Flush (actor 1 1) ∷ Publish 1 ∷ Hand 0 0 0 ∷ Hand 0 0 1 ∷ Hand 0 0 2 ∷ Hand 0 1 0 ∷
    Hand 0 1 1 ∷ Hand 0 1 2 ∷ Hand 1 0 0 ∷ Hand 1 0 1 ∷ Hand 1 0 2 ∷ Hand 1 1 0 ∷ Hand 1 1 1 ∷ Hand 1 1 2 ∷ Sweep 0 ∷
    Sweep 1 ∷ []

poked-fixed : IsFixed (maker_friend_poke [] [] 100) (onto (onto [] poked) poked-round)
unfolding poked-round
poked-fixed = (10, refl, refl)

-- The budget of one turn is spent, and the messages that wait are not taken.

one_turn-fixed : IsFixed (maker_friend_poke [] [] 1) (onto [] (
    Seed 0 ∷ Seed 1 ∷ Seed 2 ∷ Tie (actor 0 0) (actor 1 0) ∷ Tie (actor 0 0) (actor 2 0) ∷ Wake (actor 0 0) ∷
    Spawn (actor 0 0) ∷ Send (actor 0 0) (actor 1 0) (actor 0 1 ∷ []) ∷ Send (actor 0 0) (actor 2 0) (actor 0 1 ∷ []) ∷
    Drop (actor 0 0) (actor 0 1) ∷ Rest (actor 0 0) ∷ Admit 0 1 0 ∷ Admit 0 2 0 ∷
    Window 1 0 ∷ Window 2 0 ∷ Flush (actor 0 0) ∷ Flush (actor 0 1) ∷ Publish 0 ∷ Flush (actor 1 0) ∷ Publish 1 ∷
    Flush (actor 2 0) ∷ Publish 2 ∷ Hand 0 0 0 ∷ Hand 0 1 0 ∷ Hand 0 1 1 ∷ Hand 0 2 0 ∷ Hand 0 2 1 ∷ Hand 1 0 0 ∷
    Hand 1 1 0 ∷ Hand 1 1 1 ∷ Hand 1 2 0 ∷ Hand 1 2 1 ∷ Hand 2 0 0 ∷ Hand 2 1 0 ∷ Hand 2 1 1 ∷ Hand 2 2 0 ∷
    Hand 2 2 1 ∷ Sweep 0 ∷ Sweep 1 ∷ Sweep 2 ∷ []
    ))
one_turn-fixed = (3, refl, refl)

-- A copy is lost where the plan says so: the message is never taken.

lost-fixed : IsFixed (maker_friend_poke (link_row 1 0 0 ∷ []) [] 100) (onto [] (
    Seed 0 ∷ Seed 1 ∷ Seed 2 ∷ Tie (actor 0 0) (actor 1 0) ∷ Tie (actor 0 0) (actor 2 0) ∷ Wake (actor 0 0) ∷
    Spawn (actor 0 0) ∷ Send (actor 0 0) (actor 1 0) (actor 0 1 ∷ []) ∷ Send (actor 0 0) (actor 2 0) (actor 0 1 ∷ []) ∷
    Drop (actor 0 0) (actor 0 1) ∷ Rest (actor 0 0) ∷ Admit 0 1 0 ∷ Admit 0 2 0 ∷ Take (actor 1 0) ∷
    Spawn (actor 1 0) ∷ Send (actor 1 0) (actor 0 1) (actor 1 1 ∷ []) ∷ Send (actor 1 0) (actor 1 1) (actor 0 1 ∷ []) ∷
    Drop (actor 1 0) (actor 1 1) ∷ Drop (actor 1 0) (actor 0 1) ∷ Rest (actor 1 0) ∷ Lose 1 0 0 ∷ Take (actor 1 1) ∷
    Rest (actor 1 1) ∷ Take (actor 2 0) ∷ Send (actor 2 0) (actor 0 1) [] ∷ Drop (actor 2 0) (actor 0 1) ∷
    Rest (actor 2 0) ∷ Crash 2 ∷ Admit 2 0 0 ∷ Take (actor 0 1) ∷ Rest (actor 0 1) ∷ Remove 0 2 ∷ Remove 1 2 ∷
    Window 1 0 ∷ Flush (actor 0 0) ∷ Flush (actor 0 1) ∷ Publish 0 ∷ Flush (actor 1 0) ∷ Flush (actor 1 1) ∷ Publish 1 ∷
    Hand 0 0 0 ∷ Hand 0 0 1 ∷ Hand 0 1 0 ∷ Hand 0 1 1 ∷ Hand 0 1 2 ∷ Hand 1 0 0 ∷ Hand 1 0 1 ∷ Hand 1 1 0 ∷
    Hand 1 1 1 ∷ Hand 1 1 2 ∷ Sweep 0 ∷ Sweep 1 ∷ []
    ))
lost-fixed = (9, refl, refl)

-- A copy is repeated first and then admitted, and the second copy is discarded.

repeated-next : schedule (maker_friend_poke [] (link_row 0 2 0 ∷ []) 100) 4 ≡ onto [] (
    Seed 0 ∷ Seed 1 ∷ Seed 2 ∷ Tie (actor 0 0) (actor 1 0) ∷ Tie (actor 0 0) (actor 2 0) ∷ Wake (actor 0 0) ∷
    Spawn (actor 0 0) ∷ Send (actor 0 0) (actor 1 0) (actor 0 1 ∷ []) ∷ Send (actor 0 0) (actor 2 0) (actor 0 1 ∷ []) ∷
    Drop (actor 0 0) (actor 0 1) ∷ Rest (actor 0 0) ∷ Admit 0 1 0 ∷ Repeat 0 2 0 ∷ Admit 0 2 0 ∷ []
    )
repeated-next = refl

-- Of the rows for one copy the repeat is used first and then the loss, each once; the copy that is left is admitted.

both_rows-next : schedule (maker_friend_poke (link_row 0 2 0 ∷ []) (link_row 0 2 0 ∷ []) 100) 5 ≡ onto [] (
    Seed 0 ∷ Seed 1 ∷ Seed 2 ∷ Tie (actor 0 0) (actor 1 0) ∷ Tie (actor 0 0) (actor 2 0) ∷ Wake (actor 0 0) ∷
    Spawn (actor 0 0) ∷ Send (actor 0 0) (actor 1 0) (actor 0 1 ∷ []) ∷ Send (actor 0 0) (actor 2 0) (actor 0 1 ∷ []) ∷
    Drop (actor 0 0) (actor 0 1) ∷ Rest (actor 0 0) ∷ Admit 0 1 0 ∷ Repeat 0 2 0 ∷ Lose 0 2 0 ∷ Admit 0 2 0 ∷ []
    )
both_rows-next = refl

-- The lowest actor is woken first, whatever the order of the rows; and a wake that is left of who is no root is not planned.

quitters-fixed : IsFixed quitters (onto [] (
    Seed 1 ∷ Seed 0 ∷ Wake (actor 0 0) ∷ Retire (actor 0 0) ∷ Rest (actor 0 0) ∷ Wake (actor 1 0) ∷ Retire (actor 1 0) ∷ Rest (actor 1 0) ∷
    Flush (actor 0 0) ∷ Publish 0 ∷ Flush (actor 1 0) ∷ Publish 1 ∷ Hand 0 0 0 ∷ Hand 0 1 0 ∷ Hand 1 0 0 ∷ Hand 1 1 0 ∷
    Sweep 0 ∷ Sweep 1 ∷ []
    ))
quitters-fixed = (2, refl, refl)

-- A name that is kept at the very end of a turn is there in the next one: the second `keep` drops what the first one bound.

keepers-fixed : IsFixed keepers (onto [] (
    Seed 0 ∷ Seed 0 ∷ Tie (actor 0 0) (actor 0 1) ∷
    Wake (actor 0 0) ∷ Send (actor 0 0) (actor 0 1) (actor 0 1 ∷ []) ∷ Rest (actor 0 0) ∷ Take (actor 0 1) ∷ Rest (actor 0 1) ∷
    Wake (actor 0 0) ∷ Send (actor 0 0) (actor 0 1) (actor 0 1 ∷ []) ∷ Rest (actor 0 0) ∷
    Take (actor 0 1) ∷ Drop (actor 0 1) (actor 0 1) ∷ Rest (actor 0 1) ∷
    Flush (actor 0 0) ∷ Flush (actor 0 1) ∷ Publish 0 ∷ Hand 0 0 0 ∷ Sweep 0 ∷ []
    ))
keepers-fixed = (4, refl, refl)

-- A generated workload: how many actors were born and stopped on each node.

abbrev workload_end : List Event
workload_end = round (cluster_of small_workload) (schedule small_workload 6)

abbrev stopped_on : Scripted → ℕ → List Event → ℕ
stopped_on s n h = tally (λ a. is_stopped (cluster_of s) a h) (actors_of n h)

workload-done : IsDone small_workload 6
workload-done = refl

workload-births : map (λ n. births n workload_end) (0 ∷ 1 ∷ 2 ∷ 3 ∷ []) ≡ 5 ∷ 5 ∷ 6 ∷ 6 ∷ []
workload-births = refl

workload-stops : map (λ n. stopped_on small_workload n workload_end) (0 ∷ 1 ∷ 2 ∷ 3 ∷ []) ≡ 0 ∷ 0 ∷ 1 ∷ 1 ∷ []
unfolding dead greatest lost_nodes
workload-stops = refl

-- Seventy turns: a round after the 64th, and one that closes the run. Each turn gives birth to a child, in the place of the
-- one before; in the first round of the seed and its 64 children the node publishes after the 32nd and the 64th flush.

abbrev breeder_turn : ℕ → List Event
breeder_turn i = Wake (actor 0 0) ∷ Drop (actor 0 0) (actor 0 i) ∷ Spawn (actor 0 0) ∷ Rest (actor 0 0) ∷ []

abbrev flushes_of : ℕ → ℕ → List Event
flushes_of from count = map (λ i. Flush (actor 0 i)) (range_with_len from count)

abbrev breeder_run : List Event
breeder_run =
    Seed 0 ∷ Wake (actor 0 0) ∷ Spawn (actor 0 0) ∷ Rest (actor 0 0)
    ∷ flat_map breeder_turn (range_with_len 1 63)
    ++ flushes_of 0 32 ++ Publish 0 ∷ flushes_of 32 32 ++ Publish 0 ∷ flushes_of 64 1 ++ Publish 0
    ∷ Hand 0 0 0 ∷ Hand 0 0 1 ∷ Hand 0 0 2 ∷ Sweep 0
    ∷ flat_map breeder_turn (range_with_len 64 6)
    ++ flushes_of 0 1 ++ flushes_of 65 6 ++ Publish 0 ∷ Hand 0 0 3 ∷ Sweep 0 ∷ []

breeder-fixed : IsFixed (breeder [] 70) (onto [] breeder_run)
breeder-fixed = (70, refl, refl)

breeder-length : length breeder_run ≡ 362
breeder-length = refl

-- Where the 64th turn brings its node's crash, that comes before the round, in which nobody is left to do anything.

breeder-crashed : IsFixed (breeder (crash 0 64 ∷ []) 70) (onto [] (
    Seed 0 ∷ Wake (actor 0 0) ∷ Spawn (actor 0 0) ∷ Rest (actor 0 0) ∷ flat_map breeder_turn (range_with_len 1 63) ++ Crash 0 ∷ []
    ))
breeder-crashed = (64, refl, refl)
