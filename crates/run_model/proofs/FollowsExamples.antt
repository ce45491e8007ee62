-- Which histories follow a script, computed on worked ones and on ones that are spoiled at one event.
use Rattle.std.specs.Prelude.{◌≡◌, ℕ, true, false, List, [], ◌∷◌, ◌++◌, map, refl, Some, None}
use Rattle.std.specs.List.{range_with_len}
use Rattle.history_model.specs.declared.events.Event.{Event}
use Rattle.history_model.specs.declared.events.Event.TheVariants.{Seed, Wake, Take, Spawn, Send, Drop, Retire, Rest, Flush, Publish, Window, Admit, Lose, Repeat, Crash, Remove, Hand, Sweep}
use Rattle.history_model.specs.Rows.{actor, onto}
use Rattle.script_reader.specs.Valid.{Scripted}
use Rattle.run_model.specs.Planned.{is_possible}
use Rattle.run_model.specs.Doing.{beginning}
use Rattle.run_model.specs.Follows.{Follows, added, are_allowed, begins_operation, is_allowed, is_over}
use Rattle.run_model.specs.Schedule.{schedule}
use Rattle.run_model.proofs.Scripts.{breeder, maker_friend_poke, pair, quitters}

-- The fixed schedule of a script of less than 64 turns follows it.

abbrev poked : List Event
poked =
    Wake (actor 0 0) ∷ Spawn (actor 0 0) ∷ Send (actor 0 0) (actor 1 0) (actor 0 1 ∷ []) ∷
    Send (actor 0 0) (actor 2 0) (actor 0 1 ∷ []) ∷ Drop (actor 0 0) (actor 0 1) ∷ Rest (actor 0 0) ∷ Admit 0 1 0 ∷
    Admit 0 2 0 ∷ Take (actor 1 0) ∷ Spawn (actor 1 0) ∷ Send (actor 1 0) (actor 0 1) (actor 1 1 ∷ []) ∷
    Send (actor 1 0) (actor 1 1) (actor 0 1 ∷ []) ∷ Drop (actor 1 0) (actor 1 1) ∷ Drop (actor 1 0) (actor 0 1) ∷
    Rest (actor 1 0) ∷ Admit 1 0 0 ∷ Take (actor 0 1) ∷ Rest (actor 0 1) ∷ Take (actor 1 1) ∷ Rest (actor 1 1) ∷
    Take (actor 2 0) ∷ Send (actor 2 0) (actor 0 1) [] ∷ Drop (actor 2 0) (actor 0 1) ∷ Rest (actor 2 0) ∷ Crash 2 ∷
    Admit 2 0 0 ∷ Take (actor 0 1) ∷ Rest (actor 0 1) ∷ []

abbrev poked-round : List Event
poked-round =
    Remove 0 2 ∷ Remove 1 2 ∷ Window 0 1 ∷ Window 1 0 ∷ Flush (actor 0 0) ∷ Flush (actor 0 1) ∷ Publish 0 ∷
    Flush (actor 1 0) ∷ Flush (actor 1 1) ∷ Publish 1 ∷ Hand 0 0 0 ∷ Hand 0 0 1 ∷ Hand 0 0 2 ∷ Hand 0 1 0 ∷
    Hand 0 1 1 ∷ Hand 0 1 2 ∷ Hand 1 0 0 ∷ Hand 1 0 1 ∷ Hand 1 0 2 ∷ Hand 1 1 0 ∷ Hand 1 1 1 ∷ Hand 1 1 2 ∷ Sweep 0 ∷
    Sweep 1 ∷ []

abbrev after : Scripted → List Event → List Event
after s events = onto (beginning s) events

poked-follows : Follows (maker_friend_poke [] [] 100) (onto (after (maker_friend_poke [] [] 100) poked) poked-round)
poked-follows = (after (maker_friend_poke [] [] 100) poked, (onto [] poked, refl, refl), refl, refl)

-- Turns interleave; a node tells, is told and sweeps in between; a copy is repeated; node 1 crashes with the second turn that
-- ends there, while another actor of it is in the middle of its turn.

abbrev paired : List Event
paired =
    Wake (actor 0 0) ∷ Wake (actor 1 0) ∷ Spawn (actor 0 0) ∷ Wake (actor 1 1) ∷ Spawn (actor 1 0) ∷
    Send (actor 0 0) (actor 1 0) (actor 0 1 ∷ actor 0 1 ∷ []) ∷ Flush (actor 0 0) ∷ Repeat 0 1 0 ∷ Drop (actor 1 0) (actor 1 2) ∷ Rest (actor 1 0) ∷
    Rest (actor 0 0) ∷ Admit 0 1 0 ∷ Publish 0 ∷ Take (actor 1 0) ∷ Hand 0 0 0 ∷ Hand 1 0 0 ∷ Sweep 1 ∷ Spawn (actor 1 1) ∷
    Window 1 0 ∷ Admit 0 1 0 ∷ Drop (actor 1 0) (actor 0 1) ∷ Sweep 0 ∷ Rest (actor 1 0) ∷ Crash 1 ∷ []

abbrev paired-round : List Event
paired-round =
    Remove 0 1 ∷ Flush (actor 0 0) ∷ Flush (actor 0 1) ∷ Publish 0 ∷ Hand 0 0 1 ∷ Hand 0 0 2 ∷ Hand 0 1 0 ∷ Sweep 0 ∷ []

paired-follows : Follows pair (onto (after pair paired) paired-round)
paired-follows = (after pair paired, (onto [] paired, refl, refl), refl, refl)

-- Histories that are spoiled: up to the event each is a run, and no rule of legality refuses the event, but it is not allowed.

abbrev IsSpoiledBy : Scripted → List Event → Event → Type 0
IsSpoiledBy s events e =
    (are_allowed s (onto [] events) (beginning s) ≡ true) × (is_possible s e (after s events) ≡ true) × (is_allowed s e (after s events) ≡ false)

abbrev told : List Event
told =
    Wake (actor 0 0) ∷ Wake (actor 1 0) ∷ Spawn (actor 0 0) ∷ Send (actor 0 0) (actor 1 0) (actor 0 1 ∷ actor 0 1 ∷ []) ∷
    Flush (actor 0 0) ∷ Publish 0 ∷ []

handed-twice : IsSpoiledBy pair (told ++ Hand 0 0 0 ∷ []) (Hand 0 0 0)
handed-twice = (refl, refl, refl)

swept-without_hand : IsSpoiledBy pair told (Sweep 0)
swept-without_hand = (refl, refl, refl)

swept-twice : IsSpoiledBy pair (told ++ Hand 0 0 0 ∷ Sweep 0 ∷ []) (Sweep 0)
swept-twice = (refl, refl, refl)

-- the copy is to be repeated before it is admitted, and only once; nor does the plan lose it
repeat-left_out : IsSpoiledBy pair told (Admit 0 1 0)
repeat-left_out = (refl, refl, refl)

repeated-twice : IsSpoiledBy pair (told ++ Repeat 0 1 0 ∷ []) (Repeat 0 1 0)
repeated-twice = (refl, refl, refl)

lost-unplanned : IsSpoiledBy pair (told ++ Repeat 0 1 0 ∷ []) (Lose 0 1 0)
lost-unplanned = (refl, refl, refl)

-- the reference of the message that no instruction took is to be dropped before the rest
abbrev taken : List Event
taken =
    told ++ Repeat 0 1 0 ∷ Admit 0 1 0 ∷ Rest (actor 0 0) ∷ Spawn (actor 1 0) ∷ Drop (actor 1 0) (actor 1 2) ∷ Rest (actor 1 0) ∷
    Take (actor 1 0) ∷ []

leftover-kept : IsSpoiledBy pair taken (Rest (actor 1 0))
leftover-kept = (refl, refl, refl)

-- and no act comes that is not due
act-not_due : IsSpoiledBy pair (taken ++ Drop (actor 1 0) (actor 0 1) ∷ []) (Drop (actor 1 0) (actor 0 1))
act-not_due = (refl, refl, refl)

-- no turn but those that are planned: the one wake is used up, and so is a budget of one turn
woken-twice : IsSpoiledBy pair taken (Wake (actor 0 0))
woken-twice = (refl, refl, refl)

abbrev one_turn : List Event
one_turn =
    Wake (actor 0 0) ∷ Spawn (actor 0 0) ∷ Send (actor 0 0) (actor 1 0) (actor 0 1 ∷ []) ∷
    Send (actor 0 0) (actor 2 0) (actor 0 1 ∷ []) ∷ Drop (actor 0 0) (actor 0 1) ∷ Rest (actor 0 0) ∷ Admit 0 1 0 ∷ Admit 0 2 0 ∷ []

budget-spent : IsSpoiledBy (maker_friend_poke [] [] 1) one_turn (Take (actor 1 0))
budget-spent = (refl, refl, refl)

-- each turn counts, also that of a message
abbrev two_turns : List Event
two_turns = one_turn ++ Take (actor 2 0) ∷ []

turns-counted : IsSpoiledBy (maker_friend_poke [] [] 2) two_turns (Take (actor 1 0))
turns-counted = (refl, refl, refl)

-- a crash comes where it is due, and nothing else before it
abbrev crash-near : List Event
crash-near = one_turn ++ Take (actor 2 0) ∷ Send (actor 2 0) (actor 0 1) [] ∷ Drop (actor 2 0) (actor 0 1) ∷ []

crash-early : IsSpoiledBy (maker_friend_poke [] [] 100) crash-near (Crash 2)
crash-early = (refl, refl, refl)

crash-late : IsSpoiledBy (maker_friend_poke [] [] 100) (crash-near ++ Rest (actor 2 0) ∷ []) (Admit 2 0 0)
crash-late = (refl, refl, refl)

seeded-late : IsSpoiledBy pair told (Seed 0)
seeded-late = (refl, refl, refl)

-- A run is over only where nobody is busy, no crash is due, and nothing is left to begin.

busy-not_over : is_over pair (after pair told) ≡ false
busy-not_over = refl

crash-not_over : is_over (maker_friend_poke [] [] 100) (after (maker_friend_poke [] [] 100) (crash-near ++ Rest (actor 2 0) ∷ [])) ≡ false
crash-not_over = refl

mail-not_over : is_over (maker_friend_poke [] [] 100) (after (maker_friend_poke [] [] 100) one_turn) ≡ false
mail-not_over = refl

spent-over : is_over (maker_friend_poke [] [] 1) (after (maker_friend_poke [] [] 1) one_turn) ≡ true
spent-over = refl

wake-not_over : is_over pair (beginning pair) ≡ false
wake-not_over = refl

abbrev quit : List Event
quit =
    Wake (actor 0 0) ∷ Retire (actor 0 0) ∷ Rest (actor 0 0) ∷ Wake (actor 1 0) ∷ Retire (actor 1 0) ∷ Rest (actor 1 0) ∷ []

retired-over : is_over quitters (after quitters quit) ≡ true
retired-over = refl

-- What one operation adds: the crash that is due to a rest, and a publish to the flush of the 32nd entry.

crash-added : added (maker_friend_poke [] [] 100) (Rest (actor 2 0)) (after (maker_friend_poke [] [] 100) crash-near) ≡ Some (Crash 2)
crash-added = refl

abbrev flushed : ℕ → List Event
flushed count = onto (schedule (breeder [] 40) 40) (map (λ i. Flush (actor 0 i)) (range_with_len 0 count))

publish-added : added (breeder [] 40) (Flush (actor 0 31)) (flushed 31) ≡ Some (Publish 0)
publish-added = refl

none-added : added (breeder [] 40) (Flush (actor 0 30)) (flushed 30) ≡ None
none-added = refl

-- An operation wakes the lowest actor that is planned, and no operation begins with a crash.

woken-lowest : (begins_operation quitters (Wake (actor 0 0)) (beginning quitters) ≡ true) × (begins_operation quitters (Wake (actor 1 0)) (beginning quitters) ≡ false)
woken-lowest = (refl, refl)

crash-begins_none : begins_operation (maker_friend_poke [] [] 100) (Crash 2) (after (maker_friend_poke [] [] 100) (crash-near ++ Rest (actor 2 0) ∷ [])) ≡ false
crash-begins_none = refl
