-- Worked turns, computed.
use Rattle.std.proofs.Common.{◌≡◌, ℕ, true, false, List, [], ◌∷◌, map, Some, refl}
use Rattle.std.specs.Prelude.{codes}
use Rattle.crgc_ids.specs.Actor.{Actor}
use Rattle.behaviour_lang.specs.Bound.{Names, names_at_start, local_names}
use Rattle.behaviour_lang.specs.Turn.{Outcome, turn}
use Rattle.behaviour_lang.specs.Steps.{left, due_act, next_step}
use Rattle.behaviour_lang.specs.declared.act.Act.{Act}
use Rattle.behaviour_lang.specs.declared.act.Act.TheVariants as acts
use Rattle.behaviour_lang.specs.declared.act.Step.{Step}
use Rattle.behaviour_lang.specs.declared.act.Step.TheVariants as steps
use Rattle.behaviour_lang.specs.declared.instr.Instr.{Instr}
use Rattle.behaviour_lang.specs.declared.instr.Instr.TheVariants.{Spawn, Send, Drop, Keep, Work, Retire}
use Rattle.behaviour_lang.specs.declared.instr.Name.TheVariants.{Own, Message, Local}

abbrev actor : ℕ → ℕ → Actor
actor n s = record { node = n; serial = s }

abbrev outcome : List Step → Names → Outcome
outcome done names = record { steps = done; names = names }

abbrev all_acts : List Act → List Step
all_acts done = map steps.Act done

-- A maker spawns a cell, sends it to two friends and drops it; its friends keep their names.

abbrev maker : List Instr
maker = Spawn (codes "x") 3 ∷ Send (Local (codes "b")) (Local (codes "x") ∷ []) ∷ Send (Local (codes "c")) (Local (codes "x") ∷ []) ∷ Drop (Local (codes "x")) ∷ []

abbrev makers_names : Names
makers_names = local_names ((codes "b", actor 1 0) ∷ (codes "c", actor 2 0) ∷ (codes "self", actor 0 0) ∷ [])

maker_turn : turn maker makers_names true (actor 0 1 ∷ []) ≡ outcome (all_acts (acts.Spawn 3 ∷ acts.Send (actor 1 0) (actor 0 1 ∷ []) ∷ acts.Send (actor 2 0) (actor 0 1 ∷ []) ∷ acts.Drop (actor 0 1) ∷ [])) makers_names
maker_turn = refl

-- where no child is born, the spawn is the last step, and x is not bound
maker_without_child : turn maker makers_names true [] ≡ outcome (all_acts (acts.Spawn 3 ∷ [])) makers_names
maker_without_child = refl

-- A friend makes the cell that it is sent and a cell of its own know each other; the message name is dropped at the end.

abbrev friend : List Instr
friend = Spawn (codes "y") 3 ∷ Send (Message 0) (Local (codes "y") ∷ []) ∷ Send (Local (codes "y")) (Message 0 ∷ []) ∷ Drop (Local (codes "y")) ∷ []

friend_turn : turn friend (names_at_start (actor 0 1 ∷ []) ((codes "self", actor 1 0) ∷ [])) true (actor 1 1 ∷ []) ≡ outcome (all_acts (acts.Spawn 3 ∷ acts.Send (actor 0 1) (actor 1 1 ∷ []) ∷ acts.Send (actor 1 1) (actor 0 1 ∷ []) ∷ acts.Drop (actor 1 1) ∷ acts.Drop (actor 0 1) ∷ [])) (local_names ((codes "self", actor 1 0) ∷ []))
friend_turn = refl

-- A poke answers what it is sent, without references.

poke_turn : turn (Send (Message 0) [] ∷ []) (names_at_start (actor 0 1 ∷ []) ((codes "self", actor 2 0) ∷ [])) true [] ≡ outcome (all_acts (acts.Send (actor 0 1) [] ∷ acts.Drop (actor 0 1) ∷ [])) (local_names ((codes "self", actor 2 0) ∷ []))
poke_turn = refl

-- A cell keeps what it is sent, and nothing of a message without references.

abbrev cell : List Instr
cell = Keep (codes "k") 0 ∷ []

cell_keeps : turn cell (names_at_start (actor 1 1 ∷ []) ((codes "self", actor 0 1) ∷ [])) false [] ≡ outcome [] (local_names ((codes "k", actor 1 1) ∷ (codes "self", actor 0 1) ∷ []))
cell_keeps = refl

cell_keeps_nothing : turn cell (local_names ((codes "k", actor 1 1) ∷ (codes "self", actor 0 1) ∷ [])) false [] ≡ outcome [] (local_names ((codes "k", actor 1 1) ∷ (codes "self", actor 0 1) ∷ []))
cell_keeps_nothing = refl

-- what it held under the name is dropped before
cell_keeps_anew : turn cell (names_at_start (actor 2 0 ∷ actor 2 1 ∷ []) ((codes "k", actor 1 1) ∷ [])) false [] ≡ outcome (all_acts (acts.Drop (actor 1 1) ∷ acts.Drop (actor 2 1) ∷ [])) (local_names ((codes "k", actor 2 0) ∷ []))
cell_keeps_anew = refl

-- A spawn over a bound name drops what the name held; without a child too.

spawn_over_bound : turn (Spawn (codes "x") 0 ∷ []) (local_names ((codes "x", actor 0 7) ∷ [])) false (actor 0 8 ∷ []) ≡ outcome (all_acts (acts.Drop (actor 0 7) ∷ acts.Spawn 0 ∷ [])) (local_names ((codes "x", actor 0 8) ∷ []))
spawn_over_bound = refl

spawn_over_bound_without_child : turn (Spawn (codes "x") 0 ∷ Work 5 ∷ []) (names_at_start (actor 1 0 ∷ []) ((codes "x", actor 0 7) ∷ [])) false [] ≡ outcome (all_acts (acts.Drop (actor 0 7) ∷ acts.Spawn 0 ∷ [])) (names_at_start (actor 1 0 ∷ []) [])
spawn_over_bound_without_child = refl

-- Leftover message names are dropped in the order of their numbers.

leftovers_in_order : turn (Drop (Message 1) ∷ []) (names_at_start (actor 0 1 ∷ actor 0 2 ∷ actor 0 3 ∷ []) []) false [] ≡ outcome (all_acts (acts.Drop (actor 0 2) ∷ acts.Drop (actor 0 1) ∷ acts.Drop (actor 0 3) ∷ [])) []
leftovers_in_order = refl

-- Instructions with an unbound name are skipped, and so is the second retire. Work is a step, and no act.

abbrev idler : List Instr
idler = Work 7 ∷ Send (Local (codes "z")) [] ∷ Send Own (Local (codes "z") ∷ []) ∷ Drop (Local (codes "z")) ∷ Keep (codes "z") 3 ∷ Retire ∷ Retire ∷ Drop Own ∷ Drop Own ∷ []

idler_turn : turn idler (local_names ((codes "self", actor 0 0) ∷ [])) true [] ≡ outcome (steps.Work 7 ∷ all_acts (acts.Retire ∷ acts.Drop (actor 0 0) ∷ [])) []
idler_turn = refl

idler_acts : (due_act (left idler (local_names ((codes "self", actor 0 0) ∷ [])) true) ≡ Some acts.Retire) × (next_step (left idler (local_names ((codes "self", actor 0 0) ∷ [])) true) ≡ steps.Work 7)
idler_acts = (refl, refl)
