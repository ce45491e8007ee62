-- Behaviours by their numbers in place of their names.
use Rattle.std.specs.Prelude.{ℕ, not, List, Option, Some, None, Result, Ok, Err}
use Rattle.std.specs.List.{list_any, position_from}
use Rattle.std.specs.Str.{bytes_eq}
use Rattle.behaviour_lang.specs.declared.code.Behaviour.{Behaviour}
use Rattle.behaviour_lang.specs.declared.instr.Instr.{Instr}
use Rattle.behaviour_lang.specs.declared.instr.Instr.TheVariants as instrs
use Rattle.script_reader.specs.declared.draft.DraftBehaviour.{DraftBehaviour}
use Rattle.script_reader.specs.declared.draft.DraftInstr.{DraftInstr}
use Rattle.script_reader.specs.declared.draft.DraftInstr.TheVariants.{Spawn, Other}
use Rattle.script_reader.specs.declared.draft.DraftSeed.{DraftSeed}
use Rattle.script_reader.specs.declared.fault.Flaw.{Flaw}
use Rattle.script_reader.specs.declared.fault.Flaw.TheVariants.{Unknown}
use Rattle.script_reader.specs.declared.script.Seed.{Seed}
use Rattle.script_reader.specs.declared.words.Word.TheVariants as words
use Rattle.script_reader.specs.Walk.{◌>>=◌, each, in_range}

-- a name that none before it is
abbrev pub new_name : List (List ℕ) → DraftBehaviour → Result (List ℕ) Flaw
new_name before b = in_range words.Name (not (list_any (bytes_eq b.name) before)) b.name

-- the names of the behaviours, which differ
abbrev pub names_of : List DraftBehaviour → Result (List (List ℕ)) Flaw
names_of behaviours = each new_name behaviours

-- the number of the behaviour with this name, from 0
abbrev pub number_in : List (List ℕ) → List ℕ → Option ℕ
number_in names name = position_from (bytes_eq name) 0 names

-- behaviours are named by a function from names to numbers; a name without a number is a fault
abbrev pub known : List ℕ → Option ℕ → Result ℕ Flaw
known name None = Err (Unknown name)
known name (Some n) = Ok n

abbrev pub numbered_instr : (List ℕ → Option ℕ) → DraftInstr → Result Instr Flaw
numbered_instr number (Spawn x b) = known b (number b) >>= λ n. Ok (instrs.Spawn x n)
numbered_instr number (Other i) = Ok i

abbrev pub numbered_instrs : (List ℕ → Option ℕ) → List DraftInstr → Result (List Instr) Flaw
numbered_instrs number is = each (λ _. numbered_instr number) is

abbrev pub numbered_behaviour : (List ℕ → Option ℕ) → DraftBehaviour → Result Behaviour Flaw
numbered_behaviour number b = do
  wake ← numbered_instrs number b.wake
  message ← numbered_instrs number b.message
  Ok (record { name = b.name; wake = wake; message = message })

abbrev pub numbered_seed : (List ℕ → Option ℕ) → DraftSeed → Result Seed Flaw
numbered_seed number s = known s.behaviour (number s.behaviour) >>= λ n. Ok (record { node = s.node; behaviour = n; wakes = s.wakes })
