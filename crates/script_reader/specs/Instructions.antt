-- Instructions as they stand in a script. `key` is the list in which one stands, `wake` or `message`.
use Rattle.std.specs.Prelude.{ℕ, ◌&&◌, Bool, nat_le, codes, if◌then◌else◌, List, [], ◌∷◌, length, Option, Some, None, Result, Ok, Err, is_some}
use Rattle.std.specs.List.{list_all}
use Rattle.std.specs.Str.{bytes_eq}
use Rattle.serde_json.specs.Data.{Data}
use Rattle.serde_json.specs.Find.{as_str}
use Rattle.behaviour_lang.specs.declared.instr.Instr.TheVariants as instrs
use Rattle.behaviour_lang.specs.declared.instr.Name.{Name}
use Rattle.behaviour_lang.specs.declared.instr.Name.TheVariants.{Own, Message, Local}
use Rattle.behaviour_lang.specs.Names.{is_behaviour_name, is_local_name, message_number}
use Rattle.script_reader.specs.declared.draft.DraftInstr.{DraftInstr}
use Rattle.script_reader.specs.declared.draft.DraftInstr.TheVariants.{Spawn, Other}
use Rattle.script_reader.specs.declared.fault.Flaw.{Flaw}
use Rattle.script_reader.specs.declared.fault.Flaw.TheVariants.{Kind, Range}
use Rattle.script_reader.specs.declared.words.Word.{Word}
use Rattle.script_reader.specs.Walk.{◌>>=◌, array_of, each, in_range, number_of, of_kind, optional_at, passes}

-- exactly one, and exactly two operands
abbrev pub one : List Data → Option Data
one [] = None
one (d ∷ []) = Some d
one (d ∷ e ∷ ds) = None

abbrev pub two : List Data → Option (Data × Data)
two [] = None
two (d ∷ []) = None
two (d ∷ e ∷ []) = Some (d, e)
two (d ∷ e ∷ f ∷ ds) = None

abbrev pub or_local : Word → List ℕ → Option ℕ → Result Name Flaw
or_local key text (Some k) = Ok (Message k)
or_local key text None = in_range key (is_local_name text) (Local text)

-- `self`, a message name or a local name
unfoldable pub name_of : Word → List ℕ → Result Name Flaw
name_of key text = if bytes_eq text (codes "self") then Ok Own else or_local key text (message_number text)

abbrev pub message_of : Word → Option ℕ → Result ℕ Flaw
message_of key None = Err (Range key)
message_of key (Some k) = Ok k

-- `["spawn", x, b]`: a local name, a behaviour's name
unfoldable pub spawn_of : Word → List Data → Result DraftInstr Flaw
spawn_of key operands = do
  p ← of_kind key (two operands)
  x ← of_kind key (as_str p.0)
  b ← of_kind key (as_str p.1)
  in_range key (is_local_name x && is_behaviour_name b) (Spawn x b)

-- a name as an operand
abbrev pub operand_name : Word → Data → Result Name Flaw
operand_name key d = of_kind key (as_str d) >>= name_of key

abbrev pub is_text : Data → Bool
is_text d = is_some (as_str d)

-- a name, then at most 16 names
abbrev pub send_to : Word → List Data → Result DraftInstr Flaw
send_to key [] = Err (Kind key)
send_to key (d ∷ ds) = do
  _ ← passes key (nat_le (length ds) 16)
  x ← operand_name key d
  refs ← each (λ _. operand_name key) ds
  Ok (Other (instrs.Send x refs))

-- `["send", x, y..]`: all are texts; then a name and 0 to 16 names
unfoldable pub send_of : Word → List Data → Result DraftInstr Flaw
send_of key operands = if list_all is_text operands then send_to key operands else Err (Kind key)

-- `["drop", x]`: a name
unfoldable pub drop_of : Word → List Data → Result DraftInstr Flaw
drop_of key operands = do
  d ← of_kind key (one operands)
  x ← operand_name key d
  Ok (Other (instrs.Drop x))

-- `["keep", x, m]`: a local name, a message name
unfoldable pub keep_of : Word → List Data → Result DraftInstr Flaw
keep_of key operands = do
  p ← of_kind key (two operands)
  x ← of_kind key (as_str p.0)
  m ← of_kind key (as_str p.1)
  _ ← passes key (is_local_name x)
  k ← message_of key (message_number m)
  Ok (Other (instrs.Keep x k))

-- `["work", k]`: a number up to 10,000
unfoldable pub work_of : Word → List Data → Result DraftInstr Flaw
work_of key operands = do
  d ← of_kind key (one operands)
  k ← of_kind key (number_of d)
  in_range key (nat_le k 10000) (Other (instrs.Work k))

-- `["retire"]`
abbrev pub retire_of : Word → List Data → Result DraftInstr Flaw
retire_of key [] = Ok (Other instrs.Retire)
retire_of key (d ∷ ds) = Err (Kind key)

-- by its first text
unfoldable pub instruction_with : Word → List ℕ → List Data → Result DraftInstr Flaw
instruction_with key word operands =
    if bytes_eq word (codes "spawn") then spawn_of key operands
    else if bytes_eq word (codes "send") then send_of key operands
    else if bytes_eq word (codes "drop") then drop_of key operands
    else if bytes_eq word (codes "keep") then keep_of key operands
    else if bytes_eq word (codes "work") then work_of key operands
    else if bytes_eq word (codes "retire") then retire_of key operands
    else Err (Kind key)

-- an array whose first member is a text
abbrev pub instruction_in : Word → List Data → Result DraftInstr Flaw
instruction_in key [] = Err (Kind key)
instruction_in key (word ∷ operands) = of_kind key (as_str word) >>= λ text. instruction_with key text operands

abbrev pub instruction_of : Word → Data → Result DraftInstr Flaw
instruction_of key d = of_kind key (array_of d) >>= instruction_in key

-- the key is absent, or an array of at most 64 instructions
abbrev pub instructions_at : Word → Data → Result (List DraftInstr) Flaw
instructions_at key d = optional_at key 64 d >>= each (λ _. instruction_of key)
