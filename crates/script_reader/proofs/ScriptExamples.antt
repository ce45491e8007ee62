-- Worked texts, computed: a script that one stands for, and the first faults of broken ones.
use Rattle.std.proofs.Common.{◌≡◌, ℕ, true, List, [], ◌∷◌, ◌++◌, map, Option, Some, None, option_map, Result, Ok, Err, codes, refl, sym, ◌∙◌}
use Rattle.std.specs.Float.Numeral.{scan_numeral}
use Rattle.json.specs.Json.{items, members, value}
use Rattle.json.specs.Lex.{lex, punctuate}
use Rattle.json.specs.Text.{code_unit, content, short_escape}
use Rattle.json.specs.Word.{after_number, word}
use Rattle.json.proofs.Printed.Utf8.{IsUtf8-are_ascii, are_ascii}
use Rattle.serde_json.specs.Data.{Data}
use Rattle.serde_json.specs.Read.{number_of, read}
use Rattle.behaviour_lang.specs.Names.{is_behaviour_name, is_local_name, message_number}
use Rattle.fault_plan.specs.Rows.{link_row}
use Rattle.script_reader.specs.declared.fault.Flaw.{Flaw}
use Rattle.script_reader.specs.declared.fault.Flaw.TheVariants.{Key, Missing, Kind, Range, Unknown}
use Rattle.script_reader.specs.declared.fault.ScriptFault.TheVariants as faults
use Rattle.script_reader.specs.declared.words.Word.TheVariants as words
use Rattle.script_reader.specs.Instructions.{drop_of, instruction_with, keep_of, name_of, send_of, spawn_of, work_of}
use Rattle.script_reader.specs.Rows.{behaviour_of, crash_of, draft_of, link_of, seed_of, tie_row}
use Rattle.script_reader.specs.Scripts.{IsFirstFault, StandsFor, script_of, told}
use Rattle.script_reader.specs.Valid.{Scripted}

-- what a text reads as, seen as a script or a fault
abbrev read_as : List ℕ → Option (Result Scripted Flaw)
read_as text = option_map script_of (read text)

stands : (text : List ℕ) (s : Scripted) → are_ascii text ≡ true → read_as text ≡ Some (Ok s) → StandsFor text s
stands text s ascii h = tree (read text) refl h
  where
    tree : (o : Option Data) → read text ≡ o → option_map script_of o ≡ Some (Ok s) → StandsFor text s
    tree None is h = absurd cc
    tree (Some d) is h = let same : script_of d ≡ Ok s = cc in (d, (IsUtf8-are_ascii text ascii, is), same)

first_fault : (text : List ℕ) (flaw : Flaw) → are_ascii text ≡ true → read_as text ≡ Some (Err flaw) → IsFirstFault text (told flaw)
first_fault text flaw ascii h = tree (read text) refl h
  where
    tree : (o : Option Data) → read text ≡ o → option_map script_of o ≡ Some (Err flaw) → IsFirstFault text (told flaw)
    tree None is h = absurd cc
    tree (Some d) is h = let same : script_of d ≡ Err flaw = cc in by_fault flaw d is same
      where
        by_fault : (f : Flaw) (d : Data) → read text ≡ Some d → script_of d ≡ Err f → IsFirstFault text (told f)
        by_fault (Key w) d is same = (d, Key w, (IsUtf8-are_ascii text ascii, is), same, refl)
        by_fault (Missing w) d is same = (d, Missing w, (IsUtf8-are_ascii text ascii, is), same, refl)
        by_fault (Kind w) d is same = (d, Kind w, (IsUtf8-are_ascii text ascii, is), same, refl)
        by_fault (Range w) d is same = (d, Range w, (IsUtf8-are_ascii text ascii, is), same, refl)
        by_fault (Unknown n) d is same = (d, Unknown n, (IsUtf8-are_ascii text ascii, is), same, refl)

no_json : (text : List ℕ) → read text ≡ None → IsFirstFault text faults.Json
no_json text h d (utf8, is) = let same : Some d ≡ None = sym is ∙ h in absurd cc

-- one behaviour, one seed, and what else stands before the turns
abbrev small : List ℕ → List ℕ
small more = codes "{\"nodes\":2,\"behaviours\":[{\"name\":\"a\"}],\"seeds\":[{\"node\":0,\"behaviour\":\"a\",\"wakes\":2}]," ++ more ++ codes "\"turns\":5}"

abbrev loss_row : List ℕ
loss_row = codes "\"losses\":[{\"from\":0,\"to\":1,\"number\":7}],"

abbrev small_script : Scripted
small_script = record {
  nodes = 2;
  code = record { name = codes "a"; wake = []; message = [] } ∷ [];
  seeds = record { node = 0; behaviour = 0; wakes = 2 } ∷ [];
  ties = [];
  plan = record { losses = link_row 0 1 7 ∷ []; repeats = []; crashes = [] };
  turns = 5;
}

-- a behaviour with one instruction when it is woken
abbrev woken : List ℕ → List ℕ
woken instruction = codes "{\"nodes\":1,\"behaviours\":[{\"name\":\"a\",\"wake\":[" ++ instruction ++ codes "]}]}"

-- behaviours, seeds and ties, each as the members of its array, and the number of turns
abbrev whole : List ℕ → List ℕ → List ℕ → List ℕ → List ℕ
whole behaviours seeds ties turns =
    codes "{\"nodes\":1,\"behaviours\":[" ++ behaviours ++ codes "],\"seeds\":[" ++ seeds ++ codes "],\"ties\":[" ++ ties ++ codes "],\"turns\":" ++ turns ++ codes "}"

abbrev seed_a : List ℕ
seed_a = codes "{\"node\":0,\"behaviour\":\"a\",\"wakes\":0}"

abbrev seed_b : List ℕ
seed_b = codes "{\"node\":0,\"behaviour\":\"b\",\"wakes\":0}"

abbrev tie_x : List ℕ
tie_x = codes "{\"from\":0,\"to\":1,\"as\":\"x\"}"

small_read : read_as (small loss_row) ≡ Some (Ok small_script)
unfolding behaviour_of seed_of tie_row link_of crash_of draft_of script_of drop_of instruction_with keep_of name_of send_of spawn_of work_of is_behaviour_name is_local_name message_number items members value lex punctuate content code_unit short_escape after_number word number_of scan_numeral
small_read = refl

brace_read : read (codes "{") ≡ None
unfolding behaviour_of seed_of tie_row link_of crash_of draft_of script_of drop_of instruction_with keep_of name_of send_of spawn_of work_of is_behaviour_name is_local_name message_number items members value lex punctuate content code_unit short_escape after_number word number_of scan_numeral
brace_read = refl

-- each text, and the first fault of its tree
abbrev Faults : Type 0
Faults = List (List ℕ × Flaw)

abbrev AreTold : Faults → Type 0
AreTold broken = map (λ (p : List ℕ × Flaw). read_as p.0) broken ≡ map (λ (p : List ℕ × Flaw). Some (Err p.1)) broken

-- keys and objects
abbrev broken_objects : Faults
broken_objects =
    (codes "{}", Missing words.Nodes)
    ∷ (codes "[]", Kind words.Script)
    ∷ (codes "{\"fee\":1}", Key words.Script)
    ∷ (codes "{\"nodes\":\"1\"}", Kind words.Nodes)
    ∷ (codes "{\"nodes\":-1}", Kind words.Nodes)
    ∷ (codes "{\"nodes\":17}", Range words.Nodes)
    ∷ []

objects_told : AreTold broken_objects
unfolding behaviour_of seed_of tie_row link_of crash_of draft_of script_of drop_of instruction_with keep_of name_of send_of spawn_of work_of is_behaviour_name is_local_name message_number items members value lex punctuate content code_unit short_escape after_number word number_of scan_numeral
objects_told = refl

-- instructions: a wrong kind of a later operand is told before a wrong spelling of an earlier one
abbrev broken_instructions : Faults
broken_instructions =
    (woken (codes "[\"work\",10001]"), Range words.Wake)
    ∷ (woken (codes "[\"spawn\",\"x\"]"), Kind words.Wake)
    ∷ (woken (codes "[\"keep\",\"self\",1]"), Kind words.Wake)
    ∷ (woken (codes "[\"send\",\"x\",\"m16\"]"), Range words.Wake)
    ∷ []

instructions_told : AreTold broken_instructions
unfolding behaviour_of seed_of tie_row link_of crash_of draft_of script_of drop_of instruction_with keep_of name_of send_of spawn_of work_of is_behaviour_name is_local_name message_number items members value lex punctuate content code_unit short_escape after_number word number_of scan_numeral
instructions_told = refl

-- rows of the plan and ties
abbrev broken_rows : Faults
broken_rows =
    (small (codes "\"losses\":[{\"from\":1,\"to\":1,\"number\":0}],"), Range words.To)
    ∷ (small (codes "\"losses\":[{\"from\":0,\"to\":1,\"number\":7},{\"from\":0,\"to\":1,\"number\":7}],"), Range words.Number)
    ∷ (small (codes "\"crashes\":[{\"node\":1,\"after\":1},{\"node\":1,\"after\":2}],"), Range words.Node)
    ∷ (small (codes "\"ties\":[{\"from\":0,\"to\":0,\"as\":\"x\"}],"), Range words.To)
    ∷ (whole (codes "{\"name\":\"a\"}") (seed_a ++ codes "," ++ seed_a) (tie_x ++ codes "," ++ tie_x) (codes "1"), Range words.As)
    ∷ []

rows_told : AreTold broken_rows
unfolding behaviour_of seed_of tie_row link_of crash_of draft_of script_of drop_of instruction_with keep_of name_of send_of spawn_of work_of is_behaviour_name is_local_name message_number items members value lex punctuate content code_unit short_escape after_number word number_of scan_numeral
rows_told = refl

-- names of behaviours: told after all that the keys ask, a name that comes twice before an unknown one, and the instructions before the seeds
abbrev broken_names : Faults
broken_names =
    (whole (codes "{\"name\":\"a\"},{\"name\":\"a\"}") seed_b [] (codes "0"), Range words.Turns)
    ∷ (whole (codes "{\"name\":\"a\"},{\"name\":\"a\"}") seed_b [] (codes "1"), Range words.Name)
    ∷ (whole (codes "{\"name\":\"a\",\"wake\":[[\"spawn\",\"x\",\"c\"]]}") seed_b [] (codes "1"), Unknown (codes "c"))
    ∷ (whole (codes "{\"name\":\"a\"}") seed_b [] (codes "1"), Unknown (codes "b"))
    ∷ []

names_told : AreTold broken_names
unfolding behaviour_of seed_of tie_row link_of crash_of draft_of script_of drop_of instruction_with keep_of name_of send_of spawn_of work_of is_behaviour_name is_local_name message_number items members value lex punctuate content code_unit short_escape after_number word number_of scan_numeral
names_told = refl

-- so the definitions say of these texts what was computed

small_stands : StandsFor (small loss_row) small_script
small_stands = stands (small loss_row) small_script refl small_read

other_key : read_as (codes "{\"fee\":1}") ≡ Some (Err (Key words.Script))
unfolding behaviour_of seed_of tie_row link_of crash_of draft_of script_of drop_of instruction_with keep_of name_of send_of spawn_of work_of is_behaviour_name is_local_name message_number items members value lex punctuate content code_unit short_escape after_number word number_of scan_numeral
other_key = refl

other_key_first : IsFirstFault (codes "{\"fee\":1}") (faults.Key (codes "script"))
other_key_first = first_fault (codes "{\"fee\":1}") (Key words.Script) refl other_key

brace_fault : IsFirstFault (codes "{") faults.Json
brace_fault = no_json (codes "{") brace_read
