-- The script that a tree stands for, and the first fault of one that stands for none.
use Rattle.std.specs.Prelude.{◌≡◌, ℕ, List, Some, Result, Ok, Err, IsUtf8}
use Rattle.serde_json.specs.Data.{Data}
use Rattle.serde_json.specs.Read.{read}
use Rattle.behaviour_lang.specs.declared.code.Behaviour.{Behaviour}
use Rattle.script_reader.specs.declared.draft.Draft.{Draft}
use Rattle.script_reader.specs.declared.fault.Flaw.{Flaw}
use Rattle.script_reader.specs.declared.fault.Flaw.TheVariants as flaws
use Rattle.script_reader.specs.declared.fault.ScriptFault.{ScriptFault}
use Rattle.script_reader.specs.declared.fault.ScriptFault.TheVariants.{Json, Key, Missing, Kind, Range, UnknownBehaviour}
use Rattle.script_reader.specs.declared.fault.ScriptRead.{ScriptRead}
use Rattle.script_reader.specs.declared.fault.ScriptRead.TheVariants.{Fault, NoMemory}
use Rattle.script_reader.specs.Words.{spelled}
use Rattle.script_reader.specs.declared.script.Seed.{Seed}
use Rattle.script_reader.specs.Valid.{Scripted}
use Rattle.script_reader.specs.Numbered.{names_of, number_in, numbered_behaviour, numbered_seed}
use Rattle.script_reader.specs.Rows.{draft_of}
use Rattle.script_reader.specs.Walk.{◌>>=◌, each}

abbrev pub whole : Draft → List Behaviour → List Seed → Scripted
whole draft behaviours seeds =
    record {
      nodes = draft.nodes;
      code = behaviours;
      seeds = seeds;
      ties = draft.ties;
      plan = record {
        losses = draft.losses;
        repeats = draft.repeats;
        crashes = draft.crashes;
      };
      turns = draft.turns;
    }

-- names that differ; then each behaviour that is named is known, first in the behaviours, then in the seeds
abbrev pub numbered : Draft → Result Scripted Flaw
numbered draft = do
  names ← names_of draft.behaviours
  behaviours ← each (λ _. numbered_behaviour (number_in names)) draft.behaviours
  seeds ← each (λ _. numbered_seed (number_in names)) draft.seeds
  Ok (whole draft behaviours seeds)

unfoldable pub script_of : Data → Result Scripted Flaw
script_of d = draft_of d >>= numbered

-- the bytes are the JSON text of this tree
abbrev pub IsTextOf : Data → List ℕ → Type 0
IsTextOf d bytes = IsUtf8 bytes × (read bytes ≡ Some d)

-- the bytes of a fault's word
abbrev pub told : Flaw → ScriptFault
told (flaws.Key word) = Key (spelled word)
told (flaws.Missing word) = Missing (spelled word)
told (flaws.Kind word) = Kind (spelled word)
told (flaws.Range word) = Range (spelled word)
told (flaws.Unknown name) = UnknownBehaviour name

-- the text is the JSON text of a tree that stands for the script
abbrev pub StandsFor : List ℕ → Scripted → Type 0
StandsFor bytes s = (d : Data) × IsTextOf d bytes × (script_of d ≡ Ok s)

-- the first fault of a text: it is no JSON text, or this is the first fault of its tree
abbrev pub IsFirstFault : List ℕ → ScriptFault → Type 0
IsFirstFault bytes Json = (d : Data) → IsTextOf d bytes → ⊥
IsFirstFault bytes f = (d : Data) × (flaw : Flaw) × IsTextOf d bytes × (script_of d ≡ Err flaw) × (f ≡ told flaw)

-- what reading a text answers: the script that it stands for, its first fault, or want of memory
abbrev pub Answers : List ℕ → Result Scripted ScriptRead → Type 0
Answers bytes (Ok s) = StandsFor bytes s
Answers bytes (Err (Fault f)) = IsFirstFault bytes f
Answers bytes (Err NoMemory) = Unit {0}
