-- The objects of a script. The keys of each come in the order of its table.
use Rattle.std.specs.Prelude.{ℕ, ◌==◌, not, List, [], ◌∷◌, length, Result, Ok}
use Rattle.std.specs.List.{list_any}
use Rattle.serde_json.specs.Data.{Data}
use Rattle.behaviour_lang.specs.Names.{is_behaviour_name, is_local_name}
use Rattle.fault_plan.specs.declared.crashes.CrashRow.{CrashRow}
use Rattle.fault_plan.specs.declared.links.LinkRow.{LinkRow}
use Rattle.fault_plan.specs.Rows.{link_row, same_row}
use Rattle.script_reader.specs.declared.draft.Draft.{Draft}
use Rattle.script_reader.specs.declared.draft.DraftBehaviour.{DraftBehaviour}
use Rattle.script_reader.specs.declared.draft.DraftSeed.{DraftSeed}
use Rattle.script_reader.specs.declared.fault.Flaw.{Flaw}
use Rattle.script_reader.specs.declared.script.Tie.{Tie}
use Rattle.script_reader.specs.declared.words.Word.{Word}
use Rattle.script_reader.specs.declared.words.Word.TheVariants as words
use Rattle.script_reader.specs.Instructions.{instructions_at}
use Rattle.script_reader.specs.Valid.{same_tie}
use Rattle.script_reader.specs.Walk.{◌>>=◌, array_at, each, in_range, number_at, object_at, optional_at, passes, text_at}

unfoldable pub behaviour_of : Data → Result DraftBehaviour Flaw
behaviour_of d = do
  _ ← object_at words.Behaviour (words.Name ∷ words.Wake ∷ words.Message ∷ []) d
  name ← text_at words.Name is_behaviour_name d
  wake ← instructions_at words.Wake d
  message ← instructions_at words.Message d
  Ok (record { name = name; wake = wake; message = message })

unfoldable pub seed_of : ℕ → Data → Result DraftSeed Flaw
seed_of nodes d = do
  _ ← object_at words.Seed (words.Node ∷ words.Behaviour ∷ words.Wakes ∷ []) d
  node ← number_at words.Node 0 nodes d
  behaviour ← text_at words.Behaviour is_behaviour_name d
  wakes ← number_at words.Wakes 0 1000001 d
  Ok (record { node = node; behaviour = behaviour; wakes = wakes })

-- two different numbers below a limit, the second of which is told where they are equal
abbrev pub ends_at : ℕ → Data → Result (ℕ × ℕ) Flaw
ends_at limit d = do
  from ← number_at words.From 0 limit d
  to ← number_at words.To 0 limit d
  in_range words.To (not (to == from)) (from, to)

unfoldable pub tie_row : ℕ → Data → Result Tie Flaw
tie_row seeds d = do
  _ ← object_at words.Tie (words.From ∷ words.To ∷ words.As ∷ []) d
  ends ← ends_at seeds d
  name ← text_at words.As is_local_name d
  Ok (record { from = ends.0; to = ends.1; name = name })

-- a tie whose name its seed has not yet
abbrev pub tie_of : ℕ → List Tie → Data → Result Tie Flaw
tie_of seeds before d = tie_row seeds d >>= λ t. in_range words.As (not (list_any (same_tie t) before)) t

-- a loss or a repeat
unfoldable pub link_of : Word → ℕ → Data → Result LinkRow Flaw
link_of name nodes d = do
  _ ← object_at name (words.From ∷ words.To ∷ words.Number ∷ []) d
  ends ← ends_at nodes d
  number ← number_at words.Number 0 1000000 d
  Ok (link_row ends.0 ends.1 number)

-- one that was not there before
abbrev pub new_link_of : Word → ℕ → List LinkRow → Data → Result LinkRow Flaw
new_link_of name nodes before d = link_of name nodes d >>= λ r. in_range words.Number (not (list_any (same_row r) before)) r

-- a crash of a node that no crash before names
unfoldable pub crash_of : ℕ → List CrashRow → Data → Result CrashRow Flaw
crash_of nodes before d = do
  _ ← object_at words.Crash (words.Node ∷ words.After ∷ []) d
  node ← number_at words.Node 0 nodes d
  _ ← passes words.Node (not (list_any (λ r. node == r.node) before))
  after ← number_at words.After 1 1000001 d
  Ok (record { node = node; after = after })

abbrev pub table : List Word
table = words.Nodes ∷ words.Behaviours ∷ words.Seeds ∷ words.Ties ∷ words.Losses ∷ words.Repeats ∷ words.Crashes ∷ words.Turns ∷ []

abbrev pub behaviours_at : Data → Result (List DraftBehaviour) Flaw
behaviours_at d = array_at words.Behaviours 256 d >>= each (λ _. behaviour_of)

abbrev pub seeds_at : ℕ → Data → Result (List DraftSeed) Flaw
seeds_at nodes d = array_at words.Seeds 4096 d >>= each (λ _. seed_of nodes)

abbrev pub ties_at : ℕ → Data → Result (List Tie) Flaw
ties_at seeds d = optional_at words.Ties 4096 d >>= each (tie_of seeds)

-- the losses, or the repeats
abbrev pub links_at : Word → Word → ℕ → Data → Result (List LinkRow) Flaw
links_at key name nodes d = optional_at key 4096 d >>= each (new_link_of name nodes)

abbrev pub crashes_at : ℕ → Data → Result (List CrashRow) Flaw
crashes_at nodes d = optional_at words.Crashes 16 d >>= each (crash_of nodes)

-- a whole script, whose behaviours are still named by their names
unfoldable pub draft_of : Data → Result Draft Flaw
draft_of d = do
  _ ← object_at words.Script table d
  nodes ← number_at words.Nodes 1 17 d
  behaviours ← behaviours_at d
  seeds ← seeds_at nodes d
  ties ← ties_at (length seeds) d
  losses ← links_at words.Losses words.Loss nodes d
  repeats ← links_at words.Repeats words.Repeat nodes d
  crashes ← crashes_at nodes d
  turns ← number_at words.Turns 1 1000001 d
  Ok (record {
    nodes = nodes;
    behaviours = behaviours;
    seeds = seeds;
    ties = ties;
    losses = losses;
    repeats = repeats;
    crashes = crashes;
    turns = turns;
  })
