-- Worked scripts.
use Rattle.std.specs.Prelude.{ℕ, codes, List, [], ◌∷◌}
use Rattle.behaviour_lang.specs.declared.code.Behaviour.{Behaviour}
use Rattle.behaviour_lang.specs.declared.instr.Instr.{Instr}
use Rattle.behaviour_lang.specs.declared.instr.Instr.TheVariants.{Spawn, Send, Drop, Keep, Retire}
use Rattle.behaviour_lang.specs.declared.instr.Name.{Name}
use Rattle.behaviour_lang.specs.declared.instr.Name.TheVariants.{Message, Local}
use Rattle.fault_plan.specs.Rows.{link_row}
use Rattle.fault_plan.specs.declared.crashes.CrashRow.{CrashRow}
use Rattle.fault_plan.specs.declared.links.LinkRow.{LinkRow}
use Rattle.script_reader.specs.Valid.{Scripted}
use Rattle.script_reader.specs.declared.script.Seed.{Seed}
use Rattle.script_reader.specs.declared.script.Tie.{Tie}

abbrev pub behaviour : List ℕ → List Instr → List Instr → Behaviour
behaviour name wake message = record { name = name; wake = wake; message = message }

abbrev pub seed : ℕ → ℕ → ℕ → Seed
seed n b w = record { node = n; behaviour = b; wakes = w }

abbrev pub tie : ℕ → ℕ → List ℕ → Tie
tie from to name = record { from = from; to = to; name = name }

abbrev pub crash : ℕ → ℕ → CrashRow
crash n after = record { node = n; after = after }

abbrev pub named : List ℕ → Name
named x = Local x

-- a maker sends its child to two friends; one of them makes the child and a child of its own know each other, the other
-- answers the child
abbrev friends : List Behaviour
friends =
    behaviour (codes "maker") (Spawn (codes "x") 3 ∷ Send (named (codes "b")) (named (codes "x") ∷ []) ∷ Send (named (codes "c")) (named (codes "x") ∷ []) ∷ Drop (named (codes "x")) ∷ []) []
    ∷ behaviour (codes "friend") [] (Spawn (codes "y") 3 ∷ Send (Message 0) (named (codes "y") ∷ []) ∷ Send (named (codes "y")) (Message 0 ∷ []) ∷ Drop (named (codes "y")) ∷ [])
    ∷ behaviour (codes "poke") [] (Send (Message 0) [] ∷ [])
    ∷ behaviour (codes "cell") [] (Keep (codes "k") 0 ∷ []) ∷ []

-- node 2 crashes with its first turn
abbrev pub maker_friend_poke : List LinkRow → List LinkRow → ℕ → Scripted
maker_friend_poke losses repeats turns = record {
  nodes = 3;
  code = friends;
  seeds = seed 0 0 1 ∷ seed 1 1 0 ∷ seed 2 2 0 ∷ [];
  ties = tie 0 1 (codes "b") ∷ tie 0 2 (codes "c") ∷ [];
  plan = record { losses = losses; repeats = repeats; crashes = crash 2 1 ∷ [] };
  turns = turns;
}

-- four friends, one a node, and a maker on node 2 that is woken once; the other fifteen makers are never woken
abbrev cells : List Behaviour
cells =
    behaviour (codes "friend") [] (Spawn (codes "y") 2 ∷ Send (Message 0) (named (codes "y") ∷ []) ∷ Send (named (codes "y")) (Message 0 ∷ []) ∷ Drop (named (codes "y")) ∷ [])
    ∷ behaviour (codes "maker") (Spawn (codes "x") 2 ∷ Send (named (codes "b")) (named (codes "x") ∷ []) ∷ Drop (named (codes "x")) ∷ []) []
    ∷ behaviour (codes "cell") [] (Keep (codes "k") 0 ∷ []) ∷ []

abbrev pub small_workload : Scripted
small_workload = record {
  nodes = 4;
  code = cells;
  seeds =
      seed 0 0 0 ∷ seed 1 0 0 ∷ seed 2 0 0 ∷ seed 3 0 0
      ∷ seed 2 1 1 ∷ seed 3 1 0 ∷ seed 3 1 0 ∷ seed 2 1 0 ∷ seed 0 1 0 ∷ seed 1 1 0 ∷ seed 1 1 0 ∷ seed 0 1 0
      ∷ seed 2 1 0 ∷ seed 3 1 0 ∷ seed 3 1 0 ∷ seed 2 1 0 ∷ seed 0 1 0 ∷ seed 1 1 0 ∷ seed 1 1 0 ∷ seed 0 1 0 ∷ [];
  ties =
      tie 4 3 (codes "b") ∷ tie 5 1 (codes "b") ∷ tie 6 2 (codes "b") ∷ tie 7 0 (codes "b") ∷ tie 8 1 (codes "b") ∷ tie 9 3 (codes "b")
      ∷ tie 10 0 (codes "b") ∷ tie 11 2 (codes "b") ∷ tie 12 3 (codes "b") ∷ tie 13 0 (codes "b") ∷ tie 14 0 (codes "b") ∷ tie 15 0 (codes "b")
      ∷ tie 16 2 (codes "b") ∷ tie 17 3 (codes "b") ∷ tie 18 2 (codes "b") ∷ tie 19 1 (codes "b") ∷ [];
  plan = record { losses = []; repeats = []; crashes = [] };
  turns = 1000000;
}

-- one seed that makes a child with each of its turns, in the place of the one before
abbrev pub breeder : List CrashRow → ℕ → Scripted
breeder crashes wakes = record {
  nodes = 1;
  code = behaviour (codes "breeder") (Spawn (codes "x") 1 ∷ []) [] ∷ behaviour (codes "idle") [] [] ∷ [];
  seeds = seed 0 0 wakes ∷ [];
  ties = [];
  plan = record { losses = []; repeats = []; crashes = crashes };
  turns = 1000;
}

-- two pairs of seeds on two nodes; node 1 crashes with its first turn that ends, and the copy that is sent to it is repeated
abbrev pub pair : Scripted
pair = record {
  nodes = 2;
  code =
      behaviour (codes "sender") (Spawn (codes "x") 2 ∷ Send (named (codes "b")) (named (codes "x") ∷ named (codes "x") ∷ []) ∷ []) []
      ∷ behaviour (codes "keeper") (Spawn (codes "z") 2 ∷ Drop (named (codes "z")) ∷ []) (Keep (codes "k") 1 ∷ []) ∷ behaviour (codes "idle") [] [] ∷ [];
  seeds = seed 0 0 1 ∷ seed 1 1 1 ∷ seed 1 1 1 ∷ [];
  ties = tie 0 1 (codes "b") ∷ [];
  plan = record { losses = []; repeats = link_row 0 1 0 ∷ []; crashes = crash 1 2 ∷ [] };
  turns = 10;
}

-- two seeds that retire with their first turn; the first row is that of the higher actor, which has a wake more
abbrev pub quitters : Scripted
quitters = record {
  nodes = 2;
  code = behaviour (codes "quitter") (Retire ∷ Retire ∷ []) [] ∷ [];
  seeds = seed 1 0 2 ∷ seed 0 0 1 ∷ [];
  ties = [];
  plan = record { losses = []; repeats = []; crashes = [] };
  turns = 10;
}

-- one actor sends the other a reference to itself, twice; the other keeps each under the same name
abbrev pub keepers : Scripted
keepers = record {
  nodes = 1;
  code =
      behaviour (codes "giver") (Send (named (codes "b")) (named (codes "b") ∷ []) ∷ []) []
      ∷ behaviour (codes "keeper") [] (Keep (codes "k") 0 ∷ []) ∷ [];
  seeds = seed 0 0 2 ∷ seed 0 1 0 ∷ [];
  ties = tie 0 1 (codes "b") ∷ [];
  plan = record { losses = []; repeats = []; crashes = [] };
  turns = 10;
}
