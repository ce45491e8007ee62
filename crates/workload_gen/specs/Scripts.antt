-- The script that a generated text stands for.
use Rattle.std.specs.Prelude.{ℕ, ◌+◌, ◌%◌, codes, List, [], ◌∷◌, ◌++◌, map}
use Rattle.std.specs.List.{enumerate_from}
use Rattle.behaviour_lang.specs.declared.code.Behaviour.{Behaviour}
use Rattle.behaviour_lang.specs.declared.instr.Instr.TheVariants.{Spawn, Send, Drop, Keep}
use Rattle.behaviour_lang.specs.declared.instr.Name.TheVariants.{Message, Local}
use Rattle.script_reader.specs.declared.script.Seed.{Seed}
use Rattle.script_reader.specs.declared.script.Tie.{Tie}
use Rattle.script_reader.specs.Valid.{Scripted}
use Rattle.workload_gen.specs.declared.makers.Maker.{Maker}
use Rattle.workload_gen.specs.Makers.{makers}

-- the behaviours 0, 1 and 2
abbrev pub friend : Behaviour
friend = record {
  name = codes "friend";
  wake = [];
  message =
      Spawn (codes "y") 2 ∷ Send (Message 0) (Local (codes "y") ∷ []) ∷ Send (Local (codes "y")) (Message 0 ∷ []) ∷ Drop (Local (codes "y")) ∷ [];
}

abbrev pub maker : Behaviour
maker = record {
  name = codes "maker";
  wake = Spawn (codes "x") 2 ∷ Send (Local (codes "b")) (Local (codes "x") ∷ []) ∷ Drop (Local (codes "x")) ∷ [];
  message = [];
}

abbrev pub cell : Behaviour
cell = record { name = codes "cell"; wake = []; message = Keep (codes "k") 0 ∷ [] }

abbrev pub friend_seed : ℕ → Seed
friend_seed n = record { node = n; behaviour = 0; wakes = 0 }

abbrev pub maker_seed : Maker → Seed
maker_seed m = record { node = m.node; behaviour = 1; wakes = m.wakes }

-- the tie of the maker j, from its seed to that of its friend's node
abbrev pub maker_tie : ℕ × Maker → Tie
maker_tie p = record { from = 4 + p.0; to = p.1.friend; name = codes "b" }

-- the script of these makers: a friend on each of the nodes 0 to 3, and the makers
abbrev pub script : List Maker → Scripted
script ms = record {
  nodes = 4;
  code = friend ∷ maker ∷ cell ∷ [];
  seeds = map friend_seed (0 ∷ 1 ∷ 2 ∷ 3 ∷ []) ++ map maker_seed ms;
  ties = map maker_tie (enumerate_from 0 ms);
  plan = record { losses = []; repeats = []; crashes = [] };
  turns = 1000000;
}

unfoldable pub workload_script : ℕ → ℕ → Scripted
workload_script seed size = script (makers (seed % 65536) size)
