-- What contracts see of a script, and which scripts are as the format asks.
use Rattle.std.specs.Prelude.{◌≡◌, ◌≤◌, ℕ, ◌==◌, ◌&&◌, Bool, true, not, nat_le, nat_lt, List, length}
use Rattle.std.specs.List.{IsDistinct, list_all}
use Rattle.std.specs.Str.{bytes_eq}
use Rattle.behaviour_lang.specs.Code.{IsCode}
use Rattle.behaviour_lang.specs.Names.{is_local_name}
use Rattle.behaviour_lang.specs.declared.code.Behaviour.{Behaviour}
use Rattle.fault_plan.specs.declared.crashes.CrashRow.{CrashRow}
use Rattle.fault_plan.specs.declared.links.LinkRow.{LinkRow}
use Rattle.fault_plan.specs.Rows.{Planned, same_node, same_row}
use Rattle.script_reader.specs.declared.script.Seed.{Seed}
use Rattle.script_reader.specs.declared.script.Tie.{Tie}

-- a script; its code is the list of its behaviours
pub record Scripted : Type 0 where
  pub nodes : ℕ
  pub code : List Behaviour
  pub seeds : List Seed
  pub ties : List Tie
  pub plan : Planned
  pub turns : ℕ

-- whether two ties bind one name of one seed
abbrev pub same_tie : Tie → Tie → Bool
same_tie t u = (t.from == u.from) && bytes_eq t.name u.name

-- a seed, where there are so many nodes and behaviours
abbrev pub is_seed : ℕ → ℕ → Seed → Bool
is_seed nodes behaviours s = nat_lt s.node nodes && nat_lt s.behaviour behaviours && nat_le s.wakes 1000000

-- a tie, where there are so many seeds
abbrev pub is_tie : ℕ → Tie → Bool
is_tie seeds t = nat_lt t.from seeds && nat_lt t.to seeds && not (t.to == t.from) && is_local_name t.name

-- a loss or a repeat, where there are so many nodes
abbrev pub is_link : ℕ → LinkRow → Bool
is_link nodes r = nat_lt r.from nodes && nat_lt r.to nodes && not (r.to == r.from) && nat_lt r.number 1000000

abbrev pub is_crash : ℕ → CrashRow → Bool
is_crash nodes r = nat_lt r.node nodes && nat_le 1 r.after && nat_le r.after 1000000

-- at most so many rows, each of which passes the test, and no two of which are the same
pub record AreRows {A : Type 0} (most : ℕ) (test : A → Bool) (same : A → A → Bool) (rows : List A) : Type 0 where
  pub few : length rows ≤ most
  pub pass : list_all test rows ≡ true
  pub differ : IsDistinct same rows

-- each part of a script is as the format asks
pub record IsScript (s : Scripted) : Type 0 where
  pub nodes : (1 ≤ s.nodes) × (s.nodes ≤ 16)
  pub code : IsCode s.code
  pub few_seeds : length s.seeds ≤ 4096
  pub seeds : list_all (is_seed s.nodes (length s.code)) s.seeds ≡ true
  pub ties : AreRows 4096 (is_tie (length s.seeds)) same_tie s.ties
  pub losses : AreRows 4096 (is_link s.nodes) same_row s.plan.losses
  pub repeats : AreRows 4096 (is_link s.nodes) same_row s.plan.repeats
  pub crashes : AreRows 16 (is_crash s.nodes) same_node s.plan.crashes
  pub turns : (1 ≤ s.turns) × (s.turns ≤ 1000000)
