use Rattle.std.proofs.Common.{◌≡◌, drop, map, take, ◌≤◌, length}
use Rattle.script_reader.specs.Found.{IsNumbering}
use Rattle.script_reader.specs.Numbered.{names_of, new_name}
use Rattle.script_reader.specs.Walk.{each_after}
use Rattle.script_reader.proofs.names.numbering.Given as goal

abbrev pub invariant-loop-number : goal.invariant-loop-number
invariant-loop-number l = record {
  read : each_after new_name (map (λ b. b.name) (take l.number l.rows)) (drop l.number l.rows) ≡ names_of l.rows;
  numbers : IsNumbering l.numbers (map (λ b. b.name) (take l.number l.rows));
  few : length l.rows ≤ 256;
}
