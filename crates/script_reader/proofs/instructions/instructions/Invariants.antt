use Rattle.std.proofs.Common.{◌≡◌, drop, map}
use Rattle.serde_json.specs.View.{view}
use Rattle.script_reader.specs.Instructions.{instruction_of}
use Rattle.script_reader.specs.Walk.{each, each_after}
use Rattle.script_reader.proofs.instructions.instructions.Given as goal

abbrev pub invariant-loop-value : goal.invariant-loop-value
invariant-loop-value l =
    each_after (λ _. instruction_of l.key) l.instrs (map view (drop l.value-index l.values)) ≡ each (λ _. instruction_of l.key) (map view l.values)
