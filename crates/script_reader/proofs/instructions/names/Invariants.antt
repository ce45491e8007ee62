use Rattle.std.proofs.Common.{◌≡◌, drop, map}
use Rattle.serde_json.specs.View.{view}
use Rattle.script_reader.specs.Instructions.{operand_name}
use Rattle.script_reader.specs.Walk.{each, each_after}
use Rattle.script_reader.proofs.instructions.names.Given as goal

abbrev pub invariant-loop-operand : goal.invariant-loop-operand
invariant-loop-operand l =
    each_after (λ _. operand_name l.key) l.names (map view (drop l.operand-index l.operands)) ≡ each (λ _. operand_name l.key) (map view l.operands)
