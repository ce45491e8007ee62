use Rattle.std.proofs.Common.{◌≡◌, drop, map}
use Rattle.serde_json.specs.View.{view}
use Rattle.script_reader.specs.Rows.{behaviour_of}
use Rattle.script_reader.specs.Walk.{each, each_after}
use Rattle.script_reader.proofs.rows.behaviours.Given as goal

abbrev pub invariant-loop-value : goal.invariant-loop-value
invariant-loop-value l = each_after (λ _. behaviour_of) l.rows (map view (drop l.value-index l.values)) ≡ each (λ _. behaviour_of) (map view l.values)
