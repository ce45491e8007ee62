use Rattle.std.proofs.Common.{◌≡◌, drop, length, map}
use Rattle.serde_json.specs.View.{view}
use Rattle.script_reader.specs.Rows.{seed_of}
use Rattle.script_reader.specs.Walk.{each, each_after}
use Rattle.script_reader.proofs.rows.seeds.Given as goal

abbrev pub invariant-loop-value : goal.invariant-loop-value
invariant-loop-value l = record {
  read : each_after (λ _. seed_of l.nodes) l.rows (map view (drop l.value-index l.values)) ≡ each (λ _. seed_of l.nodes) (map view l.values);
  len : length l.rows ≡ l.value-index;
}
