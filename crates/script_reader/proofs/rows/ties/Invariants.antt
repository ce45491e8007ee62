use Rattle.std.proofs.Common.{◌≡◌, drop, map}
use Rattle.serde_json.specs.View.{view}
use Rattle.script_reader.specs.Rows.{tie_of}
use Rattle.script_reader.specs.Walk.{each, each_after}
use Rattle.script_reader.proofs.rows.ties.Given as goal

abbrev pub invariant-loop-value : goal.invariant-loop-value
invariant-loop-value l = each_after (tie_of l.seeds) l.rows (map view (drop l.value-index l.values)) ≡ each (tie_of l.seeds) (map view l.values)
