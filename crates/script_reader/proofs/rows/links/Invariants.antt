use Rattle.std.proofs.Common.{◌≡◌, drop, map}
use Rattle.serde_json.specs.View.{view}
use Rattle.script_reader.specs.Rows.{new_link_of}
use Rattle.script_reader.specs.Walk.{each, each_after}
use Rattle.script_reader.proofs.rows.links.Given as goal

abbrev pub invariant-loop-value : goal.invariant-loop-value
invariant-loop-value l = each_after (new_link_of l.name l.nodes) l.rows (map view (drop l.value-index l.values)) ≡ each (new_link_of l.name l.nodes) (map view l.values)
