use Rattle.std.proofs.Common.{Some, sym, ap, map}
use Rattle.serde_json.specs.View.{view}
use Rattle.script_reader.proofs.Trees.{list_of-items}
use Rattle.script_reader.proofs.walk.members_of.Goals as goal

pub returns-in-Some : goal.returns-in-Some
returns-in-Some c = rw (← c.in-Some.ensures, c.as_slice.ensures.value) (ap Some (sym (list_of-items (map view c.in-Some.items.now.items))))
