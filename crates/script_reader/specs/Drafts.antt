-- What every draft of a script keeps; only what is private cites it.
use Rattle.std.specs.Prelude.{◌≤◌, length}
use Rattle.std.specs.List.{IsDistinct}
use Rattle.fault_plan.specs.Rows.{same_node, same_row}
use Rattle.script_reader.specs.declared.draft.Draft.{Draft}

-- it has few behaviours, and the rows of its plan differ
pub record IsSound (d : Draft) : Type 0 where
  pub few_behaviours : length d.behaviours ≤ 256
  pub losses : IsDistinct same_row d.losses
  pub repeats : IsDistinct same_row d.repeats
  pub crashes : IsDistinct same_node d.crashes
