-- The rows of a plan.
use Rattle.std.specs.Prelude.{ℕ, ◌==◌, ◌&&◌, Bool, List, Option, find, option_map}
use Rattle.fault_plan.specs.declared.crashes.CrashRow.{CrashRow}
use Rattle.fault_plan.specs.declared.links.LinkRow.{LinkRow}

-- the rows that are left, each list in the order of the plan
pub record Planned : Type 0 where
  pub losses : List LinkRow
  pub repeats : List LinkRow
  pub crashes : List CrashRow

-- the row of a copy on a link
abbrev pub link_row : ℕ → ℕ → ℕ → LinkRow
link_row from to number = record { from = from; to = to; number = number }

-- whether two rows are one
abbrev pub same_row : LinkRow → LinkRow → Bool
same_row r s = (r.from == s.from) && (r.to == s.to) && (r.number == s.number)

-- whether two crash rows name one node
abbrev pub same_node : CrashRow → CrashRow → Bool
same_node r s = r.node == s.node

-- with how many ended turns the node crashes, where a row names it
abbrev pub crash_of : ℕ → List CrashRow → Option ℕ
crash_of n rows = option_map (λ r. r.after) (find (λ r. r.node == n) rows)
