-- How an ordered index stands to the rows of a list; only what is private cites it.
use Rattle.std.specs.Prelude.{◌≡◌, true, List}
use Rattle.std.specs.List.{filter, list_any}
use Rattle.fault_plan.specs.declared.links.LinkRow.{LinkRow}
use Rattle.fault_plan.specs.Rows.{same_row}

-- the index has exactly the rows of the list
abbrev pub IsIndex : List LinkRow → List LinkRow → Type 0
IsIndex index rows = (r : LinkRow) → list_any (same_row r) index ≡ list_any (same_row r) rows

-- each row of the index is one of the list
abbrev pub IsWithin : List LinkRow → List LinkRow → Type 0
IsWithin index rows = (r : LinkRow) → list_any (same_row r) index ≡ true → list_any (same_row r) rows ≡ true

-- the rows of the list that the index has, in the order of the list
abbrev pub kept : List LinkRow → List LinkRow → List LinkRow
kept index rows = filter (λ r. list_any (same_row r) index) rows
