-- What pages end as, where a `&mut` to what is kept of a place was returned.
use Rattle.std.specs.Prelude.{◌/◌, ◌%◌, ℕ, [], Option, None, option_map, slice_index_or, slice_set}
use Rattle.std.specs.Borrow.{Fml, LendsIf, MutBor}
use Rattle.std.specs.Box.{with_value}
use Rattle.edge_table.specs.Partition.{Kept, KeptPage, Parted}
use Rattle.edge_table.specs.contracts.pages.Page.{the_row as page_row}
use Rattle.edge_table.specs.contracts.pages.Pages.{the_row as pages_row}
use Rattle.edge_table.specs.contracts.partition.Partition.{the_row as partition_row}
use Rattle.edge_table.specs.declared.pages.TheConstants.{PAGE}

-- the page, where what was kept at the index is another now
abbrev pub with_changed_in : KeptPage → ℕ → Parted → KeptPage
with_changed_in page index s = slice_set page index (option_map (λ b. with_value b s) (slice_index_or page index None))

-- the pages, where what was kept of the place is another now
abbrev pub with_changed : Kept → ℕ → Parted → Kept
with_changed kept place s = slice_set kept (place / PAGE) (with_changed_in (slice_index_or kept (place / PAGE) []) (place % PAGE) s)

-- once the borrow r ends, the page keeps at the index what was written through r; as before where r is none
abbrev pub LendsIn : MutBor KeptPage → ℕ → Option (MutBor Parted) → Fml
LendsIn p index r = LendsIf page_row partition_row p r (with_changed_in p.now index) p.now

-- once the borrow r ends, what was written through r is kept of the place; as before where r is none
abbrev pub LendsOf : MutBor Kept → ℕ → Option (MutBor Parted) → Fml
LendsOf p place r = LendsIf pages_row partition_row p r (with_changed p.now place) p.now
