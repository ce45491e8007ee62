use Rattle.std.proofs.Common.{◌≡◌, ◌+◌, ◌<◌, ◌≤◌, length, take, true, vec_capacity, vec_len}
use Rattle.std.specs.List.{AllByRecursion}
use Rattle.std.specs.Option.{IfSome}
use Rattle.history_model.specs.Ledgers.{pair_names}
use Rattle.shadow_table.specs.Shadows.{is_named, place_in}
use Rattle.shadow_rows.specs.Rows.{NamesRows}
use Rattle.shadow_rows.specs.Tabled.{AreNumbered, AreTabled, ExtendsEdges, ExtendsShadows}
use Rattle.shadow_rows.proofs.grow.add_pairs.Given as goal

abbrev pub invariant-loop-row : goal.invariant-loop-row
invariant-loop-row l = record {
  named : NamesRows l.initial.shadows.names l.shadows.names (pair_names (take l.row-index l.rows));
  fits : AllByRecursion (λ r. r.count < 4294967296) (take l.row-index l.rows);
  tabled : AreTabled l.shadows.names l.edges;
  shadows : ExtendsShadows l.initial.shadows l.shadows;
  extends : ExtendsEdges l.initial.edges l.edges;
  places : l.initial.edges.places ≤ l.edges.places;
  numbered : AreNumbered l.edges (take l.row-index l.rows) l.numbers.items;
  last_named : IfSome l.last (λ p. is_named l.shadows.names p.0 ≡ true);
  last : IfSome l.last (λ p. p.1 ≡ place_in l.shadows.names p.0);
  room : length l.rows + vec_len l.numbers ≤ l.row-index + vec_capacity l.numbers;
}
