-- The orders of rows are total.
use Rattle.std.proofs.lemmas.Cmp.{nat_cmp_total, on_total, then_total}
use Rattle.std.specs.Cmp.{IsTotalOrder}
use Rattle.crgc_ids.specs.Actor.{Actor}
use Rattle.row_sums.specs.Orders.{compare_actors, compare_pairs}

pub actors-total : IsTotalOrder compare_actors
actors-total = then_total (on_total (λ (a : Actor). a.node) nat_cmp_total) (on_total (λ (a : Actor). a.serial) nat_cmp_total)

pub pairs-total : IsTotalOrder compare_pairs
pairs-total = then_total (on_total (λ (p : Actor × Actor). p.0) actors-total) (on_total (λ (p : Actor × Actor). p.1) actors-total)
