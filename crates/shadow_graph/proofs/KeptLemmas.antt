-- What the graph keeps as it takes in bulletins.
use Rattle.std.proofs.Common.{◌≡◌, ◌+◌, ◌*◌, ◌<◌, ◌≤◌, ◌==◌, ℕ, zero, suc, Bool, true, false, cond, List, [], ◌∷◌, Option, Some, None, length, get_or, set, refl, sym, ◌∙◌, ap, subst, arith, sum_by}
use Rattle.std.proofs.lemmas.Int.{ints}
use Rattle.std.proofs.lemmas.List.{length-set}
use Rattle.std.proofs.lemmas.List.Sums.{count_by-le-length, sum_by-cons, sum_by-set}
use Rattle.std.proofs.lemmas.Bool.Decides.{same_from_decides}
use Rattle.std.specs.List.{AllByRecursion}
use Rattle.std.specs.Prelude.{◌↔◌, IsTrue}
use Rattle.crgc_ids.specs.Members.{IsAmong}
use Rattle.crgc_ids.proofs.NodesLaws.{has_node-from_true, has_node-member}
use Rattle.crgc_ids.specs.Actor.{Actor}
use Rattle.crgc_ids.specs.Nodes.{has_node, nodes_below}
use Rattle.history_model.specs.declared.records.Bulletin.{Bulletin}
use Rattle.history_model.specs.declared.records.Bulletin.TheVariants as bulletins
use Rattle.history_model.specs.declared.records.Delta.{Delta}
use Rattle.history_model.specs.declared.records.Window.{Window}
use Rattle.history_model.specs.Ledgers.{Ledger, actor_total, delta_ledger, no_rows, pair_total, received_total, window_ledger}
use Rattle.history_model.specs.MoreFolded.{link_rows, own_rows}
use Rattle.delta_graph.specs.Sums.{CountsFit}
use Rattle.edge_table.specs.Table.{Edges}
use Rattle.membership.specs.Noted.{Noted}
use Rattle.shadow_table.specs.Shadows.{Shadows}
use Rattle.shadow_table.specs.declared.table.Shadow.{Shadow}
use Rattle.undo_log.specs.Noted.{noted_count}
use Rattle.undo_log.specs.Told.{admitted_from, told_by}
use Rattle.undo_log.specs.declared.corrections.Correction.{Correction}
use Rattle.shadow_rows.specs.Rows.{AddsRows, AreSmall, IsLogCovered, LogsIf}
use Rattle.shadow_graph.specs.Kept.{AreWithin, IsKept, lost_count}
use Rattle.shadow_rows.specs.Tabled.{AreTabled}

-- what a bulletin's rows count is below 2^32
pub record RowsFit (node : ℕ) (counts : Bool) (own link : Ledger) (b : Bulletin) : Type 0 where
  pub received : (a : Actor) → received_total a own.states < 4294967296
  pub told : (a : Actor) → cond counts (actor_total a own.sent) 0 < 4294967296
  pub admitted : (a : Actor) → actor_total a link.sent < 4294967296
  pub given : (b a : Actor) → cond counts (pair_total b a own.created) 0 + pair_total b a link.created < 4294967296
  pub released : (b a : Actor) → pair_total b a own.released < 4294967296
  pub log_told : (n : ℕ) (owner : Option Actor) (target : Actor) → cond (n == node) (noted_count owner target (own_rows b).sent (own_rows b).created) 0 < 4294967296
  pub log_admitted : (n : ℕ) (owner : Option Actor) (target : Actor) → noted_count owner target (link_rows (λ k. k == n) b).sent (link_rows (λ k. k == n) b).created < 4294967296

or-nothing : (v : Bool) (n : ℕ) → n < 4294967296 → cond v n 0 < 4294967296
or-nothing true n small = small
or-nothing false n small = omega arith

noted-small : (l : Ledger) → CountsFit l → (owner : Option Actor) (target : Actor) → noted_count owner target l.sent l.created < 4294967296
noted-small l fits None target = fits.sent target
noted-small l fits (Some owner) target = fits.created owner target

none-small : (owner : Option Actor) (target : Actor) → noted_count owner target [] [] < 4294967296
none-small None target = omega arith
none-small (Some owner) target = omega arith

pub delta-fits : (d : Delta) (counts : Bool) → CountsFit (delta_ledger d) → RowsFit d.node counts (delta_ledger d) no_rows (bulletins.Delta d)
delta-fits d counts fits = record {
  received = fits.received;
  told = λ a. or-nothing counts _ (fits.sent a);
  admitted = λ a. omega arith;
  given = λ b a. (let one = or-nothing counts (pair_total b a d.created) (fits.created b a) in omega (arith, one));
  released = fits.released;
  log_told = λ n owner target. or-nothing (n == d.node) _ (noted-small (delta_ledger d) fits owner target);
  log_admitted = λ n owner target. none-small owner target;
}

-- rows that count where a test says so
rows-if : (v : Bool) (w : Window) (count : Ledger → ℕ) → count (window_ledger w) < 4294967296 → count no_rows < 4294967296 → count (cond v (window_ledger w) no_rows) < 4294967296
rows-if true w count some none = some
rows-if false w count some none = none

pub window-fits : (w : Window) (counts told : Bool) → CountsFit (window_ledger w) → RowsFit w.at told no_rows (cond counts (window_ledger w) no_rows) (bulletins.Window w)
window-fits w counts told fits = record {
  received = λ a. omega arith;
  told = λ a. or-nothing told 0 (omega arith);
  admitted = λ a. rows-if counts w (λ l. actor_total a l.sent) (fits.sent a) (omega arith);
  given = λ b a. (
      let zero_is = nothing told 0 refl in
      let some = rows-if counts w (λ l. pair_total b a l.created) (fits.created b a) (omega arith) in
      omega (arith, zero_is, some)
      );
  released = λ b a. omega arith;
  log_told = λ n owner target. or-nothing (n == w.at) _ (none-small owner target);
  log_admitted = λ n owner target. rows-if (w.from == n) w (λ l. noted_count owner target l.sent l.created) (noted-small (window_ledger w) fits owner target) (none-small owner target);
}
  where
    nothing : (v : Bool) (n : ℕ) → n ≡ 0 → cond v n n ≡ 0
    nothing true n e = e
    nothing false n e = e

-- what the log counts grows at most by the bulletin's rows
module _ (node : ℕ) (b : Bulletin) (log log' : List (List Correction)) where
  told-grows : (logs : Bool) → LogsIf logs node b log log' → (n : ℕ) (owner : Option Actor) (target : Actor) → told_by log' n owner target ≤ told_by log n owner target + cond (n == node) (noted_count owner target (own_rows b).sent (own_rows b).created) 0
  told-grows true added n owner target = (let new = (added.noted refl).told n owner target in omega (arith, new))
  told-grows false added n owner target = (let new = ap (λ l. told_by l n owner target) (added.same refl) in omega (arith, new))

  admitted-grows : (logs : Bool) → LogsIf logs node b log log' → (n : ℕ) (owner : Option Actor) (target : Actor) → admitted_from log' n owner target ≤ admitted_from log n owner target + noted_count owner target (link_rows (λ k. k == n) b).sent (link_rows (λ k. k == n) b).created
  admitted-grows true added n owner target = (let new = (added.noted refl).admitted n owner target in omega (arith, new))
  admitted-grows false added n owner target = (let new = ap (λ l. admitted_from l n owner target) (added.same refl) in omega (arith, new))

-- one bulletin more
pub within-added : (folded lost node : ℕ) (counts logs : Bool) (own link : Ledger) (b : Bulletin) (s t : Shadows) (e f : Edges) (log log' : List (List Correction)) → RowsFit node counts own link b → AddsRows node counts own link s t e f → LogsIf logs node b log log' → AreWithin folded lost s e log → AreWithin (folded + 1) lost t f log'
within-added folded lost node counts logs own link b s t e f log log' fits adds added within = record {
  received = λ a. (let new = ap (λ (x : Shadow). x.received) (adds.shadows a) in let old = within.received a in let more = fits.received a in omega (arith, new, old, more));
  told = λ a. (let new = ap (λ (x : Shadow). x.told) (adds.shadows a) in let old = within.told a in let more = fits.told a in omega (arith, new, old, more));
  admitted = λ a. (let new = ap (λ (x : Shadow). x.admitted) (adds.shadows a) in let old = within.admitted a in let more = fits.admitted a in omega (arith, new, old, more));
  count = λ b a. (
      let new = adds.count b a in
      let low = (within.count b a).0 in
      let high = (within.count b a).1 in
      let given = fits.given b a in
      let released = fits.released b a in
      (omega (arith, ints, new, low, released), omega (arith, ints, new, high, given))
      );
  log_told = λ n owner target. (let new = told-grows node b log log' logs added n owner target in let old = within.log_told n owner target in let more = fits.log_told n owner target in omega (arith, new, old, more));
  log_admitted = λ n owner target. (let new = admitted-grows node b log log' logs added n owner target in let old = within.log_admitted n owner target in let more = fits.log_admitted n owner target in omega (arith, new, old, more));
}

-- ---- the cut

sum-most : (cut : List ℕ) → AllByRecursion (λ k. k ≤ 1000000) cut → sum_by (λ k. k) cut ≤ length cut * 1000000
sum-most [] all = omega arith
sum-most (k ∷ cut) all =
    let split = sum_by-cons (λ (k : ℕ). k) k cut in
    let later = sum-most cut all.1 in
    let here = all.0 in
    omega (arith, split, later, here)

raised : (cut : List ℕ) (node : ℕ) → AllByRecursion (λ k. k ≤ 1000000) cut → node < length cut → get_or cut node 0 < 1000000 → AllByRecursion (λ k. k ≤ 1000000) (set cut node (get_or cut node 0 + 1))
raised [] node all inside fewer = absurd (omega arith)
raised (k ∷ cut) zero all inside fewer = (omega arith, all.1)
raised (k ∷ cut) (suc node) all inside fewer = (all.0, raised cut node all.1 (omega arith) fewer)

pub kept-added : (s t : Shadows) (e f : Edges) (log log' : List (List Correction)) (finals : Noted) (lost cut cut' : List ℕ) (node : ℕ) (counts logs : Bool) (own link : Ledger) (b : Bulletin) → IsKept s e log finals lost cut → AreTabled t.names f → IsLogCovered t f log' → RowsFit node counts own link b → AddsRows node counts own link s t e f → LogsIf logs node b log log' → node < 16 → get_or cut node 0 < 1000000 → cut' ≡ set cut node (get_or cut node 0 + 1) → IsKept t f log' finals lost cut'
kept-added s t e f log log' finals lost cut cut' node counts logs own link b kept tabled covered fits adds added inside fewer is =
    let long = kept.long in
    let one_more : sum_by (λ k. k) (set cut node (get_or cut node 0 + 1)) ≡ sum_by (λ k. k) cut + 1 = (let total = sum_by-set (λ (k : ℕ). k) cut node (get_or cut node 0 + 1) 0 (omega arith) in omega (arith, total)) in
    let within = within-added (sum_by (λ k. k) cut) (lost_count lost) node counts logs own link b s t e f log log' fits adds added kept.within in
    subst (λ c. IsKept t f log' finals lost c) (sym is) (record {
      tabled = tabled;
      covered = covered;
      within = subst (λ n. AreWithin n (lost_count lost) t f log') (sym one_more) within;
      by_finals = kept.by_finals;
      counts = raised cut node kept.counts (omega arith) fewer;
      long = length-set cut node (get_or cut node 0 + 1) ∙ long;
      few = kept.few;
    })

-- all as before
pub kept-restored : (s t : Shadows) (e f : Edges) (log log' : List (List Correction)) (finals : Noted) (lost cut : List ℕ) → IsKept s e log finals lost cut → t ≡ s → f.pairs ≡ e.pairs → f.edges ≡ e.edges → log' ≡ log → AreTabled t.names f → IsLogCovered t f log' → IsKept t f log' finals lost cut
kept-restored s t e f log log' finals lost cut kept same pairs edges logs tabled covered =
    let with_places : Edges = record e { places = f.places } in
    let is : with_places ≡ f = λ i. record { pairs = sym pairs i; edges = sym edges i; places = f.places } in
    let here : AreWithin (sum_by (λ k. k) cut) (lost_count lost) s with_places log = record {
      received = kept.within.received;
      told = kept.within.told;
      admitted = kept.within.admitted;
      count = kept.within.count;
      log_told = kept.within.log_told;
      log_admitted = kept.within.log_admitted;
    } in
    record {
      tabled = tabled;
      covered = covered;
      within = subst (λ l. AreWithin (sum_by (λ k. k) cut) (lost_count lost) t f l) (sym logs) (subst (λ x. AreWithin (sum_by (λ k. k) cut) (lost_count lost) x f log) (sym same) (subst (λ x. AreWithin (sum_by (λ k. k) cut) (lost_count lost) s x log) is here));
      by_finals = kept.by_finals;
      counts = kept.counts;
      long = kept.long;
      few = kept.few;
    }

-- ---- far below the ends of the types

pub few-lost : (lost : List ℕ) → lost_count lost ≤ 16
few-lost lost = count_by-le-length (has_node lost) (nodes_below 16)

pub few-folded : (s : Shadows) (e : Edges) (log : List (List Correction)) (finals : Noted) (lost cut : List ℕ) → IsKept s e log finals lost cut → sum_by (λ k. k) cut ≤ 16000000
few-folded s e log finals lost cut kept = (let most = sum-most cut kept.counts in let long = kept.long in let all : length cut * 1000000 ≡ 16000000 = ap (λ n. n * 1000000) long in omega (arith, most, all))

pub small-kept : (s : Shadows) (e : Edges) (log : List (List Correction)) (finals : Noted) (lost cut : List ℕ) → IsKept s e log finals lost cut → AreSmall s e
small-kept s e log finals lost cut kept =
    let few = few-lost lost in
    let folded = few-folded s e log finals lost cut kept in
    record {
      received = λ a. (let h = kept.within.received a in omega (arith, h, folded));
      told = λ a. (let h = kept.within.told a in omega (arith, h, folded));
      admitted = λ a. (let h = kept.within.admitted a in omega (arith, h, folded, few));
      count = λ b a. (
          let low = (kept.within.count b a).0 in
          let high = (kept.within.count b a).1 in
          (omega (arith, ints, low, folded, few), omega (arith, ints, high, folded, few))
          );
    }

pub log-small : (s : Shadows) (e : Edges) (log : List (List Correction)) (finals : Noted) (lost cut : List ℕ) → IsKept s e log finals lost cut → (n : ℕ) (owner : Option Actor) (target : Actor) → (told_by log n owner target ≤ 72057594037927936) × (admitted_from log n owner target ≤ 72057594037927936)
log-small s e log finals lost cut kept n owner target =
    let folded = few-folded s e log finals lost cut kept in
    let told = kept.within.log_told n owner target in
    let admitted = kept.within.log_admitted n owner target in
    (omega (arith, told, folded), omega (arith, admitted, folded))

-- whether a set has a node
pub has-tells : (xs : List ℕ) (k : ℕ) (r : Bool) → IsTrue r ↔ IsAmong k xs → r ≡ has_node xs k
has-tells xs k r tells =
    same_from_decides r (has_node xs k) tells (λ t. has_node-from_true xs k t, λ m. has_node-member xs k m)
