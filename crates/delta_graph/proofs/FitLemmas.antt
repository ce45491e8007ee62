-- Counts that fit, and entries that count from 1.
use Rattle.std.proofs.Common.{◌≡◌, ◌+◌, ◌<◌, ◌≤◌, ◌^◌, ◌&&◌, ℕ, Bool, true, false, cond, List, [], ◌∷◌, length, arith, sum_by}
use Rattle.std.proofs.ByRecursion.{All-append}
use Rattle.std.proofs.lemmas.List.Sums.{sum_by-le-sum_by}
use Rattle.std.specs.List.{AllByRecursion}
use Rattle.crgc_ids.specs.Actor.{same_actor}
use Rattle.history_model.specs.declared.records.Entry.{Entry}
use Rattle.history_model.specs.Facts.{Fact, is_created, is_received, is_released, is_sent_to}
use Rattle.history_model.specs.Ledgers.{CountFromOne, Ledger, actor_total, entries_ledger, entry_ledger, pair_total, received_total}
use Rattle.history_model.specs.Tally.{tally}
use Rattle.history_model.specs.Tells.{IsLedgerOf}
use Rattle.delta_graph.specs.Sums.{CountsFit, count_sum}

-- ---- counts that fit

-- where all counts together fit, so do those of any rows
counts-fit : {X : Type 0} (p : X → Bool) (count : X → ℕ) (rows : List X) (limit : ℕ) → sum_by count rows < limit → sum_by (λ r. cond (p r) (count r) 0) rows < limit
counts-fit {X} p count rows limit fits =
    let part : (r : X) → cond (p r) (count r) 0 ≤ count r = λ r. elim (p r) as (λ v. cond v (count r) 0 ≤ count r) [ true ↦ omega arith | false ↦ omega arith ] in
    let less = sum_by-le-sum_by (λ r. cond (p r) (count r) 0) count rows part in
    omega arith

pub fit-together : (l : Ledger) → count_sum l < 2 ^ 32 → CountsFit l
fit-together l fits = record {
  received = λ a. counts-fit (λ r. same_actor a r.actor) (λ r. r.received) l.states (2 ^ 32) (omega arith);
  sent = λ a. counts-fit (λ r. same_actor a r.actor) (λ r. r.count) l.sent (2 ^ 32) (omega arith);
  created = λ b a. counts-fit (λ r. same_actor b r.owner && same_actor a r.target) (λ r. r.count) l.created (2 ^ 32) (omega arith);
  released = λ b a. counts-fit (λ r. same_actor b r.owner && same_actor a r.target) (λ r. r.count) l.released (2 ^ 32) (omega arith);
}

-- facts are counted at most once each
pub tally-length : {X : Type 0} (test : X → Bool) (xs : List X) → tally test xs ≤ length xs
tally-length test [] = omega arith
tally-length test (x ∷ xs) =
    let later = tally-length test xs in
    elim (test x) as (λ v. cond v (tally test xs + 1) (tally test xs) ≤ length (x ∷ xs)) [ true ↦ omega arith | false ↦ omega arith ]

-- so counts fit where the facts that they count are few enough
pub fit-facts : (l : Ledger) (facts : List Fact) → IsLedgerOf facts l → length facts < 2 ^ 32 → CountsFit l
fit-facts l facts alike few =
    let bound : (n : ℕ) (test : Fact → Bool) → n ≡ tally test facts → n < 2 ^ 32 = λ n test is. (let all = tally-length test facts in omega (arith, is, all, few)) in
    record {
      received = λ a. bound (received_total a l.states) (is_received a) (alike.received a);
      sent = λ a. bound (actor_total a l.sent) (is_sent_to a) (alike.sent a);
      created = λ b a. bound (pair_total b a l.created) (is_created b a) (alike.created b a);
      released = λ b a. bound (pair_total b a l.released) (is_released b a) (alike.released b a);
    }

-- ---- names

-- entries of which none counts 0
pub entries-stand : (entries : List Entry) → AllByRecursion (λ e. CountFromOne (entry_ledger e)) entries → CountFromOne (entries_ledger entries)
entries-stand [] each = record { sent = tt; created = tt; released = tt }
entries-stand (e ∷ entries) each =
    let l : Ledger = entry_ledger e in
    let m : Ledger = entries_ledger entries in
    let first = each.0 in
    let later = entries-stand entries each.1 in
    record {
      sent = All-append (λ r. 0 < r.count) l.sent m.sent first.sent later.sent;
      created = All-append (λ r. 0 < r.count) l.created m.created first.created later.created;
      released = All-append (λ r. 0 < r.count) l.released m.released first.released later.released;
    }
