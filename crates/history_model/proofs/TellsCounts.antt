-- Counts that are alike, and what joined rows and joined facts count: what both count.
use Rattle.std.proofs.Common.{◌≡◌, ◌+◌, ◌&&◌, true, false, cond, List, [], ◌∷◌, ◌++◌, refl, sym, ◌∙◌, ap, ap₂}
use Rattle.std.proofs.lemmas.List.Sums.{sum_by-append}
use Rattle.std.specs.Prelude.{Some, unwrap_or}
use Rattle.crgc_ids.specs.Actor.{Actor, same_actor}
use Rattle.history_model.specs.declared.records.StateRow.{StateRow}
use Rattle.history_model.specs.Facts.{Fact, Flags, is_received, is_sent_to, is_created, is_released}
use Rattle.history_model.specs.Ledgers.{Counts, CountAlike, Ledger, fact_counts, joined, ledger_counts, row_flags, state_flags}
use Rattle.history_model.proofs.FoldSumsFlags.{last_flags-append, newer, newer-none, newer-unwrap}
use Rattle.history_model.proofs.Lists.{tally-append}

-- ---- alike

pub alike-same : (c : Counts) → CountAlike c c
alike-same c = record {
  received = λ _. refl;
  flags = λ _. refl;
  sent = λ _. refl;
  created = λ _ _. refl;
  released = λ _ _. refl;
}

pub alike-back : (c d : Counts) → CountAlike c d → CountAlike d c
alike-back c d alike = record {
  received = λ a. sym (alike.received a);
  flags = λ a. sym (alike.flags a);
  sent = λ a. sym (alike.sent a);
  created = λ b a. sym (alike.created b a);
  released = λ b a. sym (alike.released b a);
}

pub alike-then : (c d e : Counts) → CountAlike c d → CountAlike d e → CountAlike c e
alike-then c d e first second = record {
  received = λ a. first.received a ∙ second.received a;
  flags = λ a. first.flags a ∙ second.flags a;
  sent = λ a. first.sent a ∙ second.sent a;
  created = λ b a. first.created b a ∙ second.created b a;
  released = λ b a. first.released b a ∙ second.released b a;
}

-- ---- joined

-- what both count, the second later than the first
abbrev pub both : Counts → Counts → Counts
both c d = record {
  received = λ a. c.received a + d.received a;
  flags = λ a. newer (c.flags a) (d.flags a);
  sent = λ a. c.sent a + d.sent a;
  created = λ b a. c.created b a + d.created b a;
  released = λ b a. c.released b a + d.released b a;
}

pub alike-both : (c c' d d' : Counts) → CountAlike c c' → CountAlike d d' → CountAlike (both c d) (both c' d')
alike-both c c' d d' first second = record {
  received = λ a. ap₂ (λ x y. x + y) (first.received a) (second.received a);
  flags = λ a. ap₂ newer (first.flags a) (second.flags a);
  sent = λ a. ap₂ (λ x y. x + y) (first.sent a) (second.sent a);
  created = λ b a. ap₂ (λ x y. x + y) (first.created b a) (second.created b a);
  released = λ b a. ap₂ (λ x y. x + y) (first.released b a) (second.released b a);
}

-- joined facts
pub facts-both : (xs ys : List Fact) → CountAlike (fact_counts (xs ++ ys)) (both (fact_counts xs) (fact_counts ys))
facts-both xs ys = record {
  received = λ a. tally-append (is_received a) xs ys;
  flags = λ a. last_flags-append a xs ys;
  sent = λ a. tally-append (is_sent_to a) xs ys;
  created = λ b a. tally-append (is_created b a) xs ys;
  released = λ b a. tally-append (is_released b a) xs ys;
}

-- joined rows of states
row_flags-append : (a : Actor) (xs ys : List StateRow) → row_flags a (xs ++ ys) ≡ newer (row_flags a xs) (row_flags a ys)
row_flags-append a [] ys = newer-none (row_flags a ys)
row_flags-append a (r ∷ xs) ys =
    let g : Flags = state_flags r in
    let later = row_flags-append a xs ys in
    elim (same_actor a r.actor) as (λ v. cond v (Some (unwrap_or (row_flags a (xs ++ ys)) g)) (row_flags a (xs ++ ys)) ≡ newer (cond v (Some (unwrap_or (row_flags a xs) g)) (row_flags a xs)) (row_flags a ys)) [
      | true ↦ ap (λ f. Some (unwrap_or f g)) later ∙ newer-unwrap (row_flags a xs) (row_flags a ys) g
      | false ↦ later
    ]

-- joined rows
pub rows-both : (l m : Ledger) → CountAlike (ledger_counts (joined l m)) (both (ledger_counts l) (ledger_counts m))
rows-both l m = record {
  received = λ a. sum_by-append (λ r. cond (same_actor a r.actor) r.received 0) l.states m.states;
  flags = λ a. row_flags-append a l.states m.states;
  sent = λ a. sum_by-append (λ r. cond (same_actor a r.actor) r.count 0) l.sent m.sent;
  created = λ b a. sum_by-append (λ r. cond (same_actor b r.owner && same_actor a r.target) r.count 0) l.created m.created;
  released = λ b a. sum_by-append (λ r. cond (same_actor b r.owner && same_actor a r.target) r.count 0) l.released m.released;
}
