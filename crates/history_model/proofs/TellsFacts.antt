-- For every ledger there are facts that it counts: each row's fact, as often as the row says. So every bulletin tells a notice.
use Rattle.std.proofs.Common.{◌≡◌, ◌+◌, ◌&&◌, ℕ, zero, suc, Bool, true, false, cond, List, [], ◌∷◌, ◌++◌, flat_map, refl, sym, ◌∙◌, ap, ap₂, arith, replicate, sum_by}
use Rattle.std.specs.Prelude.{Some, None, unwrap_or}
use Rattle.crgc_ids.specs.Actor.{Actor, same_actor}
use Rattle.crgc_ids.specs.declared.rising.ActorCount.{ActorCount}
use Rattle.crgc_ids.specs.declared.rising.PairCount.{PairCount}
use Rattle.history_model.specs.declared.records.Bulletin.{Bulletin}
use Rattle.history_model.specs.declared.records.Bulletin.TheVariants as bulletins
use Rattle.history_model.specs.declared.records.StateRow.{StateRow}
use Rattle.history_model.specs.Tally.{tally}
use Rattle.history_model.specs.Facts.{Fact, received, sent_to, created, released, flagged, is_received, is_sent_to, is_created, is_released}
use Rattle.history_model.specs.Graph.{last_flags}
use Rattle.history_model.specs.Ledgers.{Ledger, delta_ledger, row_flags, state_flags, window_ledger}
use Rattle.history_model.specs.Streams.{Notice, delta, window_of, final_of}
use Rattle.history_model.specs.Tells.{IsLedgerOf, Tells, origin_of}
use Rattle.history_model.proofs.Basics.{same_actor-sym}
use Rattle.history_model.proofs.FoldSumsFlags.{last_flags-append, newer}
use Rattle.history_model.proofs.Lists.{tally-append}
use Rattle.history_model.proofs.LinksSums.{sum_by-none, sum_by-same, tally-flat_map}

-- ---- the facts of a row

abbrev state_facts : StateRow → List Fact
state_facts r = flagged r.actor (state_flags r) ∷ replicate r.received (received r.actor)

abbrev sent_facts : ActorCount → List Fact
sent_facts r = replicate r.count (sent_to r.actor)

abbrev created_facts : PairCount → List Fact
created_facts r = replicate r.count (created r.owner r.target)

abbrev released_facts : PairCount → List Fact
released_facts r = replicate r.count (released r.owner r.target)

abbrev facts_of : Ledger → List Fact
facts_of l = flat_map state_facts l.states ++ (flat_map sent_facts l.sent ++ (flat_map created_facts l.created ++ flat_map released_facts l.released))

-- ---- counts

module _ (test : Fact → Bool) where
  -- a fact so many times counts so often, where it passes
  tally-replicate : (n : ℕ) (x : Fact) → tally test (replicate n x) ≡ cond (test x) n 0
  tally-replicate zero x = none (test x)
    where
      none : (v : Bool) → tally test [] ≡ cond v 0 0
      none true = refl
      none false = refl
  tally-replicate (suc n) x =
      let before = tally-replicate n x in
      let Step : Bool → Type 0 = λ v. tally test (replicate n x) ≡ cond v n 0 → cond v (tally test (replicate n x) + 1) (tally test (replicate n x)) ≡ cond v (suc n) 0 in
      let step : Step (test x) = elim (test x) as Step [ true ↦ λ e. omega (arith, e) | false ↦ λ e. e ] in
      step before

  -- the facts of rows count what the rows count
  piece : {X : Type 0} (facts : X → List Fact) (count : X → ℕ) (rows : List X) → ((r : X) → tally test (facts r) ≡ count r) → tally test (flat_map facts rows) ≡ sum_by count rows
  piece facts count rows each = tally-flat_map test facts rows ∙ sum_by-same (λ r. tally test (facts r)) count rows (λ r _. each r)

  no-piece : {X : Type 0} (facts : X → List Fact) (rows : List X) → ((r : X) → tally test (facts r) ≡ 0) → tally test (flat_map facts rows) ≡ 0
  no-piece facts rows each = tally-flat_map test facts rows ∙ sum_by-none (λ r. tally test (facts r)) rows (λ r _. each r)

  whole : (l : Ledger) (s t c r : ℕ) → tally test (flat_map state_facts l.states) ≡ s → tally test (flat_map sent_facts l.sent) ≡ t → tally test (flat_map created_facts l.created) ≡ c
      → tally test (flat_map released_facts l.released) ≡ r → tally test (facts_of l) ≡ s + (t + (c + r))
  whole l s t c r p q u v =
      let first = tally-append test (flat_map state_facts l.states) (flat_map sent_facts l.sent ++ (flat_map created_facts l.created ++ flat_map released_facts l.released)) in
      let second = tally-append test (flat_map sent_facts l.sent) (flat_map created_facts l.created ++ flat_map released_facts l.released) in
      let third = tally-append test (flat_map created_facts l.created) (flat_map released_facts l.released) in
      omega arith

-- the two orders of a test's actors
turned : (b a : Actor) (n : ℕ) → cond (same_actor b a) n 0 ≡ cond (same_actor a b) n 0
turned b a n = ap (λ v. cond v n 0) (same_actor-sym b a)

turned-pair : (x y b a : Actor) (n : ℕ) → cond (same_actor x b && same_actor y a) n 0 ≡ cond (same_actor b x && same_actor a y) n 0
turned-pair x y b a n = ap₂ (λ v w. cond (v && w) n 0) (same_actor-sym x b) (same_actor-sym y a)

module _ (l : Ledger) where
  counts-received : (a : Actor) → tally (is_received a) (facts_of l) ≡ sum_by (λ r. cond (same_actor a r.actor) r.received 0) l.states
  counts-received a =
      let test = is_received a in
      let all = whole test l (sum_by (λ r. cond (same_actor a r.actor) r.received 0) l.states) 0 0 0
      (piece test state_facts (λ r. cond (same_actor a r.actor) r.received 0) l.states (λ r. tally-replicate test r.received (received r.actor) ∙ turned r.actor a r.received))
      (no-piece test sent_facts l.sent (λ r. tally-replicate test r.count (sent_to r.actor)))
      (no-piece test created_facts l.created (λ r. tally-replicate test r.count (created r.owner r.target)))
      (no-piece test released_facts l.released (λ r. tally-replicate test r.count (released r.owner r.target))) in
      omega arith

  counts-sent : (a : Actor) → tally (is_sent_to a) (facts_of l) ≡ sum_by (λ r. cond (same_actor a r.actor) r.count 0) l.sent
  counts-sent a =
      let test = is_sent_to a in
      let all = whole test l 0 (sum_by (λ r. cond (same_actor a r.actor) r.count 0) l.sent) 0 0
      (no-piece test state_facts l.states (λ r. tally-replicate test r.received (received r.actor)))
      (piece test sent_facts (λ r. cond (same_actor a r.actor) r.count 0) l.sent (λ r. tally-replicate test r.count (sent_to r.actor) ∙ turned r.actor a r.count))
      (no-piece test created_facts l.created (λ r. tally-replicate test r.count (created r.owner r.target)))
      (no-piece test released_facts l.released (λ r. tally-replicate test r.count (released r.owner r.target))) in
      omega arith

  counts-created : (b a : Actor) → tally (is_created b a) (facts_of l) ≡ sum_by (λ r. cond (same_actor b r.owner && same_actor a r.target) r.count 0) l.created
  counts-created b a =
      let test = is_created b a in
      let all = whole test l 0 0 (sum_by (λ r. cond (same_actor b r.owner && same_actor a r.target) r.count 0) l.created) 0
      (no-piece test state_facts l.states (λ r. tally-replicate test r.received (received r.actor)))
      (no-piece test sent_facts l.sent (λ r. tally-replicate test r.count (sent_to r.actor)))
      (piece test created_facts (λ r. cond (same_actor b r.owner && same_actor a r.target) r.count 0) l.created (λ r. tally-replicate test r.count (created r.owner r.target) ∙ turned-pair r.owner r.target b a r.count))
      (no-piece test released_facts l.released (λ r. tally-replicate test r.count (released r.owner r.target))) in
      omega arith

  counts-released : (b a : Actor) → tally (is_released b a) (facts_of l) ≡ sum_by (λ r. cond (same_actor b r.owner && same_actor a r.target) r.count 0) l.released
  counts-released b a =
      let test = is_released b a in
      let all = whole test l 0 0 0 (sum_by (λ r. cond (same_actor b r.owner && same_actor a r.target) r.count 0) l.released)
      (no-piece test state_facts l.states (λ r. tally-replicate test r.received (received r.actor)))
      (no-piece test sent_facts l.sent (λ r. tally-replicate test r.count (sent_to r.actor)))
      (no-piece test created_facts l.created (λ r. tally-replicate test r.count (created r.owner r.target)))
      (piece test released_facts (λ r. cond (same_actor b r.owner && same_actor a r.target) r.count 0) l.released (λ r. tally-replicate test r.count (released r.owner r.target) ∙ turned-pair r.owner r.target b a r.count)) in
      omega arith

-- ---- flags

module _ (a : Actor) where
  -- a fact that tells no flags is skipped
  skipped : (n : ℕ) (x : Fact) (rest : List Fact) → ((xs : List Fact) → last_flags a (x ∷ xs) ≡ last_flags a xs) → last_flags a (replicate n x ++ rest) ≡ last_flags a rest
  skipped zero x rest skip = refl
  skipped (suc n) x rest skip = skip (replicate n x ++ rest) ∙ skipped n x rest skip

  all-skipped : {X : Type 0} (facts : X → List Fact) (rows : List X) → ((r : X) (rest : List Fact) → last_flags a (facts r ++ rest) ≡ last_flags a rest) → last_flags a (flat_map facts rows) ≡ None
  all-skipped facts [] skip = refl
  all-skipped facts (r ∷ rows) skip = skip r (flat_map facts rows) ∙ all-skipped facts rows skip

  states-flags : (rows : List StateRow) → last_flags a (flat_map state_facts rows) ≡ row_flags a rows
  states-flags [] = refl
  states-flags (r ∷ rows) =
      let g = state_flags r in
      let later = skipped r.received (received r.actor) (flat_map state_facts rows) (λ _. refl) ∙ states-flags rows in
      ap (λ o. cond (same_actor r.actor a) (Some (unwrap_or o g)) o) later
      ∙ ap (λ v. cond v (Some (unwrap_or (row_flags a rows) g)) (row_flags a rows)) (same_actor-sym r.actor a)

  counts-flags : (l : Ledger) → last_flags a (facts_of l) ≡ row_flags a l.states
  counts-flags l =
      let sent = flat_map sent_facts l.sent in
      let made = flat_map created_facts l.created in
      let gone = flat_map released_facts l.released in
      let no_sent = all-skipped sent_facts l.sent (λ r rest. skipped r.count (sent_to r.actor) rest (λ _. refl)) in
      let no_made = all-skipped created_facts l.created (λ r rest. skipped r.count (created r.owner r.target) rest (λ _. refl)) in
      let no_gone = all-skipped released_facts l.released (λ r rest. skipped r.count (released r.owner r.target) rest (λ _. refl)) in
      let pairs : last_flags a (made ++ gone) ≡ None = last_flags-append a made gone ∙ ap₂ newer no_made no_gone in
      let others : last_flags a (sent ++ (made ++ gone)) ≡ None = last_flags-append a sent (made ++ gone) ∙ ap₂ newer no_sent pairs in
      last_flags-append a (flat_map state_facts l.states) (sent ++ (made ++ gone)) ∙ ap₂ newer (states-flags l.states) others

-- ---- bulletins

-- the ledger counts its rows' facts
facts_of-told : (l : Ledger) → IsLedgerOf (facts_of l) l
facts_of-told l = record {
  received = λ a. sym (counts-received l a);
  flags = λ a. sym (counts-flags a l);
  sent = λ a. sym (counts-sent l a);
  created = λ b a. sym (counts-created l b a);
  released = λ b a. sym (counts-released l b a);
}

-- so each bulletin tells a notice of its own node
pub tells-some : (b : Bulletin) → (n : Notice) × Tells (origin_of b) b n
tells-some (bulletins.Delta d) = (delta (facts_of (delta_ledger d)), (refl, facts_of-told (delta_ledger d)))
tells-some (bulletins.Window w) = (window_of w.from (facts_of (window_ledger w)), (refl, refl, facts_of-told (window_ledger w)))
tells-some (bulletins.Final w) = (final_of w.from (facts_of (window_ledger w)), (refl, refl, facts_of-told (window_ledger w)))
