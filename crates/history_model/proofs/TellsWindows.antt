-- What the facts of admitted messages count, and that a window's facts are those of the messages admitted since the last one.
use Rattle.std.proofs.Common.{◌≡◌, ◌+◌, ◌&&◌, ◌==◌, ℕ, Bool, true, false, cond, List, [], ◌∷◌, ◌++◌, map, flat_map, refl, sym, ◌∙◌, ap, arith, count_by}
use Rattle.std.proofs.lemmas.Grind.{flat_map-append}
use Rattle.std.proofs.lemmas.List.Sums.{sum_by-cons}
use Rattle.std.specs.Prelude.{None}
use Rattle.crgc_ids.specs.Actor.{Actor, same_actor}
use Rattle.history_model.specs.declared.events.Event.{Event}
use Rattle.history_model.specs.declared.events.Event.TheVariants.{Admit, Remove, Window}
use Rattle.history_model.specs.declared.records.Window as windows
use Rattle.history_model.specs.Tally.{tally}
use Rattle.history_model.specs.Facts.{Fact, is_received, is_sent_to, is_created, is_released, message_facts, sent_to, created}
use Rattle.history_model.specs.Messages.{Message, admitted_by}
use Rattle.history_model.specs.Streams.{window}
use Rattle.history_model.specs.Graph.{last_flags}
use Rattle.history_model.specs.Ledgers.{window_ledger}
use Rattle.history_model.specs.Tells.{CountsMessages, IsLedgerOf, admitted_since, message_pairs, message_recipients}
use Rattle.history_model.proofs.Basics.{same_actor-sym}
use Rattle.history_model.proofs.Lists.{tally-append}

-- a test that neither a message sent nor a reference made passes
messages-none : (test : Fact → Bool) → ((a : Actor) → test (sent_to a) ≡ false) → ((b a : Actor) → test (created b a) ≡ false) → (ms : List Message) → tally test (flat_map message_facts ms) ≡ 0
messages-none test no_sent no_created [] = refl
messages-none test no_sent no_created (m ∷ ms) =
    let first : tally test (message_facts m) ≡ 0 = ap (λ v. cond v (tally test (map (created m.to) m.refs) + 1) (tally test (map (created m.to) m.refs))) (no_sent m.to) ∙ refs m.refs in
    omega (arith, tally-append test (message_facts m) (flat_map message_facts ms), first, messages-none test no_sent no_created ms)
  where
    refs : (rs : List Actor) → tally test (map (created m.to) rs) ≡ 0
    refs [] = refl
    refs (r ∷ rs) = ap (λ v. cond v (tally test (map (created m.to) rs) + 1) (tally test (map (created m.to) rs))) (no_created m.to r) ∙ refs rs

messages-flags : (a : Actor) (ms : List Message) → last_flags a (flat_map message_facts ms) ≡ None
messages-flags a [] = refl
messages-flags a (m ∷ ms) = refs m.refs (messages-flags a ms)
  where
    refs : (rs : List Actor) → last_flags a (flat_map message_facts ms) ≡ None → last_flags a (map (created m.to) rs ++ flat_map message_facts ms) ≡ None
    refs [] rest = rest
    refs (r ∷ rs) rest = refs rs rest

-- a test that passes or not counts one or nothing
one-more : (v w : Bool) (x y : ℕ) → v ≡ w → x ≡ y → cond v (x + 1) x ≡ cond w 1 0 + y
one-more v w x y e q = ap (λ b. cond b (x + 1) x) e ∙ (elim w as (λ b. cond b (x + 1) x ≡ cond b 1 0 + y) [ true ↦ omega (arith, q) | false ↦ omega (arith, q) ])

-- messages count as sent to each recipient as often as it is one
pub messages-sent : (a : Actor) (ms : List Message) → tally (is_sent_to a) (flat_map message_facts ms) ≡ count_by (same_actor a) (message_recipients ms)
messages-sent a [] = refl
messages-sent a (m ∷ ms) =
    let refs : tally (is_sent_to a) (map (created m.to) m.refs ++ flat_map message_facts ms) ≡ tally (is_sent_to a) (flat_map message_facts ms) = skip m.refs in
    one-more (same_actor m.to a) (same_actor a m.to) _ _ (same_actor-sym m.to a) (refs ∙ messages-sent a ms)
    ∙ sym (sum_by-cons (λ b. cond (same_actor a b) 1 0) m.to (message_recipients ms))
  where
    skip : (rs : List Actor) → tally (is_sent_to a) (map (created m.to) rs ++ flat_map message_facts ms) ≡ tally (is_sent_to a) (flat_map message_facts ms)
    skip [] = refl
    skip (r ∷ rs) = skip rs

-- their references count as made for the recipient
pub messages-created : (b a : Actor) (ms : List Message) → tally (is_created b a) (flat_map message_facts ms) ≡ count_by (λ p. same_actor b p.0 && same_actor a p.1) (message_pairs ms)
messages-created b a [] = refl
messages-created b a (m ∷ ms) = refs m.refs (messages-created b a ms)
  where
    refs : (rs : List Actor) → tally (is_created b a) (flat_map message_facts ms) ≡ count_by (λ p. same_actor b p.0 && same_actor a p.1) (message_pairs ms)
        → tally (is_created b a) (map (created m.to) rs ++ flat_map message_facts ms) ≡ count_by (λ p. same_actor b p.0 && same_actor a p.1) (map (λ r. (m.to, r)) rs ++ message_pairs ms)
    refs [] rest = rest
    refs (r ∷ rs) rest =
        one-more (same_actor m.to b && same_actor r a) (same_actor b m.to && same_actor a r) _ _ (ap (λ v. v && same_actor r a) (same_actor-sym m.to b) ∙ ap (λ v. same_actor b m.to && v) (same_actor-sym r a)) (refs rs rest)
        ∙ sym (sum_by-cons (λ p. cond (same_actor b p.0 && same_actor a p.1) 1 0) (m.to, r) (map (λ x. (m.to, x)) rs ++ message_pairs ms))

-- rows that count the messages tell their facts
pub window-tells : (w : windows.Window) (ms : List Message) → CountsMessages w ms → IsLedgerOf (flat_map message_facts ms) (window_ledger w)
window-tells w ms counts = record {
  received = λ a. sym (messages-none (is_received a) (λ _. refl) (λ _ _. refl) ms);
  flags = λ a. sym (messages-flags a ms);
  sent = λ a. counts.messages a ∙ sym (messages-sent a ms);
  created = λ b a. counts.carried b a ∙ sym (messages-created b a ms);
  released = λ b a. sym (messages-none (is_released b a) (λ _. refl) (λ _ _. refl) ms);
}

-- the facts of a window are those of the messages admitted since the last one
pub window-messages : (s d : ℕ) (h : List Event) → window s d h ≡ flat_map message_facts (admitted_since s d h)
window-messages s d [] = refl
window-messages s d (Admit x y k ∷ p) =
    elim ((x == s) && (y == d)) as (λ v. cond v (window s d p ++ flat_map message_facts (admitted_by (Admit x y k) p)) (window s d p) ≡ flat_map message_facts (cond v (admitted_since s d p ++ admitted_by (Admit x y k) p) (admitted_since s d p))) [
      | true ↦ ap (λ xs. xs ++ flat_map message_facts (admitted_by (Admit x y k) p)) (window-messages s d p) ∙ sym (flat_map-append message_facts (admitted_since s d p) (admitted_by (Admit x y k) p))
      | false ↦ window-messages s d p
    ]
window-messages s d (Window y x ∷ p) =
    elim ((x == s) && (y == d)) as (λ v. cond v [] (window s d p) ≡ flat_map message_facts (cond v [] (admitted_since s d p))) [ true ↦ refl | false ↦ window-messages s d p ]
window-messages s d (Remove y x ∷ p) =
    elim ((x == s) && (y == d)) as (λ v. cond v [] (window s d p) ≡ flat_map message_facts (cond v [] (admitted_since s d p))) [ true ↦ refl | false ↦ window-messages s d p ]
window-messages s d (_ ∷ p) = window-messages s d p
