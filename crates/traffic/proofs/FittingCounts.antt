-- No more is sent, copied or admitted on a link than events were, and each message carries few references.
use Rattle.std.proofs.Common.{◌≡◌, ◌+◌, ◌-◌, ◌*◌, ◌≤◌, ◌==◌, ◌&&◌, ◌++◌, nat_lt, ℕ, suc, Bool, true, false, cond, Option, Some, None, List, [], ◌∷◌, length, length-append, map, option_to_list, slice_get, refl, sym, ap, subst, inl, inr, arith}
use Rattle.std.proofs.lemmas.List.{length-map}
use Rattle.std.proofs.lemmas.List.Sums.{count_by-le-length}
use Rattle.std.specs.Option.{option_map}
use Rattle.crgc_ids.specs.Actor.{Actor, same_actor}
use Rattle.crgc_ids.specs.Members.{IsAmong}
use Rattle.crgc_ids.proofs.MembersLaws.{IsAmong-append_cases}
use Rattle.history_model.specs.declared.events.Event.{Event}
use Rattle.history_model.specs.declared.events.Event.TheVariants.{Seed, Tie, Wake, Take, Spawn, Send, Drop, Retire, Rest, Flush, Publish, Window, Admit, Lose, Repeat, Crash, Remove, Hand, Sweep}
use Rattle.history_model.specs.Messages.{Message, admitted_by, copies, is_admit, is_lose, is_repeat, sent, was_admitted}
use Rattle.history_model.specs.Tally.{tally}
use Rattle.history_model.specs.Tells.{admitted_since, message_pairs}
use Rattle.history_model.proofs.Lists.{among-place}
use Rattle.link_table.specs.declared.piles.Envelope.{Envelope}
use Rattle.link_table.specs.LinkState.{FitsGate, LinkState}
use Rattle.link_table.specs.Piled.{copies_in, message_in, pile_at}
use Rattle.link_table.specs.Standing.{StandsFor, envelope_at, envelope_of, is_link_open, pile_of}
use Rattle.traffic.specs.Fitting.{CarriesFew, IsSmall}
use Rattle.traffic.proofs.FittingWaits.{tally-length}

-- ---- sent and copied

-- one list is longer than another by one at most, whatever a test says
one-at_most : {X : Type 0} (v : Bool) (xs : List X) (x : X) (n : ℕ) → length xs ≤ n → length (cond v (xs ++ x ∷ []) xs) ≤ suc n
one-at_most true xs x n less = (let longer = length-append xs (x ∷ []) in omega arith)
one-at_most false xs x n less = omega arith

pub sent-short : (s d : ℕ) (h : List Event) → length (sent s d h) ≤ length h
sent-short s d [] = omega arith
sent-short s d (Send f t refs ∷ p) = one-at_most ((f.node == s) && (t.node == d)) (sent s d p) (record { from = f; to = t; refs = refs }) (length p) (sent-short s d p)
sent-short s d (_ ∷ p) = (let before = sent-short s d p in omega arith)

pub copies-few : (s d k : ℕ) (h : List Event) → copies s d k h ≤ length h + 1
copies-few s d k h =
    let repeats = tally-length (is_repeat s d k) h in
    first (nat_lt k (length (sent s d h))) (tally (is_repeat s d k) h) (tally (is_lose s d k) h + tally (is_admit s d k) h) (length h) repeats
  where
    first : (v : Bool) (r g n : ℕ) → r ≤ n → (cond v 1 0 + r) - g ≤ n + 1
    first true r g n less = omega arith
    first false r g n less = omega arith

-- a pile has no more
pub pile-few : (s d k : ℕ) (h : List Event) → copies_in (pile_of s d h k) ≤ copies s d k h
pile-few s d k h = few (is_link_open s d h && nat_lt 0 (copies s d k h))
  where
    few : (v : Bool) → copies_in (cond v (Some (record { copies = copies s d k h; message = envelope_at s d h k })) None) ≤ copies s d k h
    few true = omega arith
    few false = omega arith

-- ---- references

-- each of the messages carries few
abbrev CarryFew : List Message → Type 0
CarryFew ms = (m : Message) → IsAmong m ms → length m.refs ≤ 16

joined-few : (xs ys : List Message) → CarryFew xs → CarryFew ys → CarryFew (xs ++ ys)
joined-few xs ys left right m among = elim (IsAmong-append_cases m xs ys among) [ inl a ↦ left m a | inr b ↦ right m b ]

one-few : (x : Message) → length x.refs ≤ 16 → CarryFew (x ∷ [])
one-few x few m (inl same) = subst (λ (y : Message). length y.refs ≤ 16) (sym same) few
one-few x few m (inr none) = absurd none

pub sent-few : (s d : ℕ) (h : List Event) → CarriesFew h → CarryFew (sent s d h)
sent-few s d [] few = λ m among. absurd among
sent-few s d (Send f t refs ∷ p) few =
    let x : Message = record { from = f; to = t; refs = refs } in
    let before = sent-few s d p few.1 in
    elim ((f.node == s) && (t.node == d)) as (λ v. CarryFew (cond v (sent s d p ++ x ∷ []) (sent s d p))) [
      | true ↦ joined-few (sent s d p) (x ∷ []) before (one-few x few.0)
      | false ↦ before
    ]
sent-few s d (Seed n ∷ p) few = sent-few s d p few
sent-few s d (Tie o t ∷ p) few = sent-few s d p few
sent-few s d (Wake a ∷ p) few = sent-few s d p few
sent-few s d (Take a ∷ p) few = sent-few s d p few
sent-few s d (Spawn a ∷ p) few = sent-few s d p few
sent-few s d (Drop a t ∷ p) few = sent-few s d p few
sent-few s d (Retire a ∷ p) few = sent-few s d p few
sent-few s d (Rest a ∷ p) few = sent-few s d p few
sent-few s d (Flush a ∷ p) few = sent-few s d p few
sent-few s d (Publish n ∷ p) few = sent-few s d p few
sent-few s d (Window y x ∷ p) few = sent-few s d p few
sent-few s d (Admit x y k ∷ p) few = sent-few s d p few
sent-few s d (Lose x y k ∷ p) few = sent-few s d p few
sent-few s d (Repeat x y k ∷ p) few = sent-few s d p few
sent-few s d (Crash n ∷ p) few = sent-few s d p few
sent-few s d (Remove y x ∷ p) few = sent-few s d p few
sent-few s d (Hand m o k ∷ p) few = sent-few s d p few
sent-few s d (Sweep n ∷ p) few = sent-few s d p few

-- ---- what was admitted since the last window

-- a message of a link, or none, by whether its number was admitted
number-few : (v : Bool) (ms : List Message) (k : ℕ) → CarryFew ms → CarryFew (cond v [] (option_to_list (slice_get ms k)))
number-few true ms k few m among = absurd among
number-few false ms k few m among = few m (among-place k m ms among)

number-one : (v : Bool) (o : Option Message) → length (cond v [] (option_to_list o)) ≤ 1
number-one true o = omega arith
number-one false None = omega arith
number-one false (Some m) = omega arith

-- few are carried, and there are no more messages than events
abbrev IsFewSince : List Message → ℕ → Type 0
IsFewSince ms n = CarryFew ms × (length ms ≤ n)

none-since : (n : ℕ) → IsFewSince [] n
none-since n = (λ m among. absurd among, omega arith)

since-later : (ms : List Message) (n : ℕ) → IsFewSince ms n → IsFewSince ms (suc n)
since-later ms n is = (is.0, (let less = is.1 in omega arith))

since-cut : (v : Bool) (ms : List Message) (n : ℕ) → IsFewSince ms n → IsFewSince (cond v [] ms) (suc n)
since-cut true ms n is = none-since (suc n)
since-cut false ms n is = since-later ms n is

since-more : (v : Bool) (ms more : List Message) (n : ℕ) → IsFewSince ms n → IsFewSince more 1 → IsFewSince (cond v (ms ++ more) ms) (suc n)
since-more true ms more n is new = (joined-few ms more is.0 new.0, (let longer = length-append ms more in let less = is.1 in let one = new.1 in omega arith))
since-more false ms more n is new = since-later ms n is

pub since-few : (s d : ℕ) (h : List Event) → CarriesFew h → IsFewSince (admitted_since s d h) (length h)
since-few s d [] few = none-since 0
since-few s d (Send f t refs ∷ p) few = since-later (admitted_since s d p) (length p) (since-few s d p few.1)
since-few s d (Admit x y k ∷ p) few =
    since-more ((x == s) && (y == d)) (admitted_since s d p) (admitted_by (Admit x y k) p) (length p) (since-few s d p few)
    (number-few (was_admitted x y k p) (sent x y p) k (sent-few x y p few), number-one (was_admitted x y k p) (slice_get (sent x y p) k))
since-few s d (Window y x ∷ p) few = since-cut ((x == s) && (y == d)) (admitted_since s d p) (length p) (since-few s d p few)
since-few s d (Remove y x ∷ p) few = since-cut ((x == s) && (y == d)) (admitted_since s d p) (length p) (since-few s d p few)
since-few s d (Seed n ∷ p) few = since-later (admitted_since s d p) (length p) (since-few s d p few)
since-few s d (Tie o t ∷ p) few = since-later (admitted_since s d p) (length p) (since-few s d p few)
since-few s d (Wake a ∷ p) few = since-later (admitted_since s d p) (length p) (since-few s d p few)
since-few s d (Take a ∷ p) few = since-later (admitted_since s d p) (length p) (since-few s d p few)
since-few s d (Spawn a ∷ p) few = since-later (admitted_since s d p) (length p) (since-few s d p few)
since-few s d (Drop a t ∷ p) few = since-later (admitted_since s d p) (length p) (since-few s d p few)
since-few s d (Retire a ∷ p) few = since-later (admitted_since s d p) (length p) (since-few s d p few)
since-few s d (Rest a ∷ p) few = since-later (admitted_since s d p) (length p) (since-few s d p few)
since-few s d (Flush a ∷ p) few = since-later (admitted_since s d p) (length p) (since-few s d p few)
since-few s d (Publish n ∷ p) few = since-later (admitted_since s d p) (length p) (since-few s d p few)
since-few s d (Lose x y k ∷ p) few = since-later (admitted_since s d p) (length p) (since-few s d p few)
since-few s d (Repeat x y k ∷ p) few = since-later (admitted_since s d p) (length p) (since-few s d p few)
since-few s d (Crash n ∷ p) few = since-later (admitted_since s d p) (length p) (since-few s d p few)
since-few s d (Hand m o k ∷ p) few = since-later (admitted_since s d p) (length p) (since-few s d p few)
since-few s d (Sweep n ∷ p) few = since-later (admitted_since s d p) (length p) (since-few s d p few)

abbrev pair_with : Actor → Actor → Actor × Actor
pair_with b a = (b, a)

-- so they carry at most 16 times as many references
pairs-few : (ms : List Message) → CarryFew ms → length (message_pairs ms) ≤ 16 * length ms
pairs-few [] few = omega arith
pairs-few (m ∷ ms) few =
    let later = pairs-few ms (λ x among. few x (inr among)) in
    let here = few m (inl refl) in
    let joined = length-append (map (pair_with m.to) m.refs) (message_pairs ms) in
    let mapped : length (map (pair_with m.to) m.refs) ≡ length m.refs = length-map m.refs (pair_with m.to) in
    omega (arith, later, here, joined, mapped)

-- ---- the gate

-- the references of the message that may come, if there is one
abbrev BringsFew : Option Envelope → Type 0
BringsFew None = Unit {0}
BringsFew (Some m) = length m.refs ≤ 16

piled-few : (s d k : ℕ) (h : List Event) → CarriesFew h → BringsFew (message_in (pile_of s d h k))
piled-few s d k h few = piled (is_link_open s d h && nat_lt 0 (copies s d k h)) (was_admitted s d k h)
  where
    placed : (o : Option Message) → ((m : Message) → IsAmong m (option_to_list o) → length m.refs ≤ 16) → BringsFew (option_map envelope_of o)
    placed None each = tt
    placed (Some m) each = each m (inl refl)

    piled : (v w : Bool) → BringsFew (message_in (cond v (Some (record { copies = copies s d k h; message = cond w None (option_map envelope_of (slice_get (sent s d h) k)) })) None))
    piled false w = tt
    piled true true = tt
    piled true false = placed (slice_get (sent s d h) k) (λ m among. sent-few s d h few m (among-place k m (sent s d h) among))

-- the counts of the next window fit with it
fits-with : (l : LinkState) (o : Option Envelope) → length l.gate.messages ≤ 1000000 → length l.gate.carried ≤ 16000000 → BringsFew o → FitsGate l.gate o
fits-with l None messages carried few = tt
fits-with l (Some m) messages carried few = (
  (let most = count_by-le-length (same_actor m.to) l.gate.messages in omega arith),
  λ a. (
      let most = count_by-le-length (λ p. same_actor m.to p.0 && same_actor a p.1) l.gate.carried in
      let more = count_by-le-length (same_actor a) m.refs in
      omega arith),
)

pub gate-fits : (s d k : ℕ) (h : List Event) (l : LinkState) → IsSmall h → StandsFor s d h l → FitsGate l.gate (message_in (pile_at l.piles k))
gate-fits s d k h l small stands =
    let few = since-few s d h small.1 in
    let events = small.0 in
    let many = few.1 in
    let pairs = pairs-few (admitted_since s d h) few.0 in
    let recipients = length-map (admitted_since s d h) (λ (m : Message). m.to) in
    let messages = ap length stands.messages in
    let carried = ap length stands.carried in
    fits-with l (message_in (pile_at l.piles k)) (omega arith) (omega arith) (subst BringsFew (sym (ap message_in (stands.piled k))) (piled-few s d k h small.1))
