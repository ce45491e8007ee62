-- What a link stands for, from event to event: what other events leave, and how a pile and the count follow one number.
use Rattle.std.proofs.Common.{◌≡◌, ◌≢◌, ◌+◌, ◌-◌, ◌<◌, ◌≤◌, ◌==◌, ◌&&◌, ℕ, Bool, true, false, not, nat_lt, cond, List, [], ◌∷◌, Option, None, Some, length, slice_get, refl, sym, ◌∙◌, ap, subst, inl, inr, arith}
use Rattle.std.proofs.lemmas.Bool.{and_parts, and_right, cases_eq, cases_lt, cond-false, cond-true, eq-eqb, le-ltb, lt-ltb, ne_eqb}
use Rattle.std.proofs.lemmas.Option.{slice_get-get_or}
use Rattle.std.specs.List.{range_with_len}
use Rattle.std.specs.Option.{option_map}
use Rattle.history_model.specs.declared.events.Event.{Event}
use Rattle.history_model.specs.declared.events.Event.TheVariants.{Admit, Crash, Lose, Remove, Repeat, Send, Window}
use Rattle.history_model.specs.Cluster.{Cluster}
use Rattle.history_model.specs.Legal.{IsLegal}
use Rattle.history_model.specs.Live.{is_under_way, under_way}
use Rattle.history_model.specs.Messages.{Message, copies, is_closed, sent, was_admitted}
use Rattle.history_model.specs.State.{is_up}
use Rattle.history_model.specs.Tally.{tally}
use Rattle.history_model.specs.Tells.{admitted_since, message_pairs, message_recipients}
use Rattle.history_model.proofs.AccountsCopies.{copies-was_sent}
use Rattle.history_model.proofs.Lists.{tally-same}
use Rattle.link_table.specs.declared.piles.Envelope.{Envelope}
use Rattle.link_table.specs.declared.piles.Pile.{Pile}
use Rattle.link_table.specs.LinkState.{LinkState}
use Rattle.link_table.specs.Piled.{ChangesPile, fewer, has_message, kept_count, message_in, more, pile_at, stripped, weight}
use Rattle.link_table.specs.Standing.{StandsFor, envelope_at, envelope_of, is_link_open, is_of_link, pile_of, pile_with}
use Rattle.link_table.proofs.CountingLemmas.{counts, tally-changed, tally-further}

-- ---- what other events leave

-- the two histories say the same of the link from s to d
pub record SayTheSame (s d : ℕ) (h p : List Event) : Type 0 where
  pub up : is_up d h ≡ is_up d p
  pub closes : is_closed s d h ≡ is_closed s d p
  pub sends : sent s d h ≡ sent s d p
  pub copied : (k : ℕ) → copies s d k h ≡ copies s d k p
  pub admits : (k : ℕ) → was_admitted s d k h ≡ was_admitted s d k p
  pub since : admitted_since s d h ≡ admitted_since s d p

-- a number of another link is another number
elsewhere : (a b c : Bool) → (a && b) ≡ false → (a && (b && c)) ≡ false
elsewhere false b c e = refl
elsewhere true b c e = ap (λ v. v && c) e

pub say-the_same : (s d : ℕ) (e : Event) (p : List Event) → is_of_link s d e ≡ false → SayTheSame s d (e ∷ p) p
say-the_same s d (Send f t refs) p other = record { up = refl; closes = refl; sends = rw other refl; copied = λ k. rw other refl; admits = λ k. refl; since = refl }
say-the_same s d (Window y x) p other = record { up = refl; closes = refl; sends = refl; copied = λ k. refl; admits = λ k. refl; since = rw other refl }
say-the_same s d (Admit x y n) p other = record {
  up = refl;
  closes = refl;
  sends = refl;
  copied = λ k. rw (elsewhere (x == s) (y == d) (n == k) other) refl;
  admits = λ k. rw (elsewhere (x == s) (y == d) (n == k) other) refl;
  since = rw other refl;
}
say-the_same s d (Lose x y n) p other = record { up = refl; closes = refl; sends = refl; copied = λ k. rw (elsewhere (x == s) (y == d) (n == k) other) refl; admits = λ k. refl; since = refl }
say-the_same s d (Repeat x y n) p other = record { up = refl; closes = refl; sends = refl; copied = λ k. rw (elsewhere (x == s) (y == d) (n == k) other) refl; admits = λ k. refl; since = refl }
say-the_same s d (Crash n) p other = record { up = rw other refl; closes = refl; sends = refl; copied = λ k. refl; admits = λ k. refl; since = refl }
say-the_same s d (Remove y x) p other = record { up = refl; closes = rw other refl; sends = refl; copied = λ k. refl; admits = λ k. refl; since = rw other refl }
say-the_same s d _ p other = record { up = refl; closes = refl; sends = refl; copied = λ k. refl; admits = λ k. refl; since = refl }

-- what depends on equal things is equal
way-same : (c c' a a' : Bool) (n n' : ℕ) → c ≡ c' → a ≡ a' → n ≡ n' → (not c && (not a && nat_lt 0 n)) ≡ (not c' && (not a' && nat_lt 0 n'))
way-same c c' a a' n n' e f g = cc

open-same : (u u' c c' : Bool) → u ≡ u' → c ≡ c' → (u && not c) ≡ (u' && not c')
open-same u u' c c' e f = cc

pub pile-same : (o o' : Bool) (n n' : ℕ) (m m' : Option Envelope) → o ≡ o' → n ≡ n' → m ≡ m' → pile_with o n m ≡ pile_with o' n' m'
pile-same o o' n n' m m' e f g = cc

brings-same : (a a' : Bool) (o o' : Option Message) → a ≡ a' → o ≡ o' → cond a None (option_map envelope_of o) ≡ cond a' None (option_map envelope_of o')
brings-same a a' o o' e f = cc

-- as many messages are under way
pub under_way-same : (s d : ℕ) (h p : List Event) → SayTheSame s d h p → under_way s d h ≡ under_way s d p
under_way-same s d h p same =
    ap (λ n. tally (is_under_way s d h) (range_with_len 0 n)) (ap length same.sends)
    ∙ tally-same (is_under_way s d h) (is_under_way s d p) (range_with_len 0 (length (sent s d p)))
    (λ k _. way-same (is_closed s d h) (is_closed s d p) (was_admitted s d k h) (was_admitted s d k p) (copies s d k h) (copies s d k p) same.closes (same.admits k) (same.copied k))

-- each pile is the same
pub pile_of-same : (s d : ℕ) (h p : List Event) → SayTheSame s d h p → (k : ℕ) → pile_of s d h k ≡ pile_of s d p k
pile_of-same s d h p same k =
    pile-same (is_link_open s d h) (is_link_open s d p) (copies s d k h) (copies s d k p) (envelope_at s d h k) (envelope_at s d p k)
    (open-same (is_up d h) (is_up d p) (is_closed s d h) (is_closed s d p) same.up same.closes) (same.copied k)
    (brings-same (was_admitted s d k h) (was_admitted s d k p) (slice_get (sent s d h) k) (slice_get (sent s d p) k) (same.admits k) (ap (λ ms. slice_get ms k) same.sends))

-- so the link stands for both
pub stands-still : (s d : ℕ) (h p : List Event) (l : LinkState) → SayTheSame s d h p → StandsFor s d p l → StandsFor s d h l
stands-still s d h p l same stands =
    let opened = open-same (is_up d h) (is_up d p) (is_closed s d h) (is_closed s d p) same.up same.closes in
    let way = under_way-same s d h p same in
    record {
      ends = stands.ends;
      opened = stands.opened ∙ sym opened;
      stamped = stands.stamped ∙ sym (ap length same.sends);
      piled = λ k. stands.piled k ∙ sym (pile_of-same s d h p same k);
      counted = stands.counted ∙ sym (ap (λ v. cond v (under_way s d h) 0) opened ∙ ap (λ n. cond (is_link_open s d p) n 0) way);
      admitted = λ k. stands.admitted k ∙ sym (same.admits k);
      messages = stands.messages ∙ sym (ap message_recipients same.since);
      carried = stands.carried ∙ sym (ap message_pairs same.since);
    }

-- ---- one pile and the count

-- a copy less, a copy more, and a message taken out, of a pile that is there
pub pile-fewer : (n : ℕ) (m : Option Envelope) → 0 < n → pile_with true (n - 1) m ≡ fewer (pile_with true n m)
pile-fewer n m some =
    let is : Pile = record { copies = n; message = m } in
    let left : Pile = record { copies = n - 1; message = m } in
    let there : pile_with true n m ≡ Some is = cond-true (nat_lt 0 n) (Some is) None (lt-ltb 0 n some) in
    let last : fewer (Some is) ≡ cond (n == 1) None (Some left) = refl in
    let less : cond (nat_lt 0 (n - 1)) (Some left) None ≡ cond (n == 1) None (Some left) =
    elim (cases_lt 1 n) [
      | inl many ↦ cond-true (nat_lt 0 (n - 1)) (Some left) None (lt-ltb 0 (n - 1) (omega arith)) ∙ sym (cond-false (n == 1) None (Some left) (ne_eqb n 1 (λ e. absurd (omega arith))))
      | inr one ↦ cond-false (nat_lt 0 (n - 1)) (Some left) None (le-ltb 0 (n - 1) (omega arith)) ∙ sym (cond-true (n == 1) None (Some left) (eq-eqb n 1 (omega arith)))
    ] in
    less ∙ sym last ∙ sym (ap fewer there)

pub pile-more : (n : ℕ) (m : Option Envelope) → 0 < n → pile_with true (n + 1) m ≡ more (pile_with true n m)
pile-more n m some =
    let is : Pile = record { copies = n; message = m } in
    let one_more : Pile = record { copies = n + 1; message = m } in
    let there : pile_with true n m ≡ Some is = cond-true (nat_lt 0 n) (Some is) None (lt-ltb 0 n some) in
    cond-true (nat_lt 0 (n + 1)) (Some one_more) None (lt-ltb 0 (n + 1) (omega arith)) ∙ sym (ap more there)

pub pile-stripped : (o : Bool) (n : ℕ) (m : Option Envelope) → pile_with o n None ≡ stripped (pile_with o n m)
pile-stripped o n m =
    elim (o && nat_lt 0 n) as (λ v. cond v (Some (record { copies = n; message = None })) None ≡ stripped (cond v (Some (record { copies = n; message = m })) None)) [ true ↦ refl | false ↦ refl ]

-- the copies in it, and its message, where the link is open
pub message_in-with : (n : ℕ) (m : Option Envelope) → 0 < n → message_in (pile_with true n m) ≡ m
message_in-with n m some = ap message_in (cond-true (nat_lt 0 n) (Some (record { copies = n; message = m })) None (lt-ltb 0 n some))

-- whether the message of number k is in its pile
abbrev pub is_kept : ℕ → ℕ → List Event → ℕ → Bool
is_kept s d h k = has_message (message_in (pile_of s d h k))

-- a message that was sent is there until its number is admitted
brings-sent : (a : Bool) (ms : List Message) (k : ℕ) → k < length ms → has_message (cond a None (option_map envelope_of (slice_get ms k))) ≡ not a
brings-sent true ms k below = refl
brings-sent false [] k below = absurd (omega arith)
brings-sent false (m ∷ ms) k below =
    ap (λ o. has_message (option_map envelope_of o)) (slice_get-get_or (m ∷ ms) k m below)

-- it is under way exactly where its pile has it
pub kept-way : (cl : Cluster) (h : List Event) → IsLegal cl h → (s d : ℕ) → is_up d h ≡ true → (k : ℕ) → is_under_way s d h k ≡ is_kept s d h k
kept-way cl h legal s d up k =
    let n = copies s d k h in
    let m = envelope_at s d h k in
    let open_as : is_link_open s d h ≡ not (is_closed s d h) = ap (λ v. v && not (is_closed s d h)) up in
    let Same : Bool → Bool → Type 0 = λ c o. (not c && (not (was_admitted s d k h) && nat_lt 0 n)) ≡ has_message (message_in (pile_with o n m)) in
    let split : Same (is_closed s d h) (not (is_closed s d h)) = elim (is_closed s d h) as (λ c. Same c (not c)) [
      | true ↦ refl
      | false ↦ elim (cases_lt 0 n) [
        | inl some ↦
            (let sent_below = copies-was_sent cl h legal s d k some in
            let here = brings-sent (was_admitted s d k h) (sent s d h) k sent_below in
            ap (λ v. not (was_admitted s d k h) && v) (lt-ltb 0 n some) ∙ and-true (not (was_admitted s d k h)) ∙ sym here ∙ sym (ap has_message (message_in-with n m some)))
        | inr none ↦
            and_right (not (was_admitted s d k h)) (nat_lt 0 n) (le-ltb 0 n none)
            ∙ sym (ap (λ o. has_message (message_in o)) (cond-false (nat_lt 0 n) (Some (record { copies = n; message = m })) None (le-ltb 0 n none)))
      ]
    ] in
    split ∙ sym (ap (λ o. has_message (message_in (pile_with o n m))) open_as)
  where
    and-true : (v : Bool) → (v && true) ≡ v
    and-true true = refl
    and-true false = refl

-- what was not sent is not under way, so as many are counted among further numbers
pub under_way-further : (cl : Cluster) (h : List Event) → IsLegal cl h → (s d : ℕ) → is_up d h ≡ true → (n : ℕ) → length (sent s d h) ≤ n → tally (is_kept s d h) (range_with_len 0 n) ≡ under_way s d h
under_way-further cl h legal s d up n past =
    let m = length (sent s d h) in
    let none = λ (k : ℕ) (le : m ≤ k). (
    let no_copy : copies s d k h ≤ 0 = elim (cases_lt 0 (copies s d k h)) [ inl some ↦ (let below = copies-was_sent cl h legal s d k some in absurd (omega arith)) | inr zero ↦ zero ] in
    and_right (not (is_closed s d h)) (not (was_admitted s d k h) && nat_lt 0 (copies s d k h)) (and_right (not (was_admitted s d k h)) (nat_lt 0 (copies s d k h)) (le-ltb 0 (copies s d k h) no_copy))) in
    let whole : n ≡ m + (n - m) = omega arith in
    tally-same (is_kept s d h) (is_under_way s d h) (range_with_len 0 n) (λ k _. sym (kept-way cl h legal s d up k))
    ∙ ap (λ j. tally (is_under_way s d h) (range_with_len 0 j)) whole
    ∙ tally-further (is_under_way s d h) m (n - m) none

-- what a pile weighs is what its test counts
weight-counts : (pile : Option Pile) → weight pile ≡ counts (has_message (message_in pile))
weight-counts pile = elim (has_message (message_in pile)) as (λ v. cond v 1 0 ≡ counts v) [ true ↦ refl | false ↦ refl ]

-- where one number changes its pile, on a link that is open before and after, the piles and the count follow it
pub record PilesFollow (s d : ℕ) (h : List Event) (piles : List (ℕ × Pile)) : Type 0 where
  pub piled : (k : ℕ) → pile_at piles k ≡ pile_of s d h k
  pub counted : kept_count piles ≡ cond (is_link_open s d h) (under_way s d h) 0

pub piles-follow : (cl : Cluster) (h p : List Event) → IsLegal cl h → IsLegal cl p → (s d k : ℕ) (old new : List (ℕ × Pile)) → is_link_open s d h ≡ true → is_link_open s d p ≡ true
    → length (sent s d p) ≤ length (sent s d h) → k < length (sent s d h) → ((j : ℕ) → j ≢ k → pile_of s d h j ≡ pile_of s d p j) → PilesFollow s d p old → ChangesPile old new k (pile_of s d h k) → PilesFollow s d h new
piles-follow cl h p legal before s d k old new opened was_open longer below others follow changes =
    let n = length (sent s d h) in
    let now = under_way-further cl h legal s d (and_parts (is_up d h) (not (is_closed s d h)) opened).0 n (omega arith) in
    let then = under_way-further cl p before s d (and_parts (is_up d p) (not (is_closed s d p)) was_open).0 n longer in
    let one = tally-changed (is_kept s d h) (is_kept s d p) n k below (λ j apart. ap (λ o. has_message (message_in o)) (others j apart)) in
    let here = ap weight (follow.piled k) in
    let was = cond-true (is_link_open s d p) (under_way s d p) 0 was_open in
    let is = cond-true (is_link_open s d h) (under_way s d h) 0 opened in
    record {
      piled = λ j. elim (cases_eq j k) [
        | inl same ↦ subst (λ i. pile_at new i ≡ pile_of s d h i) (sym same) changes.changed
        | inr apart ↦ changes.others j apart ∙ follow.piled j ∙ sym (others j apart)
      ];
      counted = (
          let count = changes.count in
          let counted = follow.counted in
          let after = weight-counts (pile_of s d h k) in
          let prior = weight-counts (pile_of s d p k) in
          omega arith
          );
    }
