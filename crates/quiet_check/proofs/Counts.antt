-- What is counted: messages sent, bulletins told, and the copies of a number.
use Rattle.std.proofs.Common.{◌≡◌, ◌<◌, ◌≤◌, ◌+◌, ◌-◌, ℕ, Bool, true, false, cond, ltb, leb, List, [], ◌∷◌, ◌++◌, length, length-append, refl, ◌∙◌, ap, arith}
use Rattle.std.specs.Prelude.{◌==◌, ◌&&◌, nat_lt}
use Rattle.std.proofs.lemmas.Bool.{le-ltb, lt-ltb}
use Rattle.std.proofs.lemmas.Bool.Decides.{nat_tests}
use Rattle.history_model.specs.declared.events.Event.{Event}
use Rattle.history_model.specs.declared.events.Event.TheVariants.{Send, Publish, Window, Admit, Lose, Remove}
use Rattle.history_model.specs.Cluster.{Cluster}
use Rattle.history_model.specs.Messages.{Message, copies, is_admit, is_lose, is_repeat, sent}
use Rattle.history_model.specs.Streams.{delta, final_of, queue, stream, window, window_of}
use Rattle.history_model.specs.Tally.{tally}
use Rattle.quiet_check.specs.Plain.{is_departure, is_send_on, is_told_by, is_undelivered}

-- a list that an item may join, and its length
joined_length : {X : Type 0} (b : Bool) (xs : List X) (x : X) (n : ℕ) → length xs ≡ n → length (cond b (xs ++ x ∷ []) xs) ≡ cond b (n + 1) n
joined_length b xs x n e =
    elim b as (λ v. length (cond v (xs ++ x ∷ []) xs) ≡ cond v (n + 1) n) [
      | true ↦ omega (arith, length-append xs (x ∷ []), e)
      | false ↦ e
    ]

pub sent_length : (s d : ℕ) (h : List Event) → length (sent s d h) ≡ tally (is_send_on s d) h
sent_length s d [] = refl
sent_length s d (Send f t refs ∷ p) =
    let one : Message = record { from = f; to = t; refs = refs } in
    joined_length ((f.node == s) && (t.node == d)) (sent s d p) one (tally (is_send_on s d) p) (sent_length s d p)
sent_length s d (_ ∷ p) = sent_length s d p

pub stream_length : (cl : Cluster) (n : ℕ) (h : List Event) → length (stream cl n h) ≡ tally (is_told_by n) h
stream_length cl n [] = refl
stream_length cl n (Publish m ∷ p) =
    joined_length (m == n) (stream cl n p) (delta (queue cl n p)) (tally (is_told_by n) p) (stream_length cl n p)
stream_length cl n (Window d s ∷ p) =
    joined_length (d == n) (stream cl n p) (window_of s (window s d p)) (tally (is_told_by n) p) (stream_length cl n p)
stream_length cl n (Remove d s ∷ p) =
    joined_length (d == n) (stream cl n p) (final_of s (window s d p)) (tally (is_told_by n) p) (stream_length cl n p)
stream_length cl n (_ ∷ p) = stream_length cl n p

-- a copy leaves by a loss or by an admission
departures : (s d k : ℕ) (h : List Event) → tally (is_departure s d k) h ≡ tally (is_lose s d k) h + tally (is_admit s d k) h
departures s d k [] = refl
departures s d k (Lose x y n ∷ p) =
    let before = departures s d k p in
    let gone = tally (is_departure s d k) p in
    let lost = tally (is_lose s d k) p in
    elim ((x == s) && ((y == d) && (n == k))) as (λ v. cond v (gone + 1) gone ≡ cond v (lost + 1) lost + tally (is_admit s d k) p) [
      | true ↦ omega arith
      | false ↦ before
    ]
departures s d k (Admit x y n ∷ p) =
    let before = departures s d k p in
    let gone = tally (is_departure s d k) p in
    let admitted = tally (is_admit s d k) p in
    elim ((x == s) && ((y == d) && (n == k))) as (λ v. cond v (gone + 1) gone ≡ tally (is_lose s d k) p + cond v (admitted + 1) admitted) [
      | true ↦ omega arith
      | false ↦ before
    ]
departures s d k (_ ∷ p) = departures s d k p

one_left : (added gone : ℕ) → leb gone added ≡ ltb 0 ((1 + added) - gone)
one_left added gone = grind (arith, nat_tests)

some_left : (added gone : ℕ) → ltb gone added ≡ ltb 0 ((0 + added) - gone)
some_left added gone = grind (arith, nat_tests)

-- of a number that was sent, a copy is left where no more left than were added
pub copies_of_sent : (s d k : ℕ) (h : List Event) → k < tally (is_send_on s d) h → leb (tally (is_departure s d k) h) (tally (is_repeat s d k) h) ≡ nat_lt 0 (copies s d k h)
copies_of_sent s d k h below =
    let was_sent : ltb k (length (sent s d h)) ≡ true = lt-ltb k (length (sent s d h)) (omega (arith, below, sent_length s d h)) in
    rw (was_sent, ← departures s d k h) (one_left (tally (is_repeat s d k) h) (tally (is_departure s d k) h))

-- of one that was not, where fewer left than were added
pub copies_of_unsent : (s d k : ℕ) (h : List Event) → tally (is_send_on s d) h ≤ k → ltb (tally (is_departure s d k) h) (tally (is_repeat s d k) h) ≡ nat_lt 0 (copies s d k h)
copies_of_unsent s d k h above =
    let not_sent : ltb k (length (sent s d h)) ≡ false = le-ltb k (length (sent s d h)) (omega (arith, above, sent_length s d h)) in
    rw (not_sent, ← departures s d k h) (some_left (tally (is_repeat s d k) h) (tally (is_departure s d k) h))

-- equal nodes, and the number that a send on their link gets
pub same_undelivered : (h p : List Event) (s x d y k : ℕ) → s ≡ x → d ≡ y → k ≡ tally (is_send_on s d) p → is_undelivered h s d k ≡ is_undelivered h x y (tally (is_send_on x y) p)
same_undelivered h p s x d y k from to number =
    ap (is_undelivered h s d) number ∙ ap (λ n. is_undelivered h n d (tally (is_send_on n d) p)) from
    ∙ ap (λ n. is_undelivered h x n (tally (is_send_on x n) p)) to
