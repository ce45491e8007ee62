-- The plain test of a quiet point passes exactly at quiet points.
use Rattle.std.proofs.Common.{◌≡◌, ◌≢◌, ◌<◌, ◌≤◌, ◌+◌, ◌⊎◌, ◌↔◌, ◌&&◌, ◌||◌, ◌==◌, ℕ, zero, suc, Bool, true, false, not, cond, nat_lt, List, [], ◌∷◌, ◌++◌, length, refl, sym, ◌∙◌, ap, subst, inl, inr, arith, IsTrue, IsFalse}
use Rattle.std.proofs.lemmas.Bool.{and_from, and_parts, cases_Bool, cases_lt, eq-eqb, eqb-true, false≢true, lt-ltb, ltb-true, ne_eqb, not-true, or_cases}
use Rattle.std.specs.List.{list_any}
use Rattle.crgc_ids.specs.Actor.{Actor}
use Rattle.crgc_ids.specs.Members.{IsAmong}
use Rattle.crgc_ids.proofs.MembersLaws.{list_any-member, list_any-true}
use Rattle.history_model.specs.declared.events.Event.{Event}
use Rattle.history_model.specs.declared.events.Event.TheVariants.{Send, Flush, Publish}
use Rattle.history_model.specs.Cluster.{Cluster, is_born, births}
use Rattle.history_model.specs.Messages.{copies, is_closed, was_admitted}
use Rattle.history_model.specs.State.{is_up}
use Rattle.history_model.specs.Streams.{can_flush, entry, is_blank, queue, stream}
use Rattle.history_model.specs.Folds.{cut_at, run_of, was_handed}
use Rattle.history_model.specs.Tally.{tally}
use Rattle.history_model.specs.Quiescent.{IsDelivered, IsQuietPoint}
use Rattle.history_model.proofs.CompletenessTold.{blank-empty}
use Rattle.quiet_check.specs.Plain.{all_below, arrives, closes, closes_all, is_folded, is_handed_whole, is_missing, is_plain_quiet_point, is_send_on, is_told_by, is_undelivered, is_unflushed, leaves_entry, owners, some_moment}
use Rattle.history_model.proofs.Lists.{tally-more}
use Rattle.quiet_check.proofs.Counts.{sent_length, stream_length}
use Rattle.quiet_check.proofs.Moments.{IsMoment, below_each, each_below, moment_found, moment_passes}
use Rattle.quiet_check.proofs.Owners.{born_owner}

-- ---- tests

-- what does not test as true does not hold
refuted : (b : Bool) → (b ≡ true → ⊥) → not b ≡ true
refuted true wrong = absurd (wrong refl)
refuted false wrong = refl

-- one of two holds, and the first does not
second : (a b : Bool) → (not a || b) ≡ true → a ≡ true → b ≡ true
second true b t up = t
second false b t up = absurd (false≢true up)

implied : (a b : Bool) → (a ≡ true → b ≡ true) → (not a || b) ≡ true
implied true b i = i refl
implied false b i = refl

-- ---- closed links

closed_links : (nodes : ℕ) (h : List Event) → all_below (closes_all nodes h) nodes ≡ true → (n k : ℕ) → n < nodes → k < nodes → IsFalse (is_up n h) → IsTrue (is_up k h) → IsTrue (is_closed n k h)
closed_links nodes h all n k from to down up =
    let either = below_each (closes h n) nodes (below_each (closes_all nodes h) nodes all n from) k to in
    second (is_up k h) (is_closed n k h) (rw down at either) up

all_links_closed : (nodes : ℕ) (h : List Event) → ((n k : ℕ) → n < nodes → k < nodes → IsFalse (is_up n h) → IsTrue (is_up k h) → IsTrue (is_closed n k h)) → all_below (closes_all nodes h) nodes ≡ true
all_links_closed nodes h closed =
    let one : (n k : ℕ) → n < nodes → k < nodes → closes h n k ≡ true = λ n k from to.
    let Closes : Bool → Type 0 = λ v. is_up n h ≡ v → (v || (not (is_up k h) || is_closed n k h)) ≡ true in
    let split : Closes (is_up n h) = elim (is_up n h) as Closes [
      | true ↦ λ _. refl
      | false ↦ λ down. implied (is_up k h) (is_closed n k h) (λ up. closed n k from to down up)
    ] in
    split refl in
    each_below (closes_all nodes h) nodes (λ n from. each_below (closes h n) nodes (λ k to. one n k from to))

-- ---- flushes

none_unflushed : (cl : Cluster) (h : List Event) → list_any (is_unflushed cl h) (owners h) ≡ false → (a : Actor) → IsTrue (is_born a h) → IsTrue (is_up a.node h) → IsFalse (can_flush cl a h)
none_unflushed cl h none a born up =
    elim (cases_Bool (can_flush cl a h)) [
      | inr cannot ↦ cannot
      | inl can ↦ (
          let owner = born_owner a h (ltb-true a.serial (births a.node h) born) in
          let unflushed = and_from (is_born a h) (is_up a.node h && can_flush cl a h) born (and_from (is_up a.node h) (can_flush cl a h) up can) in
          absurd (false≢true (sym none ∙ list_any-member (is_unflushed cl h) a (owners h) owner unflushed))
          )
    ]

all_flushed : (cl : Cluster) (h : List Event) → ((a : Actor) → IsTrue (is_born a h) → IsTrue (is_up a.node h) → IsFalse (can_flush cl a h)) → list_any (is_unflushed cl h) (owners h) ≡ true → ⊥
all_flushed cl h flushed some =
    let found = list_any-true (is_unflushed cl h) (owners h) some in
    let a : Actor = found.0 in
    let one = and_parts (is_born a h) (is_up a.node h && can_flush cl a h) found.2 in
    let two = and_parts (is_up a.node h) (can_flush cl a h) one.1 in
    false≢true (sym (flushed a one.0 two.0) ∙ two.1)

-- ---- queues

-- a queue is empty, or a flush filled it
queue_filled : (cl : Cluster) (n : ℕ) (h : List Event) → (queue cl n h ≡ []) ⊎ ((a : Actor) × IsAmong (Flush a) h × (a.node ≡ n))
queue_filled cl n [] = inl refl
queue_filled cl n (Flush a ∷ p) =
    let Filled : List Event → Type 0 = λ h. (b : Actor) × IsAmong (Flush b) h × (b.node ≡ n) in
    let later : Filled p → Filled (Flush a ∷ p) = λ found. (found.0, inr found.1, found.2) in
    let split = elim (a.node == n) as (λ v. (a.node == n) ≡ v → (cond v (queue cl n p ++ entry cl a p) (queue cl n p) ≡ []) ⊎ Filled (Flush a ∷ p)) [
      | true ↦ λ same. inr (a, inl refl, eqb-true a.node n same)
      | false ↦ λ _. elim (queue_filled cl n p) [ inl empty ↦ inl empty | inr found ↦ inr (later found) ]
    ] in
    split refl
queue_filled cl n (Publish m ∷ p) =
    let Filled : List Event → Type 0 = λ h. (b : Actor) × IsAmong (Flush b) h × (b.node ≡ n) in
    let later : Filled p → Filled (Publish m ∷ p) = λ found. (found.0, inr found.1, found.2) in
    elim (m == n) as (λ v. (cond v [] (queue cl n p) ≡ []) ⊎ Filled (Publish m ∷ p)) [
      | true ↦ inl refl
      | false ↦ elim (queue_filled cl n p) [ inl empty ↦ inl empty | inr found ↦ inr (later found) ]
    ]
queue_filled cl n (_ ∷ p) =
    elim (queue_filled cl n p) [ inl empty ↦ inl empty | inr found ↦ inr (found.0, inr found.1, found.2) ]

none_left : (cl : Cluster) (h : List Event) → list_any (leaves_entry cl h) h ≡ false → (n : ℕ) → IsTrue (is_up n h) → queue cl n h ≡ []
none_left cl h none n up =
    elim (queue_filled cl n h) [
      | inl empty ↦ empty
      | inr found ↦ (
          let a : Actor = found.0 in
          let there : IsTrue (is_up a.node h) = subst (λ k. IsTrue (is_up k h)) (sym found.2) up in
          let blank : is_blank (queue cl a.node h) ≡ true = elim (cases_Bool (is_blank (queue cl a.node h))) [
            | inl is_so ↦ is_so
            | inr open_yet ↦ (
                let left = and_from (is_up a.node h) (not (is_blank (queue cl a.node h))) there (ap not open_yet) in
                absurd (false≢true (sym none ∙ list_any-member (leaves_entry cl h) (Flush a) h found.1 left))
                )
          ] in
          subst (λ k. queue cl k h ≡ []) found.2 (blank-empty (queue cl a.node h) blank)
          )
    ]

flush_leaves : (cl : Cluster) (h : List Event) (e : Event) → leaves_entry cl h e ≡ true → (n : ℕ) × IsTrue (is_up n h) × (not (is_blank (queue cl n h)) ≡ true)
flush_leaves cl h (Flush a) left =
    let both = and_parts (is_up a.node h) (not (is_blank (queue cl a.node h))) left in
    (a.node, both.0, both.1)
flush_leaves cl h _ left = absurd (false≢true left)

all_published : (cl : Cluster) (h : List Event) → ((n : ℕ) → IsTrue (is_up n h) → queue cl n h ≡ []) → list_any (leaves_entry cl h) h ≡ true → ⊥
all_published cl h published some =
    let found = list_any-true (leaves_entry cl h) h some in
    let left = flush_leaves cl h found.0 found.2 in
    false≢true (ap (λ xs. not (is_blank xs)) (sym (published left.0 left.1)) ∙ left.2)

-- ---- folds

-- the run of numbers that pass is no longer than the numbers
run_within : (test : ℕ → Bool) (n : ℕ) → run_of test n ≤ n
run_within test zero = omega arith
run_within test (suc n) =
    let before = run_within test n in
    elim ((run_of test n == n) && test n) as (λ v. cond v (suc n) (run_of test n) ≤ suc n) [ true ↦ omega arith | false ↦ omega arith ]

-- it is the whole of them where all pass
whole_run : (test : ℕ → Bool) (n : ℕ) → all_below test n ≡ true → run_of test n ≡ n
whole_run test zero all = refl
whole_run test (suc n) all =
    let both = and_parts (all_below test n) (test n) all in
    let run : (run_of test n == n) ≡ true = eq-eqb (run_of test n) n (whole_run test n both.0) in
    rw (run, both.1) refl

run_whole : (test : ℕ → Bool) (n : ℕ) → run_of test n ≡ n → all_below test n ≡ true
run_whole test zero run = refl
run_whole test (suc n) run =
    let Whole : Bool → Type 0 = λ v. ((run_of test n == n) && test n) ≡ v → cond v (suc n) (run_of test n) ≡ suc n → all_below test (suc n) ≡ true in
    let split : Whole ((run_of test n == n) && test n) = elim ((run_of test n == n) && test n) as Whole [
      | true ↦ λ goes_on _. (
          let both = and_parts (run_of test n == n) (test n) goes_on in
          and_from (all_below test n) (test n) (run_whole test n (eqb-true (run_of test n) n both.0)) both.1
          )
      | false ↦ λ _ longer. absurd (omega (arith, longer, run_within test n))
    ] in
    split refl run

all_folded : (cl : Cluster) (m : ℕ) (h : List Event) → all_below (is_folded m h) cl.nodes ≡ true → (n : ℕ) → n < cl.nodes → IsTrue (is_up n h) → cut_at cl m h n ≡ length (stream cl n h)
all_folded cl m h all n node up =
    let whole = second (is_up n h) (is_handed_whole m h n) (below_each (is_folded m h) cl.nodes all n node) up in
    let handed : ℕ → Bool = λ k. was_handed m n k h in
    let told = sym (stream_length cl n h) in
    subst (λ l. run_of handed l ≡ l) told (whole_run handed (tally (is_told_by n) h) whole)

folded_all : (cl : Cluster) (m : ℕ) (h : List Event) → ((n : ℕ) → n < cl.nodes → IsTrue (is_up n h) → cut_at cl m h n ≡ length (stream cl n h)) → all_below (is_folded m h) cl.nodes ≡ true
folded_all cl m h folded =
    each_below (is_folded m h) cl.nodes (λ n node. implied (is_up n h) (is_handed_whole m h n) (λ up.
    let handed : ℕ → Bool = λ k. was_handed m n k h in
    let run : run_of handed (length (stream cl n h)) ≡ length (stream cl n h) = folded n node up in
    run_whole handed (tally (is_told_by n) h) (subst (λ l. run_of handed l ≡ l) (stream_length cl n h) run)))

-- ---- messages

-- the send that gave number k of the link
abbrev pub IsSent : ℕ → ℕ → ℕ → List Event → Type 0
IsSent s d k h =
    (f : Actor) × (t : Actor) × (refs : List Actor) × (p : List Event) × IsMoment (Send f t refs) p h
    × (f.node ≡ s) × (t.node ≡ d) × (tally (is_send_on s d) p ≡ k)

-- each number below the count was given by a send
pub number_sent : (s d k : ℕ) (h : List Event) → k < tally (is_send_on s d) h → IsSent s d k h
number_sent s d k [] below = absurd (omega arith)
number_sent s d k (Send f t refs ∷ p) below =
    let test : Bool = (f.node == s) && (t.node == d) in
    let n = tally (is_send_on s d) p in
    let later : k < n → IsSent s d k (Send f t refs ∷ p) = λ less.
    let found = number_sent s d k p less in
    (found.0, found.1, found.2, found.3, inr found.4, found.5, found.6, found.7) in
    let Sent : Bool → Type 0 = λ v. test ≡ v → k < cond v (n + 1) n → IsSent s d k (Send f t refs ∷ p) in
    let split : Sent test = elim test as Sent [
      | true ↦ λ same less. elim (cases_lt k n) [
        | inl sooner ↦ later sooner
        | inr last ↦ (
            let both = and_parts (f.node == s) (t.node == d) same in
            let number : n ≡ k = omega arith in
            (f, t, refs, p, inl (refl, refl), eqb-true f.node s both.0, eqb-true t.node d both.1, number)
            )
      ]
      | false ↦ λ _ less. later less
    ] in
    split refl below
number_sent s d k (_ ∷ p) below =
    let found = number_sent s d k p below in
    (found.0, found.1, found.2, found.3, inr found.4, found.5, found.6, found.7)

-- the number that a send gave is below the count
pub sent_number : (f t : Actor) (refs : List Actor) (p h : List Event) → IsMoment (Send f t refs) p h → tally (is_send_on f.node t.node) p < tally (is_send_on f.node t.node) h
sent_number f t refs p [] moment = absurd moment
sent_number f t refs p (e ∷ q) (inl here) =
    let one : is_send_on f.node t.node e ≡ true = subst (λ x. is_send_on f.node t.node x ≡ true) here.0 (and_from (f.node == f.node) (t.node == t.node) (eq-eqb f.node f.node refl) (eq-eqb t.node t.node refl)) in
    let same : tally (is_send_on f.node t.node) p ≡ tally (is_send_on f.node t.node) q = ap (tally (is_send_on f.node t.node)) here.1 in
    rw one (omega (arith, same))
sent_number f t refs p (e ∷ q) (inr earlier) =
    omega (arith, sent_number f t refs p q earlier, tally-more (is_send_on f.node t.node) e q)

none_missing : (h : List Event) → some_moment (is_missing h) h ≡ false → IsDelivered h
none_missing h none s d k apart from to below =
    let found = number_sent s d k h (omega (arith, below, sent_length s d h)) in
    let f : Actor = found.0 in
    let t : Actor = found.1 in
    let p : List Event = found.3 in
    elim (cases_Bool (arrives h s d k)) [
      | inl arrived ↦ elim (or_cases (was_admitted s d k h) (nat_lt 0 (copies s d k h)) arrived) [
        | inl admitted ↦ inl admitted
        | inr some ↦ inr (ltb-true 0 (copies s d k h) some)
      ]
      | inr open_yet ↦ (
          let here : is_undelivered h s d k ≡ true =
          and_from (not (s == d)) (is_up s h && (is_up d h && not (arrives h s d k))) (ap not (ne_eqb s d apart))
          (and_from (is_up s h) (is_up d h && not (arrives h s d k)) from (and_from (is_up d h) (not (arrives h s d k)) to (ap not open_yet))) in
          let number : is_undelivered h s d (tally (is_send_on s d) p) ≡ true = subst (λ n. is_undelivered h s d n ≡ true) (sym found.7) here in
          let Missing : ℕ → ℕ → Type 0 = λ x y. is_undelivered h x y (tally (is_send_on x y) p) ≡ true in
          let missing : is_missing h (Send f t found.2) p ≡ true = subst (λ x. Missing x t.node) (sym found.5) (subst (Missing s) (sym found.6) number) in
          absurd (false≢true (sym none ∙ moment_passes (is_missing h) (Send f t found.2) p h found.4 missing))
          )
    ]

-- what is missing is a message that was sent and does not arrive
missing_sent : (h : List Event) (e : Event) (p : List Event) → IsMoment e p h → is_missing h e p ≡ true
    → (s : ℕ) × (d : ℕ) × (k : ℕ) × (k < tally (is_send_on s d) h) × (is_undelivered h s d k ≡ true)
missing_sent h (Send f t refs) p moment missing =
    (f.node, t.node, tally (is_send_on f.node t.node) p, sent_number f t refs p h moment, missing)
missing_sent h _ p moment missing = absurd (false≢true missing)

all_delivered : (h : List Event) → IsDelivered h → some_moment (is_missing h) h ≡ true → ⊥
all_delivered h delivered some =
    let found = moment_found (is_missing h) h some in
    let message = missing_sent h found.0 found.1 found.2 found.3 in
    let s : ℕ = message.0 in
    let d : ℕ = message.1 in
    let k : ℕ = message.2 in
    let one = and_parts (not (s == d)) (is_up s h && (is_up d h && not (arrives h s d k))) message.4 in
    let two = and_parts (is_up s h) (is_up d h && not (arrives h s d k)) one.1 in
    let three = and_parts (is_up d h) (not (arrives h s d k)) two.1 in
    let apart : s ≢ d = λ e. false≢true (sym (not-true (s == d) one.0) ∙ eq-eqb s d e) in
    let missed = not-true (arrives h s d k) three.1 in
    elim (delivered s d k apart two.0 three.0 (omega (arith, message.3, sent_length s d h))) [
      | inl admitted ↦ false≢true (sym missed ∙ ap (λ v. v || nat_lt 0 (copies s d k h)) admitted)
      | inr copy ↦ (
          let some_copy : nat_lt 0 (copies s d k h) ≡ true = lt-ltb 0 (copies s d k h) copy in
          let arrived : arrives h s d k ≡ true = elim (was_admitted s d k h) as (λ v. (v || nat_lt 0 (copies s d k h)) ≡ true) [ true ↦ refl | false ↦ some_copy ] in
          false≢true (sym missed ∙ arrived)
          )
    ]

-- ---- all parts

plain_is_quiet : (cl : Cluster) (m : ℕ) (h : List Event) → is_plain_quiet_point cl m h ≡ true → IsQuietPoint cl m h
plain_is_quiet cl m h test =
    let links : Bool = all_below (closes_all cl.nodes h) cl.nodes in
    let flushed : Bool = not (list_any (is_unflushed cl h) (owners h)) in
    let published : Bool = not (list_any (leaves_entry cl h) h) in
    let folded : Bool = all_below (is_folded m h) cl.nodes in
    let delivered : Bool = not (some_moment (is_missing h) h) in
    let one = and_parts (is_up m h) (links && (flushed && (published && (folded && delivered)))) test in
    let two = and_parts links (flushed && (published && (folded && delivered))) one.1 in
    let three = and_parts flushed (published && (folded && delivered)) two.1 in
    let four = and_parts published (folded && delivered) three.1 in
    let five = and_parts folded delivered four.1 in
    record {
      up = one.0;
      closed = closed_links cl.nodes h two.0;
      flushed = none_unflushed cl h (not-true (list_any (is_unflushed cl h) (owners h)) three.0);
      published = none_left cl h (not-true (list_any (leaves_entry cl h) h) four.0);
      folded = all_folded cl m h five.0;
      delivered = none_missing h (not-true (some_moment (is_missing h) h) five.1);
    }

quiet_is_plain : (cl : Cluster) (m : ℕ) (h : List Event) → IsQuietPoint cl m h → is_plain_quiet_point cl m h ≡ true
quiet_is_plain cl m h quiet =
    let links : Bool = all_below (closes_all cl.nodes h) cl.nodes in
    let flushed : Bool = not (list_any (is_unflushed cl h) (owners h)) in
    let published : Bool = not (list_any (leaves_entry cl h) h) in
    let folded : Bool = all_below (is_folded m h) cl.nodes in
    let delivered : Bool = not (some_moment (is_missing h) h) in
    and_from (is_up m h) (links && (flushed && (published && (folded && delivered)))) quiet.up
    (and_from links (flushed && (published && (folded && delivered))) (all_links_closed cl.nodes h quiet.closed)
    (and_from flushed (published && (folded && delivered)) (refuted (list_any (is_unflushed cl h) (owners h)) (all_flushed cl h quiet.flushed))
    (and_from published (folded && delivered) (refuted (list_any (leaves_entry cl h) h) (all_published cl h quiet.published))
    (and_from folded delivered (folded_all cl m h quiet.folded)
    (refuted (some_moment (is_missing h) h) (all_delivered h quiet.delivered))))))

pub quiet_points_are_plain : (cl : Cluster) (m : ℕ) (h : List Event) → (is_plain_quiet_point cl m h ≡ true) ↔ IsQuietPoint cl m h
quiet_points_are_plain cl m h = (plain_is_quiet cl m h, quiet_is_plain cl m h)
