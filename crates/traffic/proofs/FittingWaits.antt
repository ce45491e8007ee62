-- No more messages are live than events were: of those that wait, each was admitted by one, and of those that come, sent by one.
use Rattle.std.proofs.Common.{◌≢◌, ◌+◌, ◌≤◌, ◌==◌, ◌&&◌, ◌++◌, ℕ, Bool, true, false, cond, List, [], ◌∷◌, length, length-append, length-drop, sum_by, refl, sym, ap, subst, inl, inr, arith}
use Rattle.std.proofs.lemmas.Bool.{cases_Bool, cases_eq, cases_lt, cond-false, ne_eqb}
use Rattle.std.proofs.lemmas.List.FromFn.{length-range_with_len}
use Rattle.std.proofs.lemmas.List.Sums.{sum_by-cons}
use Rattle.std.specs.List.{range_with_len}
use Rattle.crgc_ids.proofs.MembersLaws.{IsAmong-from_range}
use Rattle.crgc_ids.specs.Nodes.{nodes_below}
use Rattle.history_model.specs.declared.events.Event.{Event}
use Rattle.history_model.specs.declared.events.Event.TheVariants.{Seed, Tie, Wake, Take, Spawn, Send, Drop, Retire, Rest, Flush, Publish, Window, Admit, Lose, Repeat, Crash, Remove, Hand, Sweep}
use Rattle.history_model.specs.Cluster.{Cluster, births}
use Rattle.history_model.specs.Legal.{IsLegal}
use Rattle.history_model.specs.Live.{coming_to, is_under_way, live_at, under_way, waiting_at}
use Rattle.history_model.specs.Messages.{Message, message_at, sent, waiting, was_admitted}
use Rattle.history_model.specs.State.{is_up}
use Rattle.history_model.specs.Tally.{tally}
use Rattle.history_model.proofs.LinksSums.{sum_by-same}
use Rattle.mail_laws.specs.Standing.{AdmitsNone}
use Rattle.mail_laws.proofs.WaitingLemmas.{waiting-other, waiting-taken}
use Rattle.traffic.proofs.KeepingActors.{waiting_at-left}
use Rattle.traffic.proofs.KeepingMessages.{IsArrival, admission, at-first, brings, first-arrival, local-arrival, waits-more, waits-same}
use Rattle.traffic.proofs.LiveSums.{live-down, live-up, waiting_at-sum, waits_for}
use Rattle.traffic.proofs.ReadySteps.{by-actor}
use Rattle.traffic.proofs.SumLemmas.{sum-changed}

-- ---- sums and tallies

-- a sum of less is less
sum-less : (f g : ℕ → ℕ) (xs : List ℕ) → ((x : ℕ) → f x ≤ g x) → sum_by f xs ≤ sum_by g xs
sum-less f g [] less = omega arith
sum-less f g (x ∷ xs) less = omega (arith, sum_by-cons f x xs, sum_by-cons g x xs, less x, sum-less f g xs less)

-- a list counts no more than it has
pub tally-length : {X : Type 0} (test : X → Bool) (xs : List X) → tally test xs ≤ length xs
tally-length test [] = omega arith
tally-length test (x ∷ xs) =
    let later = tally-length test xs in
    elim (test x) as (λ v. cond v (tally test xs + 1) (tally test xs) ≤ length (x ∷ xs)) [ true ↦ omega arith | false ↦ omega arith ]

-- ---- what waits

-- an arrival adds one message at most
arrival-adds : (cl : Cluster) (e : Event) (p : List Event) (m : Message) → IsLegal cl p → IsArrival e p m → (n : ℕ) → waiting_at n (e ∷ p) ≤ waiting_at n p + 1
arrival-adds cl e p m legal comes n =
    elim (cases_eq n m.to.node) [
      | inl same ↦ subst (λ k. waiting_at k (e ∷ p) ≤ waiting_at k p + 1) (sym same) (let more = waits-more cl e p m legal comes in omega arith)
      | inr apart ↦ (let same = waits-same cl e p m legal comes n apart in omega arith)
    ]

-- what admits nothing adds none
none-adds : (cl : Cluster) (e : Event) (p : List Event) → IsLegal cl p → AdmitsNone e p → (n : ℕ) → waiting_at n (e ∷ p) ≤ waiting_at n p + 1
none-adds cl e p legal none n = (let same = waiting_at-left cl e p legal none n in omega arith)

-- each event adds one at most
adds : (cl : Cluster) (e : Event) (p : List Event) → IsLegal cl (e ∷ p) → (n : ℕ) → waiting_at n (e ∷ p) ≤ waiting_at n p + 1
adds cl (Send f t refs) p legal n =
    elim (cases_eq f.node t.node) [
      | inl local ↦ arrival-adds cl (Send f t refs) p (record { from = f; to = t; refs = refs }) legal.1 (local-arrival cl f t refs p local legal) n
      | inr apart ↦ none-adds cl (Send f t refs) p legal.1 (cond-false (f.node == t.node) (record { from = f; to = t; refs = refs } ∷ []) [] (ne_eqb f.node t.node apart), λ a. refl) n
    ]
adds cl (Admit s d k) p legal n =
    let is = admission cl s d k p legal in
    elim (brings (was_admitted s d k p) (sent s d p) k is.below) [
      | inl none ↦ none-adds cl (Admit s d k) p legal.1 (none.1, λ a. refl) n
      | inr some ↦
          arrival-adds cl (Admit s d k) p some.0 legal.1
          (first-arrival cl s d k p some.0 is.link.up legal (at-first (was_admitted s d k p) some.0 (message_at s d k p) some.2) some.2) n
    ]
adds cl (Take b) p legal n =
    let less = λ (s : ℕ). by-actor (λ a. length (waiting a (Take b ∷ p)) ≤ length (waiting a p)) b (record { node = n; serial = s })
    (let fewer = ap length (waiting-taken b p) in let dropped = length-drop 1 (waiting b p) in omega arith)
    (λ other. (let same = ap length (waiting-other (record { node = n; serial = s }) b p other) in omega arith)) in
    let whole = sum-less (waits_for n (Take b ∷ p)) (waits_for n p) (nodes_below (births n p)) less in
    omega (arith, whole, waiting_at-sum n (Take b ∷ p), waiting_at-sum n p)
adds cl (Seed m) p legal n = none-adds cl (Seed m) p legal.1 (refl, λ a. refl) n
adds cl (Tie o t) p legal n = none-adds cl (Tie o t) p legal.1 (refl, λ a. refl) n
adds cl (Wake b) p legal n = none-adds cl (Wake b) p legal.1 (refl, λ a. refl) n
adds cl (Spawn b) p legal n = none-adds cl (Spawn b) p legal.1 (refl, λ a. refl) n
adds cl (Drop b t) p legal n = none-adds cl (Drop b t) p legal.1 (refl, λ a. refl) n
adds cl (Retire b) p legal n = none-adds cl (Retire b) p legal.1 (refl, λ a. refl) n
adds cl (Rest b) p legal n = none-adds cl (Rest b) p legal.1 (refl, λ a. refl) n
adds cl (Flush b) p legal n = none-adds cl (Flush b) p legal.1 (refl, λ a. refl) n
adds cl (Publish m) p legal n = none-adds cl (Publish m) p legal.1 (refl, λ a. refl) n
adds cl (Window d s) p legal n = none-adds cl (Window d s) p legal.1 (refl, λ a. refl) n
adds cl (Lose s d k) p legal n = none-adds cl (Lose s d k) p legal.1 (refl, λ a. refl) n
adds cl (Repeat s d k) p legal n = none-adds cl (Repeat s d k) p legal.1 (refl, λ a. refl) n
adds cl (Crash m) p legal n = none-adds cl (Crash m) p legal.1 (refl, λ a. refl) n
adds cl (Remove d s) p legal n = none-adds cl (Remove d s) p legal.1 (refl, λ a. refl) n
adds cl (Hand m o k) p legal n = none-adds cl (Hand m o k) p legal.1 (refl, λ a. refl) n
adds cl (Sweep m) p legal n = none-adds cl (Sweep m) p legal.1 (refl, λ a. refl) n

waits-bound : (cl : Cluster) (h : List Event) → IsLegal cl h → (n : ℕ) → waiting_at n h ≤ length h
waits-bound cl [] legal n = omega arith
waits-bound cl (e ∷ p) legal n = (let before = waits-bound cl p legal.1 n in let more = adds cl e p legal n in omega arith)

-- ---- what comes

-- how many messages were sent to a node
abbrev sent_from : ℕ → List Event → ℕ → ℕ
sent_from d h s = length (sent s d h)

sends-bound : (n d : ℕ) (h : List Event) → sum_by (sent_from d h) (nodes_below n) ≤ length h
sends-bound n d [] = nothing (nodes_below n)
  where
    nothing : (xs : List ℕ) → sum_by (sent_from d []) xs ≤ 0
    nothing [] = omega arith
    nothing (x ∷ xs) = (let later = nothing xs in let first = sum_by-cons (sent_from d []) x xs in omega arith)
sends-bound n d (Send f t refs ∷ p) =
    let h : List Event = Send f t refs ∷ p in
    let m : Message = record { from = f; to = t; refs = refs } in
    let before = sends-bound n d p in
    let one_more = elim ((f.node == f.node) && (t.node == d)) as (λ v. length (cond v (sent f.node d p ++ m ∷ []) (sent f.node d p)) ≤ sent_from d p f.node + 1) [
      | true ↦ (let longer = length-append (sent f.node d p) (m ∷ []) in omega arith)
      | false ↦ omega arith
    ] in
    let others = λ (x : ℕ) (apart : x ≢ f.node). ap length (cond-false ((f.node == x) && (t.node == d)) (sent x d p ++ m ∷ []) (sent x d p) (ap (λ v. v && (t.node == d)) (ne_eqb f.node x (λ e. apart (sym e))))) in
    elim (cases_lt f.node n) [
      | inl below ↦ (let change = sum-changed (sent_from d h) (sent_from d p) f.node n below others in omega (arith, change, one_more, before))
      | inr past ↦ (
          let same = sum_by-same (sent_from d h) (sent_from d p) (nodes_below n) (λ x among. others x (λ e. (let range = IsAmong-from_range x 0 n among in absurd (omega (arith, range.1, e, past))))) in
          omega (arith, same, before))
    ]
sends-bound n d (_ ∷ p) = (let before = sends-bound n d p in omega (arith, before))

coming-bound : (cl : Cluster) (d : ℕ) (h : List Event) → coming_to cl d h ≤ length h
coming-bound cl d h =
    let less = λ (s : ℕ).
    (let most = tally-length (is_under_way s d h) (range_with_len 0 (length (sent s d h))) in
    let many = length-range_with_len 0 (length (sent s d h)) in
    elim (s == d) as (λ v. cond v 0 (under_way s d h) ≤ sent_from d h s) [ true ↦ omega arith | false ↦ omega arith ]) in
    let whole = sum-less (λ s. cond (s == d) 0 (under_way s d h)) (sent_from d h) (nodes_below cl.nodes) less in
    let all = sends-bound cl.nodes d h in
    omega (arith, whole, all)

-- at most twice as many messages are live as events were
pub live-bound : (cl : Cluster) (h : List Event) → IsLegal cl h → (n : ℕ) → live_at cl n h ≤ length h + length h
live-bound cl h legal n =
    let waits = waits-bound cl h legal n in
    let comes = coming-bound cl n h in
    elim (cases_Bool (is_up n h)) [
      | inl up ↦ (let all = live-up cl n h up in omega (arith, waits, comes, all))
      | inr down ↦ (let none = live-down cl n h down in omega (arith, none))
    ]
