-- A message that the plain program finds for an actor is live, and each live message is found.
use Rattle.std.proofs.Common.{◌≡◌, ◌≢◌, ◌<◌, ◌≤◌, ◌&&◌, ◌||◌, ◌==◌, ℕ, zero, suc, Bool, true, false, not, cond, nat_lt, List, [], ◌∷◌, ◌++◌, length, map, drop, slice_get, option_to_list, length-append, refl, sym, ◌∙◌, ap, subst, inl, inr, arith, IsTrue}
use Rattle.std.specs.Prelude.{Option, Some, None}
use Rattle.std.proofs.lemmas.Bool.{and_from, and_parts, and_right, cases_lt, eq-eqb, false≢true, le-ltb, lt-ltb, ltb-false, ltb-true, ne_eqb, not-true, or_cases, or_left, or_right}
use Rattle.std.proofs.lemmas.List.{drop-append-le, drop_all}
use Rattle.std.specs.List.{filter, list_any}
use Rattle.crgc_ids.specs.Actor.{Actor}
use Rattle.crgc_ids.specs.Members.{IsAmong}
use Rattle.crgc_ids.proofs.MembersLaws.{IsAmong-append_cases, IsAmong-append_left, IsAmong-append_right, IsAmong-filter, IsAmong-from_filter, filter_shortens, list_any-member, list_any-true}
use Rattle.history_model.specs.declared.events.Event.{Event}
use Rattle.history_model.specs.declared.events.Event.TheVariants.{Admit, Send}
use Rattle.history_model.specs.Cluster.{same_actor}
use Rattle.history_model.specs.Messages.{Message, admitted_by, copies, is_closed, is_to, mail, message_at, sent, takes, waiting, was_admitted}
use Rattle.history_model.specs.State.{is_up}
use Rattle.history_model.specs.Tally.{tally}
use Rattle.history_model.specs.Uses.{sent_by}
use Rattle.history_model.specs.Live.{is_under_way}
use Rattle.history_model.specs.Quiescent.{IsLive, IsOnLink}
use Rattle.history_model.proofs.Basics.{same_actor-equal, same_actor-refl}
use Rattle.history_model.proofs.Lists.{among-drop, place-within, tally-some}
use Rattle.history_model.proofs.TellsNames.{tally-member}
use Rattle.quiet_check.specs.Plain.{carrying, is_coming, is_send_on, some_moment, touches, uses, uses_coming, uses_waiting, waits}
use Rattle.quiet_check.proofs.Counts.{sent_length}
use Rattle.quiet_check.proofs.MailFacts.{message_here, message_there}
use Rattle.quiet_check.proofs.Moments.{IsMoment, moment_found, moment_passes}
use Rattle.quiet_check.proofs.QuietPoints.{number_sent, sent_number}

-- ---- whom a message names

touches_named : (a : Actor) (m : Message) → touches a (carrying a m) ≡ true → IsAmong a (m.to ∷ m.refs)
touches_named a m t = elim (or_cases (same_actor m.to a) (nat_lt 0 (tally (same_actor a) m.refs)) t) [
  | inl to ↦ inl (sym (same_actor-equal m.to a to))
  | inr some ↦ (
      let found = tally-some (same_actor a) m.refs (ltb-true 0 (tally (same_actor a) m.refs) some) in
      inr (subst (λ x. IsAmong x m.refs) (sym (same_actor-equal a found.0 found.2)) found.1)
      )
]

named_touches : (a : Actor) (m : Message) → IsAmong a (m.to ∷ m.refs) → touches a (carrying a m) ≡ true
named_touches a m (inl e) =
    or_left (same_actor m.to a) (nat_lt 0 (tally (same_actor a) m.refs)) (subst (λ x. same_actor m.to x ≡ true) (sym e) (same_actor-refl m.to))
named_touches a m (inr among) =
    or_right (same_actor m.to a) (nat_lt 0 (tally (same_actor a) m.refs)) (lt-ltb 0 (tally (same_actor a) m.refs) (tally-member (same_actor a) a m.refs among (same_actor-refl a)))

-- ---- lists

drop_grows : {A : Type 0} (x : A) (n : ℕ) (xs ys : List A) → IsAmong x (drop n xs) → IsAmong x (drop n (xs ++ ys))
drop_grows x zero xs ys among = IsAmong-append_left x xs ys among
drop_grows x (suc n) [] ys among = absurd among
drop_grows x (suc n) (z ∷ xs) ys among = drop_grows x n xs ys among

any_map : {A B : Type 0} (test : B → Bool) (f : A → B) (xs : List A) → list_any test (map f xs) ≡ list_any (λ x. test (f x)) xs
any_map test f [] = refl
any_map test f (x ∷ xs) = ap (λ b. test (f x) || b) (any_map test f xs)

at_most_one : {A : Type 0} (o : Option A) → length (option_to_list o) ≤ 1
at_most_one None = omega arith
at_most_one (Some x) = omega arith

-- an event admits one message at most
admits_one : (e : Event) (p : List Event) → length (admitted_by e p) ≤ 1
admits_one (Send f t refs) p =
    let one : Message = record { from = f; to = t; refs = refs } in
    elim (f.node == t.node) as (λ v. length (cond v (one ∷ []) []) ≤ 1) [ true ↦ omega arith | false ↦ omega arith ]
admits_one (Admit s d k) p =
    let one = at_most_one (slice_get (sent s d p) k) in
    elim (was_admitted s d k p) as (λ v. length (cond v [] (message_at s d k p)) ≤ 1) [ true ↦ omega arith | false ↦ one ]
admits_one _ p = omega arith

-- ---- messages that wait

-- what was admitted to b after the first t of its mail waits, where b takes t
waits_there : (m : Message) (t : ℕ) (e : Event) (p h : List Event) → IsMoment e p h → IsAmong m (admitted_by e p) → t ≤ length (mail m.to p) → IsAmong m (drop t (mail m.to h))
waits_there m t e p [] moment among below = absurd moment
waits_there m t e p (x ∷ q) (inl here) among below =
    let among_here : IsAmong m (admitted_by x q) = subst (λ y. IsAmong m (admitted_by y q)) here.0 (subst (λ r. IsAmong m (admitted_by e r)) here.1 among) in
    let below_here : t ≤ length (mail m.to q) = subst (λ r. t ≤ length (mail m.to r)) here.1 below in
    let new : List Message = filter (is_to m.to) (admitted_by x q) in
    let joins : IsAmong m new = IsAmong-filter (is_to m.to) m (admitted_by x q) among_here (same_actor-refl m.to) in
    subst (IsAmong m) (sym (drop-append-le t (mail m.to q) new below_here)) (IsAmong-append_right m (drop t (mail m.to q)) new joins)
waits_there m t e p (x ∷ q) (inr earlier) among below =
    drop_grows m t (mail m.to q) (filter (is_to m.to) (admitted_by x q)) (waits_there m t e p q earlier among below)

-- the moment at which a message was admitted that waits
abbrev IsAdmitted : Message → ℕ → Actor → List Event → Type 0
IsAdmitted m t b h =
    (e : Event) × (p : List Event) × IsMoment e p h × IsAmong m (admitted_by e p) × (t ≤ length (mail b p)) × (m.to ≡ b)

waiting_found : (m : Message) (t : ℕ) (b : Actor) (h : List Event) → IsAmong m (drop t (mail b h)) → IsAdmitted m t b h
waiting_found m t b [] among = absurd (among-drop t m [] among)
waiting_found m t b (x ∷ q) among =
    let old : List Message = mail b q in
    let new : List Message = filter (is_to b) (admitted_by x q) in
    let earlier : IsAmong m (drop t old) → IsAdmitted m t b (x ∷ q) = λ before.
    let found = waiting_found m t b q before in
    (found.0, found.1, inr found.2, found.3, found.4, found.5) in
    elim (cases_lt (length old) t) [
      | inl past ↦ (
          let few : length new ≤ 1 = elim (filter_shortens (is_to b) (admitted_by x q)) [
            | inl same ↦ omega (arith, ap length same, admits_one x q)
            | inr less ↦ omega (arith, admits_one x q)
          ] in
          let all : drop t (old ++ new) ≡ [] = drop_all t (old ++ new) (omega (arith, length-append old new, few, past)) in
          absurd (subst (IsAmong m) all among)
          )
      | inr within ↦ elim (IsAmong-append_cases m (drop t old) new (subst (IsAmong m) (drop-append-le t old new within) among)) [
        | inl before ↦ earlier before
        | inr now ↦ (
            let found = IsAmong-from_filter (is_to b) m (admitted_by x q) now in
            (x, q, inl (refl, refl), found.0, within, same_actor-equal m.to b found.1)
            )
      ]
    ]

-- ---- messages on links

-- a send gives its number the message
number_message : (f t : Actor) (refs : List Actor) (p h : List Event) → IsMoment (Send f t refs) p h
    → message_at f.node t.node (tally (is_send_on f.node t.node) p) h ≡ sent_by (Send f t refs)
number_message f t refs p [] moment = absurd moment
number_message f t refs p (x ∷ q) (inl here) =
    let s : ℕ = f.node in
    let d : ℕ = t.node in
    let k = tally (is_send_on s d) p in
    let test = and_from ((s == s) && (d == d)) (k == k) (and_from (s == s) (d == d) (eq-eqb s s refl) (eq-eqb d d refl)) (eq-eqb k k refl) in
    let Given : Event → List Event → Type 0 = λ y r. message_at s d k (y ∷ r) ≡ sent_by (Send f t refs) in
    let given : Given (Send f t refs) p = message_here s d k (Send f t refs) p test in
    subst (λ y. Given y q) here.0 (subst (Given (Send f t refs)) here.1 given)
number_message f t refs p (x ∷ q) (inr earlier) =
    let s : ℕ = f.node in
    let d : ℕ = t.node in
    let k = tally (is_send_on s d) p in
    let below : k < tally (is_send_on s d) q = sent_number f t refs p q earlier in
    let other = ne_eqb (tally (is_send_on s d) q) k (λ e. absurd (omega (arith, e, below))) in
    message_there s d k x q (and_right (is_send_on s d x) (tally (is_send_on s d) q == k) other) ∙ number_message f t refs p q earlier

-- ---- both

abbrev IsNamedLive : Actor → List Event → Type 0
IsNamedLive a h = (m : Message) × IsLive h m × IsAmong a (m.to ∷ m.refs)

waiting_is_live : (a : Actor) (e : Event) (p h : List Event) → IsMoment e p h → list_any (uses_waiting h a p) (map (carrying a) (admitted_by e p)) ≡ true → IsNamedLive a h
waiting_is_live a e p h moment some =
    let found = list_any-true (λ m. uses_waiting h a p (carrying a m)) (admitted_by e p) (sym (any_map (uses_waiting h a p) (carrying a) (admitted_by e p)) ∙ some) in
    let m : Message = found.0 in
    let both = and_parts (touches a (carrying a m)) (waits h p m.to) found.2 in
    let waiting_so = and_parts (is_up m.to.node h) (not (nat_lt (length (mail m.to p)) (takes m.to h))) both.1 in
    let below = ltb-false (length (mail m.to p)) (takes m.to h) (not-true (nat_lt (length (mail m.to p)) (takes m.to h)) waiting_so.1) in
    (m, (waiting_so.0, inl (waits_there m (takes m.to h) e p h moment found.1 below)), touches_named a m both.0)

coming_is_live : (a : Actor) (e : Event) (p h : List Event) → IsMoment e p h → uses_coming h a e p ≡ true → IsNamedLive a h
coming_is_live a (Send f t refs) p h moment t1 =
    let m : Message = record { from = f; to = t; refs = refs } in
    let s : ℕ = f.node in
    let d : ℕ = t.node in
    let k = tally (is_send_on s d) p in
    let both = and_parts (touches a (carrying a m)) (is_coming h s d k) t1 in
    let one = and_parts (not (s == d)) (is_up d h && is_under_way s d h k) both.1 in
    let two = and_parts (is_up d h) (is_under_way s d h k) one.1 in
    let three = and_parts (not (is_closed s d h)) (not (was_admitted s d k h) && nat_lt 0 (copies s d k h)) two.1 in
    let four = and_parts (not (was_admitted s d k h)) (nat_lt 0 (copies s d k h)) three.1 in
    let apart : s ≢ d = λ e. false≢true (sym (not-true (s == d) one.0) ∙ eq-eqb s d e) in
    let on : IsOnLink h m = (k, number_message f t refs p h moment, not-true (is_closed s d h) three.0, not-true (was_admitted s d k h) four.0, ltb-true 0 (copies s d k h) four.1, apart) in
    (m, (two.0, inr on), touches_named a m both.0)
coming_is_live a _ p h moment t1 = absurd (false≢true t1)

pub used_is_live : (a : Actor) (h : List Event) → some_moment (uses h a) h ≡ true → IsNamedLive a h
used_is_live a h some =
    let found = moment_found (uses h a) h some in
    let e : Event = found.0 in
    let p : List Event = found.1 in
    elim (or_cases (list_any (uses_waiting h a p) (map (carrying a) (admitted_by e p))) (uses_coming h a e p) found.3) [
      | inl waiting_so ↦ waiting_is_live a e p h found.2 waiting_so
      | inr coming ↦ coming_is_live a e p h found.2 coming
    ]

waiting_is_used : (a : Actor) (h : List Event) (m : Message) → IsTrue (is_up m.to.node h) → IsAmong m (waiting m.to h) → IsAmong a (m.to ∷ m.refs) → some_moment (uses h a) h ≡ true
waiting_is_used a h m up among named =
    let found = waiting_found m (takes m.to h) m.to h among in
    let e : Event = found.0 in
    let p : List Event = found.1 in
    let still : waits h p m.to ≡ true = and_from (is_up m.to.node h) (not (nat_lt (length (mail m.to p)) (takes m.to h))) up (ap not (le-ltb (length (mail m.to p)) (takes m.to h) found.4)) in
    let one = and_from (touches a (carrying a m)) (waits h p m.to) (named_touches a m named) still in
    let some = any_map (uses_waiting h a p) (carrying a) (admitted_by e p) ∙ list_any-member (λ x. uses_waiting h a p (carrying a x)) m (admitted_by e p) found.3 one in
    moment_passes (uses h a) e p h found.2 (or_left (list_any (uses_waiting h a p) (map (carrying a) (admitted_by e p))) (uses_coming h a e p) some)

coming_is_used : (a : Actor) (h : List Event) (m : Message) → IsTrue (is_up m.to.node h) → IsOnLink h m → IsAmong a (m.to ∷ m.refs) → some_moment (uses h a) h ≡ true
coming_is_used a h m up on named =
    let s : ℕ = m.from.node in
    let d : ℕ = m.to.node in
    let k : ℕ = on.0 in
    let below : k < tally (is_send_on s d) h = omega (arith, place-within (sent s d h) k m on.1, sent_length s d h) in
    let found = number_sent s d k h below in
    let f : Actor = found.0 in
    let t : Actor = found.1 in
    let refs : List Actor = found.2 in
    let p : List Event = found.3 in
    let one : Message = record { from = f; to = t; refs = refs } in
    let Given : ℕ → ℕ → Type 0 = λ x y. message_at x y (tally (is_send_on x y) p) h ≡ one ∷ [] in
    let given : Given s d = subst (λ y. Given s y) found.6 (subst (λ x. Given x t.node) found.5 (number_message f t refs p h found.4)) in
    let numbered : message_at s d k h ≡ one ∷ [] = subst (λ n. message_at s d n h ≡ one ∷ []) found.7 given in
    let joined : one ∷ [] ≡ m ∷ [] = sym numbered ∙ on.1 in
    let same : one ≡ m = cc in
    let under_way : is_under_way s d h k ≡ true =
    and_from (not (is_closed s d h)) (not (was_admitted s d k h) && nat_lt 0 (copies s d k h)) (ap not on.2)
    (and_from (not (was_admitted s d k h)) (nat_lt 0 (copies s d k h)) (ap not on.3) (lt-ltb 0 (copies s d k h) on.4)) in
    let coming : is_coming h s d k ≡ true =
    and_from (not (s == d)) (is_up d h && is_under_way s d h k) (ap not (ne_eqb s d on.5)) (and_from (is_up d h) (is_under_way s d h k) up under_way) in
    let Comes : ℕ → ℕ → Type 0 = λ x y. is_coming h x y (tally (is_send_on x y) p) ≡ true in
    let counted : Comes s d = subst (λ n. is_coming h s d n ≡ true) (sym found.7) coming in
    let comes : Comes f.node t.node = subst (λ x. Comes x t.node) (sym found.5) (subst (λ y. Comes s y) (sym found.6) counted) in
    let touched : touches a (carrying a one) ≡ true = subst (λ (x : Message). touches a (carrying a x) ≡ true) (sym same) (named_touches a m named) in
    let used = and_from (touches a (carrying a one)) (is_coming h f.node t.node (tally (is_send_on f.node t.node) p)) touched comes in
    moment_passes (uses h a) (Send f t refs) p h found.4
    (or_right (list_any (uses_waiting h a p) (map (carrying a) (admitted_by (Send f t refs) p))) (uses_coming h a (Send f t refs) p) used)

pub live_is_used : (a : Actor) (h : List Event) (m : Message) → IsLive h m → IsAmong a (m.to ∷ m.refs) → some_moment (uses h a) h ≡ true
live_is_used a h m (up, inl among) named = waiting_is_used a h m up among named
live_is_used a h m (up, inr on) named = coming_is_used a h m up on named
