-- The counts of live messages and of busy actors are 0 exactly where there are none, ready actors are those that may take, and
-- where nothing is lost between nodes that are up, all is admitted or under way.
use Rattle.std.proofs.Common.{◌≡◌, ◌≢◌, ◌<◌, ◌+◌, ◌&&◌, ◌↔◌, ◌==◌, ℕ, zero, suc, true, false, not, cond, List, [], ◌∷◌, length, map, refl, sym, ◌∙◌, ap, subst, inl, inr, arith, IsTrue, IsFalse, nat_lt, slice_get, option_to_list}
use Rattle.std.proofs.lemmas.Bool.{and_from, and_parts, cases_Bool, cases_lt, cond-true, cond-false, cond_both, false≢true, lt-ltb, ltb-true, ne_eqb, not-true, eq-eqb}
use Rattle.std.specs.List.{range_with_len}
use Rattle.std.specs.Prelude.{None, Some}
use Rattle.crgc_ids.specs.Actor.{Actor}
use Rattle.crgc_ids.specs.Members.{IsAmong}
use Rattle.crgc_ids.specs.Nodes.{nodes_below}
use Rattle.crgc_ids.proofs.MembersLaws.{IsAmong-from_range, IsAmong-range, list_any-member}
use Rattle.history_model.specs.declared.events.Event.{Event}
use Rattle.history_model.specs.declared.events.Event.TheVariants.{Rest, Take, Wake}
use Rattle.history_model.specs.declared.events.Rule.TheVariants.{Busy, Down, NoActor, NoMail}
use Rattle.history_model.specs.Tally.{tally}
use Rattle.history_model.specs.Cluster.{Cluster, births, is_born, same_actor}
use Rattle.history_model.specs.Legal.{IsLegal, has_nothing, refusal}
use Rattle.history_model.specs.Live.{actors_of, busy_at, busy_count, coming_to, is_ready, is_under_way, live_at, live_count, under_way, waiting_at}
use Rattle.history_model.specs.Messages.{Message, copies, is_admit, is_closed, message_at, sent, waiting, was_admitted}
use Rattle.history_model.specs.Quiescent.{LosesNothing, IsDelivered, IsLive, IsOnLink}
use Rattle.history_model.specs.State.{is_busy, is_up}
use Rattle.history_model.proofs.Basics.{legal-kept, same_actor-equal}
use Rattle.history_model.proofs.AccountsBirths.{born-grows, born-on_node, mail-among, mail-born, message_at-among, sent-among, sent-born, waiting-among}
use Rattle.history_model.proofs.Lists.{place-within, tally-some}
use Rattle.history_model.proofs.States.{some_waits, waiting-live}
use Rattle.history_model.proofs.TellsNames.{tally-member}
use Rattle.history_model.proofs.LinksSums.{sum_by-positive, sum_by-some}

-- ---- the actors of a node

-- they are the actors born there
pub actors_of-born : (h : List Event) (a : Actor) → IsTrue (is_born a h) → IsAmong a (actors_of a.node h)
actors_of-born h a born =
    let below = ltb-true a.serial (births a.node h) born in
    among-map a.serial (range_with_len 0 (births a.node h)) (IsAmong-range a.serial 0 (births a.node h) (omega arith) (omega arith))
  where
    among-map : (s : ℕ) (xs : List ℕ) → IsAmong s xs → IsAmong {A = Actor} (record { node = a.node; serial = s }) (map (λ k. record { node = a.node; serial = k }) xs)
    among-map s [] m = absurd m
    among-map s (x ∷ xs) (inl e) = inl (λ i. record { node = a.node; serial = e i })
    among-map s (x ∷ xs) (inr m) = inr (among-map s xs m)

actors_of-on : (n : ℕ) (h : List Event) (a : Actor) → IsAmong a (actors_of n h) → a.node ≡ n
actors_of-on n h a m = on (range_with_len 0 (births n h)) m
  where
    on : (xs : List ℕ) → IsAmong a (map (λ k. record { node = n; serial = k }) xs) → a.node ≡ n
    on [] none = absurd none
    on (x ∷ xs) (inl e) = ap (λ b. b.node) e
    on (x ∷ xs) (inr later) = on xs later

-- a node of the same number is up
up-at : (h : List Event) (k n : ℕ) → k ≡ n → IsTrue (is_up n h) → IsTrue (is_up k h)
up-at h k n e up = subst (λ j. IsTrue (is_up j h)) (sym e) up

-- ---- messages

-- a list of messages that is not empty has one
some-message : (ms : List Message) → 0 < length ms → (m : Message) × IsAmong m ms
some-message [] some = absurd (omega arith)
some-message (m ∷ ms) some = (m, inl refl)

message-counts : (m : Message) (ms : List Message) → IsAmong m ms → 0 < length ms
message-counts m [] none = absurd none
message-counts m (x ∷ xs) among = omega arith

-- each place of a list has a message
pub place-has : (ms : List Message) (k : ℕ) → k < length ms → (m : Message) × (option_to_list (slice_get ms k) ≡ m ∷ [])
place-has [] k below = absurd (omega arith)
place-has (m ∷ ms) zero below = (m, refl)
place-has (m ∷ ms) (suc k) below = place-has ms k (omega arith)

module _ (cl : Cluster) (h : List Event) (legal : IsLegal cl h) where
  -- a live message is counted at its recipient's node
  live-counted : (m : Message) → IsLive h m → (m.to.node < cl.nodes) × (0 < live_at cl m.to.node h)
  live-counted m (up, inl waits) =
      let born = (mail-born cl h legal m.to m (waiting-among m.to h m waits)).1 in
      let here = sum_by-positive (λ a. length (waiting a h)) m.to (actors_of m.to.node h) (actors_of-born h m.to born) (message-counts m (waiting m.to h) waits) in
      let node = m.to.node in
      let all = cond-true (is_up node h) (waiting_at node h + coming_to cl node h) 0 up in
      (born-on_node cl h legal m.to born, omega (arith, here, all))
  live-counted m (up, inr on_link) =
      let s = m.from.node in
      let d = m.to.node in
      let k = on_link.0 in
      let place = place-within (sent s d h) k m on_link.1 in
      let was_sent = (sent-among s d h m (message_at-among s d k h m (subst (IsAmong m) (sym on_link.1) (inl refl)))).0 in
      let born = sent-born cl h legal m was_sent in
      let test : is_under_way s d h k ≡ true =
      and_from (not (is_closed s d h)) (not (was_admitted s d k h) && nat_lt 0 (copies s d k h)) (ap not on_link.2)
      (and_from (not (was_admitted s d k h)) (nat_lt 0 (copies s d k h)) (ap not on_link.3) (lt-ltb 0 (copies s d k h) on_link.4)) in
      let one = tally-member (is_under_way s d h) k (range_with_len 0 (length (sent s d h))) (IsAmong-range k 0 (length (sent s d h)) (omega arith) (omega arith)) test in
      let apart = cond-false (s == d) 0 (under_way s d h) (ne_eqb s d on_link.5) in
      let from = born-on_node cl h legal m.from born.0 in
      let coming = sum_by-positive (λ x. cond (x == d) 0 (under_way x d h)) s (nodes_below cl.nodes) (IsAmong-range s 0 cl.nodes (omega arith) (omega arith)) (omega (arith, one, apart)) in
      let all = cond-true (is_up d h) (waiting_at d h + coming_to cl d h) 0 up in
      (born-on_node cl h legal m.to born.1, omega (arith, coming, all))

  -- what is under way is a message on its link
  under_way-message : (s d k : ℕ) → k < length (sent s d h) → s ≢ d → is_under_way s d h k ≡ true → (m : Message) × IsOnLink h m × (m.to.node ≡ d)
  under_way-message s d k below apart t =
      let found = place-has (sent s d h) k below in
      let m : Message = found.0 in
      let on = (sent-among s d h m (message_at-among s d k h m (subst (IsAmong m) (sym found.1) (inl refl)))) in
      let first = and_parts (not (is_closed s d h)) (not (was_admitted s d k h) && nat_lt 0 (copies s d k h)) t in
      let second = and_parts (not (was_admitted s d k h)) (nat_lt 0 (copies s d k h)) first.1 in
      let OnLink : ℕ → ℕ → Type 0 = λ x y.
      (j : ℕ) × (message_at x y j h ≡ m ∷ []) × IsFalse (is_closed x y h) × IsFalse (was_admitted x y j h) × (0 < copies x y j h) × (x ≢ y) in
      let link : OnLink s d = (k, found.1, not-true (is_closed s d h) first.0, not-true (was_admitted s d k h) second.0, ltb-true 0 (copies s d k h) second.1, apart) in
      (m, subst (λ x. OnLink x m.to.node) (sym on.1) (subst (OnLink s) (sym on.2) link), on.2)

  -- where messages are counted at a node, one is live there
  counted-live : (n : ℕ) → 0 < live_at cl n h → (m : Message) × IsLive h m × (m.to.node ≡ n)
  counted-live n some =
      elim (cases_Bool (is_up n h)) [
        | inr down ↦ (let none = cond-false (is_up n h) (waiting_at n h + coming_to cl n h) 0 down in absurd (omega (arith, some, none)))
        | inl up ↦ (
            let all = cond-true (is_up n h) (waiting_at n h + coming_to cl n h) 0 up in
            elim (cases_lt 0 (waiting_at n h)) [
              | inl waits ↦ (
                  let at_actor = sum_by-some (λ a. length (waiting a h)) (actors_of n h) waits in
                  let a : Actor = at_actor.0 in
                  let on = actors_of-on n h a at_actor.1 in
                  let found = some-message (waiting a h) at_actor.2 in
                  let live = waiting-live h a (up-at h a.node n on up) found.0 found.1 in
                  (found.0, live.0, ap (λ b. b.node) live.1 ∙ on)
                  )
              | inr none ↦ (
                  let at_node = sum_by-some (λ s. cond (s == n) 0 (under_way s n h)) (nodes_below cl.nodes) (omega (arith, some, all, none)) in
                  let s : ℕ = at_node.0 in
                  let apart : s ≢ n = λ e. (let zero_there = cond-true (s == n) 0 (under_way s n h) (eq-eqb s n e) in absurd (omega (arith, at_node.2, zero_there))) in
                  let there = cond-false (s == n) 0 (under_way s n h) (ne_eqb s n apart) in
                  let number = tally-some (is_under_way s n h) (range_with_len 0 (length (sent s n h))) (omega (arith, at_node.2, there)) in
                  let k : ℕ = number.0 in
                  let range = IsAmong-from_range k 0 (length (sent s n h)) number.1 in
                  let found = under_way-message s n k (omega (arith, range.1)) apart number.2 in
                  (let m : Message = found.0 in (m, (up-at h m.to.node n found.2 up, inr found.1), found.2))
                  )
            ]
            )
      ]

  -- the count of a node is 0 exactly where no message to it is live
  pub live_at-none : (n : ℕ) → (live_at cl n h ≡ 0) ↔ ((m : Message) → m.to.node ≡ n → ¬ IsLive h m)
  live_at-none n = (
    λ none m on live. (let counts = (live-counted m live).1 in let same = ap (λ k. live_at cl k h) on in absurd (omega (arith, none, counts, same))),
    λ none. elim (cases_lt 0 (live_at cl n h)) [
      | inl some ↦ (let found = counted-live n some in absurd (none found.0 found.2 found.1))
      | inr zero_there ↦ omega arith
    ],
  )

  -- and so is the count of all nodes
  pub live_count-none : (live_count cl h ≡ 0) ↔ ((m : Message) → ¬ IsLive h m)
  live_count-none = (
    λ none m live.
        let counts = live-counted m live in
        let below = counts.0 in
        let all = sum_by-positive (λ n. live_at cl n h) m.to.node (nodes_below cl.nodes) (IsAmong-range m.to.node 0 cl.nodes (omega arith) (omega arith)) counts.1 in
        absurd (omega (arith, none, all)),
    λ none. elim (cases_lt 0 (live_count cl h)) [
      | inl some ↦ (
          let at_node = sum_by-some (λ n. live_at cl n h) (nodes_below cl.nodes) some in
          let found = counted-live at_node.0 at_node.2 in
          absurd (none found.0 found.1)
          )
      | inr zero_there ↦ omega arith
    ],
  )

-- ---- busy actors

-- a busy actor was born
busy-born : (cl : Cluster) (h : List Event) → IsLegal cl h → (a : Actor) → is_busy a h ≡ true → IsTrue (is_born a h)
busy-born cl [] legal a busy = absurd (false≢true busy)
busy-born cl (Wake b ∷ p) legal a busy =
    let kept = legal-kept cl (Wake b) p legal in
    cond_both (same_actor b a) true (is_busy a p) (λ v. v ≡ true → IsTrue (is_born a (Wake b ∷ p)))
    (λ same _. subst (λ c. IsTrue (is_born c (Wake b ∷ p))) (same_actor-equal b a same) (born-grows b (Wake b ∷ []) p kept.0))
    (λ _ before. born-grows a (Wake b ∷ []) p (busy-born cl p legal.1 a before)) busy
busy-born cl (Take b ∷ p) legal a busy =
    let kept = legal-kept cl (Take b) p legal in
    cond_both (same_actor b a) true (is_busy a p) (λ v. v ≡ true → IsTrue (is_born a (Take b ∷ p)))
    (λ same _. subst (λ c. IsTrue (is_born c (Take b ∷ p))) (same_actor-equal b a same) (born-grows b (Take b ∷ []) p kept.0))
    (λ _ before. born-grows a (Take b ∷ []) p (busy-born cl p legal.1 a before)) busy
busy-born cl (Rest b ∷ p) legal a busy =
    cond_both (same_actor b a) false (is_busy a p) (λ v. v ≡ true → IsTrue (is_born a (Rest b ∷ p)))
    (λ _ none. absurd (false≢true none))
    (λ _ before. born-grows a (Rest b ∷ []) p (busy-born cl p legal.1 a before)) busy
busy-born cl (e ∷ p) legal a busy = born-grows a (e ∷ []) p (busy-born cl p legal.1 a busy)

-- no actor of a node that is up is busy exactly where none is counted
pub busy_count-none : (cl : Cluster) (h : List Event) → IsLegal cl h → (busy_count cl h ≡ 0) ↔ ((a : Actor) → IsTrue (is_up a.node h) → IsFalse (is_busy a h))
busy_count-none cl h legal = (
  λ none a up. elim (cases_Bool (is_busy a h)) [
    | inr idle ↦ idle
    | inl busy ↦ (
        let born = busy-born cl h legal a busy in
        let below = born-on_node cl h legal a born in
        let one = tally-member (λ b. is_busy b h) a (actors_of a.node h) (actors_of-born h a born) busy in
        let here = cond-true (is_up a.node h) (tally (λ b. is_busy b h) (actors_of a.node h)) 0 up in
        let all = sum_by-positive (λ n. busy_at n h) a.node (nodes_below cl.nodes) (IsAmong-range a.node 0 cl.nodes (omega arith) (omega arith)) (omega (arith, one, here)) in
        absurd (omega (arith, none, all))
        )
  ],
  λ none. elim (cases_lt 0 (busy_count cl h)) [
    | inr zero_there ↦ omega arith
    | inl some ↦ (
        let at_node = sum_by-some (λ n. busy_at n h) (nodes_below cl.nodes) some in
        let n : ℕ = at_node.0 in
        elim (cases_Bool (is_up n h)) [
          | inr down ↦ (let nothing = cond-false (is_up n h) (tally (λ b. is_busy b h) (actors_of n h)) 0 down in absurd (omega (arith, at_node.2, nothing)))
          | inl up ↦ (
              let here = cond-true (is_up n h) (tally (λ b. is_busy b h) (actors_of n h)) 0 up in
              let found = tally-some (λ b. is_busy b h) (actors_of n h) (omega (arith, at_node.2, here)) in
              let on = actors_of-on n h found.0 found.1 in
              absurd (false≢true (sym (none found.0 (up-at h (found.0).node n on up)) ∙ found.2))
              )
        ]
        )
  ],
)

-- ---- ready actors

-- an actor is ready exactly where it may take
pub ready-takes : (cl : Cluster) (h : List Event) → IsLegal cl h → (a : Actor) → (is_ready a h ≡ true) ↔ (refusal cl (Take a) h ≡ None)
ready-takes cl h legal a = (
  λ ready.
      let first = and_parts (is_up a.node h) (not (is_busy a h) && not (has_nothing (waiting a h))) ready in
      let second = and_parts (not (is_busy a h)) (not (has_nothing (waiting a h))) first.1 in
      let some = some_waits (waiting a h) second.1 in
      let mail = waiting-among a h some.0 (subst (IsAmong some.0) (sym some.2) (inl refl)) in
      let born = subst (λ b. IsTrue (is_born b h)) (mail-among a h some.0 mail).1 (mail-born cl h legal a some.0 mail).1 in
      cond-true (is_born a h) _ (Some NoActor) born ∙ cond-true (is_up a.node h) _ (Some Down) first.0
      ∙ cond-true (not (is_busy a h)) _ (Some Busy) second.0 ∙ cond-true (not (has_nothing (waiting a h))) None (Some NoMail) second.1,
  λ allowed.
      let kept = legal-kept cl (Take a) h (allowed, legal) in
      and_from (is_up a.node h) (not (is_busy a h) && not (has_nothing (waiting a h))) kept.1.0
      (and_from (not (is_busy a h)) (not (has_nothing (waiting a h))) kept.1.1.0 kept.1.1.1.0),
)

-- ---- delivered

-- what was not admitted had no admission
not_admitted-none : (s d k : ℕ) (h : List Event) → was_admitted s d k h ≡ false → tally (is_admit s d k) h ≡ 0
not_admitted-none s d k h none = elim (cases_lt 0 (tally (is_admit s d k) h)) [
  | inl some ↦ (
      let found = tally-some (is_admit s d k) h some in
      absurd (false≢true (sym none ∙ list_any-member (is_admit s d k) found.0 h found.1 found.2))
      )
  | inr zero_there ↦ omega arith
]

-- where no copy between nodes that are up was lost, each message between them is admitted or under way
pub none_lost-delivered : (h : List Event) → LosesNothing h → IsDelivered h
none_lost-delivered h none s d k apart up up' below =
    elim (cases_Bool (was_admitted s d k h)) [
      | inl admitted ↦ inl admitted
      | inr open_yet ↦ inr (
          let one : ℕ = 1 in
          let first : cond (nat_lt k (length (sent s d h))) 1 0 ≡ one = cond-true (nat_lt k (length (sent s d h))) 1 0 (lt-ltb k (length (sent s d h)) below) in
          omega (arith, first, none s d k apart up up', not_admitted-none s d k h open_yet)
          )
    ]
