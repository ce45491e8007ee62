-- What the counts of the table of actors are in a history, and whose flush is due.
use Rattle.std.proofs.Common.{◌≡◌, ◌+◌, ◌<◌, ◌&&◌, ℕ, zero, suc, Bool, cond, List, [], ◌∷◌, count_by, get_or, length, map, nat_lt, sum_by, refl, sym, ◌∙◌, ap, ap₂, arith}
use Rattle.std.proofs.lemmas.List.{get_or_default}
use Rattle.std.proofs.lemmas.List.Sums.{sum_by-cons}
use Rattle.std.specs.List.{range_with_len}
use Rattle.crgc_ids.specs.Actor.{Actor}
use Rattle.history_model.specs.declared.events.Event.{Event}
use Rattle.history_model.specs.Cluster.{Cluster, births, is_born}
use Rattle.history_model.specs.Live.{actors_of, busy_at, busy_count}
use Rattle.history_model.specs.State.{is_busy, is_up}
use Rattle.history_model.specs.Streams.{can_flush, flags_at}
use Rattle.history_model.specs.Sweeps.{is_stopped}
use Rattle.history_model.specs.Tally.{tally}
use Rattle.entry_records.specs.Log.{may_flush}
use Rattle.entry_records.proofs.LogLemmas.{log-may_flush}
use Rattle.actor_states.specs.State.{State, blank_state, flags_of, has_news}
use Rattle.node_actors.specs.Node.{blank_node, busy_in}
use Rattle.roster.specs.Standing.{IsRosterOf, stopped_at}
use Rattle.roster.specs.Table.{Table, busy_total, may_be_flushed, node_in, state_at, stopped_in}
use Rattle.roster.proofs.HeldSteps.{weigh}
use Rattle.roster.proofs.StateEvents.{tally-count}

-- a sum over a list is one over its places
sum-range : {X : Type 0} (f : X → ℕ) (g : ℕ → ℕ) (xs : List X) (k : ℕ) (d : X) → ((i : ℕ) → i < length xs → f (get_or xs i d) ≡ g (k + i)) → sum_by f xs ≡ sum_by g (range_with_len k (length xs))
sum-range f g [] k d each = refl
sum-range f g (x ∷ xs) k d each =
    let first = each zero (omega arith) in
    let none : k + 0 ≡ k = omega arith in
    let here : g (k + 0) ≡ g k = ap g none in
    let rest = sum-range f g xs (k + 1) d (λ i below. (let next : k + suc i ≡ (k + 1) + i = omega arith in each (suc i) (omega arith) ∙ ap g next)) in
    let left = sum_by-cons f x xs in
    let right = sum_by-cons g k (range_with_len (k + 1) (length xs)) in
    omega arith

tally-map : {X Y : Type 0} (test : Y → Bool) (f : X → Y) (xs : List X) → tally test (map f xs) ≡ tally (λ x. test (f x)) xs
tally-map test f [] = refl
tally-map test f (x ∷ xs) = ap (λ n. cond (test (f x)) (n + 1) n) (tally-map test f xs)

module _ (cl : Cluster) (h : List Event) (r : Table) (stands : IsRosterOf cl h r) where
  -- a flush of the actor is due where it can be flushed
  pub news-due : (a : Actor) → has_news (state_at r a) ≡ can_flush cl a h
  news-due a =
      let s = state_at r a in
      let is = stands.states a in
      let flags : flags_of s ≡ flags_at a h = λ i. record { busy = is.busy i; root = is.root i } in
      ap (may_flush s.log) (flags ∙ ap (λ x. flags_at x h) (sym is.actor)) ∙ log-may_flush cl h s.log is.log ∙ ap (λ x. can_flush cl x h) is.actor

  pub flushed-due : (a : Actor) → may_be_flushed r a ≡ (is_up a.node h && (is_born a h && can_flush cl a h))
  flushed-due a = ap₂ (λ u b. u && b) (stands.up a.node) (ap₂ (λ n v. nat_lt a.serial n && v) (stands.births a.node) (news-due a))

  -- what is counted of a node's states is counted of its actors
  count-actors : (field : State → Bool) (of : Actor → Bool) → ((a : Actor) → field (state_at r a) ≡ of a) → (n : ℕ) → count_by field (node_in r n).actors ≡ tally of (actors_of n h)
  count-actors field of same n =
      let row = node_in r n in
      let at : ℕ → Actor = λ i. record { node = n; serial = i } in
      sum-range (λ s. weigh (field s)) (λ i. weigh (of (at i))) row.actors 0 (blank_state (at 0))
      (λ i below. (let none : 0 + i ≡ i = omega arith in
      ap (λ s. weigh (field s)) (get_or_default row.actors i (blank_state (at 0)) (blank_state (record { node = row.number; serial = i })) below) ∙ ap weigh (same (at i)) ∙ ap (λ j. weigh (of (at j))) (sym none)))
      ∙ ap (λ k. count_by (λ i. of (at i)) (range_with_len 0 k)) (stands.births n) ∙ sym (tally-count (λ i. of (at i)) (range_with_len 0 (births n h))) ∙ sym (tally-map of at (range_with_len 0 (births n h)))

  pub stopped-counted : (n : ℕ) → stopped_in r n ≡ stopped_at cl n h
  stopped-counted = count-actors (λ s. s.stopped) (λ a. is_stopped cl a h) (λ a. (stands.states a).stopped)

  busy-counted : (n : ℕ) → busy_in (node_in r n) ≡ busy_at n h
  busy-counted n = ap₂ (λ u k. cond u k 0) (stands.up n) (count-actors (λ s. s.busy) (λ a. is_busy a h) (λ a. (stands.states a).busy) n)

  pub busy-total : busy_total r ≡ busy_count cl h
  busy-total =
      sum-range busy_in (λ n. busy_at n h) r.nodes 0 (blank_node 0)
      (λ n below. (let none : 0 + n ≡ n = omega arith in
      ap busy_in (get_or_default r.nodes n (blank_node 0) (blank_node n) below) ∙ busy-counted n ∙ ap (λ k. busy_at k h) (sym none)))
      ∙ ap (λ k. sum_by (λ n. busy_at n h) (range_with_len 0 k)) stands.nodes
