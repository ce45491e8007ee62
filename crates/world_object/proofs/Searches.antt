-- What is found first: nodes, copies on links, and seeds that may wake.
use Rattle.std.proofs.Common.{◌≡◌, ◌≢◌, ◌+◌, ◌-◌, ◌*◌, ◌<◌, ◌&&◌, ℕ, Bool, true, false, not, is_none, nat_lt, if◌then◌else◌, List, length, option_map, Option, Some, None, refl, sym, ◌∙◌, ap, subst, arith, inl, inr}
use Rattle.std.specs.Prelude.{is_some}
use Rattle.std.specs.List.{find}
use Rattle.std.proofs.lemmas.Bool.{and_from, cases_lt, false_from_ne_true, false≢true, lt-ltb, ltb-true}
use Rattle.crgc_ids.specs.Actor.{Actor, IsActorBelow}
use Rattle.crgc_ids.specs.Nodes.{nodes_below}
use Rattle.crgc_ids.proofs.ActorLaws.{same_parts}
use Rattle.history_model.specs.declared.events.Event.{Event}
use Rattle.history_model.specs.declared.events.Event.TheVariants.{Remove, Wake, Window}
use Rattle.history_model.specs.declared.events.Rule.{Rule}
use Rattle.history_model.specs.Legal.{IsLegal, checks, refusal}
use Rattle.history_model.specs.Messages.{copies, sent}
use Rattle.history_model.proofs.AccountsBirths.{born-on_node}
use Rattle.history_model.proofs.AccountsCopies.{copies-was_sent}
use Rattle.history_model.proofs.Basics.{first_broken-none}
use Rattle.script_reader.specs.Valid.{Scripted}
use Rattle.traffic.specs.Readings.{IsHead, IsLowestNode, IsOnOpenLink}
use Rattle.run_model.specs.Doing.{cluster_of}
use Rattle.run_model.specs.Planned.{carry, has_row, is_possible, lowest_copy, next_on_link, next_wake, wakes_left}
use Rattle.run_model.proofs.LowestActors.{find-lowest, find-nobody}
use Rattle.std.proofs.lemmas.Option.{none-some, same_Some}
use Rattle.script_progress.specs.declared.carry.Carry.{Carry}
use Rattle.script_progress.specs.declared.carry.Carry.TheVariants as carries
use Rattle.world_object.specs.declared.parts.ClusterParts.{ClusterParts}
use Rattle.world_object.specs.Searching.{HasRow}
use Rattle.operation_model.specs.Courses.{if_possible, next_carried, next_removal, next_window}
use Rattle.script_progress.specs.Standing.{IsProgressAt}
use Rattle.script_progress.specs.Used.{IsAbove, IsNextPlanned, Used, carry_in, wakes_in}
use Rattle.run_model.proofs.Numbers.{first-number, no-number}
use Rattle.run_model.proofs.Possible.{possible-legal}
use Rattle.run_model.proofs.Carrying.{carry-legal, carry-open}

-- ---- nodes

module _ (s : Scripted) (h : List Event) (make : ℕ → Event) (below : (n : ℕ) → refusal (cluster_of s) (make n) h ≡ None → n < s.nodes) where
  pub lowest-node : (v : Option ℕ) → IsLowestNode (λ n. refusal (cluster_of s) (make n) h ≡ None) v → v ≡ find (λ n. is_possible s (make n) h) (nodes_below s.nodes)
  lowest-node None none =
      sym (no-number (λ n. is_possible s (make n) h) s.nodes 0 (λ k _ _. false_from_ne_true (is_possible s (make k) h) (λ passes. absurd (none k (possible-legal s (make k) h passes)))))
  lowest-node (Some n) (legal, lowest) =
      sym (first-number (λ k. is_possible s (make k) h) s.nodes 0 n (omega arith) (let small = below n legal in omega (arith, small))
      (λ k _ under. false_from_ne_true (is_possible s (make k) h) (λ passes. (let least = lowest k (possible-legal s (make k) h passes) in absurd (omega (arith, least, under)))))
      (ap is_none legal))

pub window-first : (s : Scripted) (h : List Event) (d : ℕ) (v : Option ℕ) → IsLowestNode (λ n. refusal (cluster_of s) (Window d n) h ≡ None) v → v ≡ next_window s d h
window-first s h d v lowest = lowest-node s h (Window d) (λ n legal. (let kept = first_broken-none (checks (cluster_of s) (Window d n) h) legal in ltb-true n s.nodes kept.1.0)) v lowest

pub removal-first : (s : Scripted) (h : List Event) (d : ℕ) (v : Option ℕ) → IsLowestNode (λ n. refusal (cluster_of s) (Remove d n) h ≡ None) v → v ≡ next_removal s d h
removal-first s h d v lowest = lowest-node s h (Remove d) (λ n legal. (let kept = first_broken-none (checks (cluster_of s) (Remove d n) h) legal in ltb-true n s.nodes kept.1.0)) v lowest

-- ---- links

module _ (s : Scripted) (f d : ℕ) (h : List Event) where
  abbrev Carried : Option ℕ → Type 0
  Carried v = next_carried s f d h ≡ option_map (λ k. carry s f d k h) v

  -- nothing is carried where no number can be
  pub none-carried : ((k : ℕ) → f ≢ d → IsOnOpenLink f d h k → ⊥) → Carried None
  none-carried none =
      elim (lowest_copy f d h) as (λ v. lowest_copy f d h ≡ v → Carried None) [
        | None ↦ λ is. rw is refl
        | Some k ↦ λ is.
            let impossible = false_from_ne_true (is_possible s (carry s f d k h) h) (λ passes. (let there = carry-open s f d k h passes in none k there.0 there.1)) in
            rw is (rw impossible refl)
      ] refl

  -- the head is the lowest copy
  head-lowest : IsLegal (cluster_of s) h → (k : ℕ) → IsHead f d h (Some k) → lowest_copy f d h ≡ Some k
  head-lowest legal k head =
      let sent_k = copies-was_sent (cluster_of s) h legal f d k head.0.1 in
      first-number (λ j. nat_lt 0 (copies f d j h)) (length (sent f d h)) 0 k (omega arith) (omega (arith, sent_k))
      (λ j _ under. false_from_ne_true (nat_lt 0 (copies f d j h)) (λ some. (let least = head.1 j (head.0.0, ltb-true 0 (copies f d j h) some) in absurd (omega (arith, least, under)))))
      (lt-ltb 0 (copies f d k h) head.0.1)

  -- the head of a link is carried
  pub head-carried : IsLegal (cluster_of s) h → f < s.nodes → d < s.nodes → f ≢ d → (v : Option ℕ) → IsHead f d h v → Carried v
  head-carried legal source at apart None none = none-carried (λ k _ on. none k on)
  head-carried legal source at apart (Some k) head =
      let lowest = head-lowest legal k head in
      let possible : is_possible s (carry s f d k h) h ≡ true = ap is_none (carry-legal s f d k h source at apart head.0) in
      rw lowest (rw possible refl)

-- what is planned for a copy stands in a row, unless it is admitted
pub row-left : (p : ClusterParts) (f d k : ℕ) (c : Carry) → c ≡ carry_in p.progress.plan f d k → HasRow p f d k c
row-left p f d k c is = subst (HasRow p f d k) (sym is) (by_rows (has_row f d k p.progress.plan.repeats) (has_row f d k p.progress.plan.losses) refl refl)
  where
    by_rows : (r l : Bool) → has_row f d k p.progress.plan.repeats ≡ r → has_row f d k p.progress.plan.losses ≡ l → HasRow p f d k (if r then carries.Repeat else if l then carries.Lose else carries.Admit)
    by_rows true l repeats losses = repeats
    by_rows false true repeats losses = losses
    by_rows false false repeats losses = tt

-- the event that is carried is legal, and the one of the operation
pub carried-legal : (s : Scripted) (f d : ℕ) (h : List Event) (e : Event) → next_carried s f d h ≡ Some e → refusal (cluster_of s) e h ≡ None
carried-legal s f d h e next = by_next (next_on_link s f d h) next
  where
    by_test : (x : Event) (v : Bool) → is_possible s x h ≡ v → (if v then Some x else None) ≡ Some e → refusal (cluster_of s) e h ≡ None
    by_test x true possible one = subst (λ y. refusal (cluster_of s) y h ≡ None) (same_Some x e one) (possible-legal s x h possible)
    by_test x false possible one = absurd (none-some e one)

    by_next : (v : Option Event) → if_possible s v h ≡ Some e → refusal (cluster_of s) e h ≡ None
    by_next None one = absurd (none-some e one)
    by_next (Some x) one = by_test x (is_possible s x h) refl one

-- ---- actors in order

-- an actor is above another, below it, or the same
in-order : (a c : Actor) (P : Type 0) → (IsActorBelow c a → P) → (IsActorBelow a c → P) → (a ≡ c → P) → P
in-order a c P above below same = elim (cases_lt a.node c.node) [
  | inl less ↦ below (inl less)
  | inr most ↦ elim (cases_lt c.node a.node) [
    | inl more ↦ above (inl more)
    | inr least ↦ (let nodes : a.node ≡ c.node = omega (arith, most, least) in elim (cases_lt a.serial c.serial) [
      | inl less ↦ below (inr (nodes, less))
      | inr high ↦ elim (cases_lt c.serial a.serial) [
        | inl more ↦ above (inr (sym nodes, more))
        | inr low ↦ same (same_parts a c nodes (omega (arith, high, low)))
      ]
    ])
  ]
]

-- an actor is above that one, or it is not
is-above : (v : Option Actor) (a : Actor) (P : Type 0) → (IsAbove v a → P) → ((IsAbove v a → ⊥) → P) → P
is-above None a P so other = so tt
is-above (Some b) a P so other =
    in-order a b P so (λ below. other (never below)) (λ same. other (λ above. never (subst (λ x. IsActorBelow x b) (sym same) (subst (IsActorBelow b) same above)) above))
  where
    never : IsActorBelow a b → IsActorBelow b a → ⊥
    never (inl less) (inl more) = omega (arith, less, more)
    never (inl less) (inr (nodes, more)) = omega (arith, less, nodes)
    never (inr (nodes, less)) (inl more) = omega (arith, nodes, more)
    never (inr (nodes, less)) (inr (nodes', more)) = omega (arith, less, more)

-- ---- seeds

-- the seed has a wake left and may wake
abbrev pub may_wake : Scripted → List Event → Actor → Bool
may_wake s h a = nat_lt 0 (wakes_left s a h) && is_possible s (Wake a) h

-- nobody of those that are not above may wake
abbrev pub NobodyBefore : Scripted → List Event → Option Actor → Type 0
NobodyBefore s h after = (a : Actor) → (IsAbove after a → ⊥) → may_wake s h a ≡ false

module _ (s : Scripted) (h : List Event) (p : Used) (stands : IsProgressAt s h p) (after : Option Actor) (before : NobodyBefore s h after) where
  none-left : (a : Actor) → wakes_in p a ≡ 0 → may_wake s h a ≡ false
  none-left a none = (let left : wakes_left s a h ≡ 0 = sym (stands.wakes a) ∙ none in rw left refl)

  -- nobody is left
  pub nobody-wakes : IsNextPlanned p after None → next_wake s h ≡ None
  nobody-wakes none = find-nobody (may_wake s h) s h (λ a _. is-above after a (may_wake s h a ≡ false) (λ above. none-left a (none a above)) (λ not_above. before a not_above))

  module _ (c : Actor) (next : IsNextPlanned p after (Some c)) where
    below-fails : (a : Actor) → IsActorBelow a c → may_wake s h a ≡ false
    below-fails a below = is-above after a (may_wake s h a ≡ false) (λ above. none-left a (next.2 a above below)) (λ not_above. before a not_above)

    -- the next one wakes where no rule refuses it
    pub next-wakes : IsLegal (cluster_of s) h → is_possible s (Wake c) h ≡ true → next_wake s h ≡ Some c
    next-wakes lawful possible =
        let legal = possible-legal s (Wake c) h possible in
        let kept = first_broken-none (checks (cluster_of s) (Wake c) h) legal in
        let node = born-on_node (cluster_of s) h lawful c kept.0 in
        find-lowest (may_wake s h) s h c node kept.0
        (and_from (nat_lt 0 (wakes_left s c h)) (is_possible s (Wake c) h) (lt-ltb 0 (wakes_left s c h) (subst (λ n. 0 < n) (stands.wakes c) next.1)) (ap is_none legal)) below-fails

    -- else it is passed
    pub next-passed : is_possible s (Wake c) h ≡ false → NobodyBefore s h (Some c)
    next-passed impossible a not_above =
        in-order a c (may_wake s h a ≡ false) (λ above. absurd (not_above above)) (below-fails a)
        (λ same. subst (λ x. may_wake s h x ≡ false) (sym same) (elim (nat_lt 0 (wakes_left s c h)) as (λ v. (v && is_possible s (Wake c) h) ≡ false) [ true ↦ impossible | false ↦ refl ]))

-- ---- the way over the seeds

-- how many places are passed
abbrev pub place_of : Option Actor → ℕ
place_of None = 0
place_of (Some a) = a.node * 262144 + a.serial + 1

abbrev pub IsPlace : Option Actor → Type 0
IsPlace None = Unit {0}
IsPlace (Some a) = (a.node < 16) × (a.serial < 262144)

pub nobody-before : (s : Scripted) (h : List Event) → NobodyBefore s h None
nobody-before s h a not_above = absurd (not_above tt)

-- each further place is a later one
pub place-later : (after : Option Actor) (c : Actor) → IsPlace after → IsPlace (Some c) → IsAbove after c → 16 * 262144 - place_of (Some c) < 16 * 262144 - place_of after
place-later None c place (node, serial) above = omega (arith, node, serial)
place-later (Some b) c (node', serial') (node, serial) (inl less) = omega (arith, node, serial, serial', less)
place-later (Some b) c (node', serial') (node, serial) (inr (same, less)) = omega (arith, node, serial, same, less)

-- whether the wake is possible, as the world tells it
pub wake-test : (p : ClusterParts) → p.world.cluster ≡ cluster_of p.script.value → (a : Actor) (r : Option Rule) (v : Bool) → r ≡ refusal p.world.cluster (Wake a) p.world.past → is_none r ≡ v → is_possible p.script.value (Wake a) p.world.past ≡ v
wake-test p cluster a r v is test = sym (ap (λ cl. is_none (refusal cl (Wake a) p.world.past)) cluster) ∙ sym (ap is_none is) ∙ test

-- what is not there is none
pub none-by_some : {A : Type 0} (r : Option A) (v : Bool) → is_some r ≡ not v → is_none r ≡ v
none-by_some None true e = refl
none-by_some None false e = absurd (false≢true e)
none-by_some (Some x) true e = absurd (false≢true (sym e))
none-by_some (Some x) false e = refl
