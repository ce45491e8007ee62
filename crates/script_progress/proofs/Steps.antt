-- What each event makes of the progress.
use Rattle.std.proofs.Common.{◌≡◌, ◌+◌, ◌-◌, ◌≤◌, ◌<◌, ◌^◌, ◌==◌, ◌&&◌, ◌||◌, ℕ, zero, suc, Bool, true, false, not, nat_lt, cond, if◌then◌else◌, List, [], ◌∷◌, ◌++◌, length, Option, Some, None, refl, sym, ◌∙◌, ap, subst, arith, inl, inr, ◌⊎◌, IsTrue}
use Rattle.std.specs.Prelude.{get_or, is_none}
use Rattle.std.specs.List.{list_all, list_any}
use Rattle.std.proofs.lemmas.List.{get_or_past}
use Rattle.std.proofs.lemmas.Bool.{and_from, and_parts, cases_lt, false≢true, false_from_ne_true, lt-ltb, ltb-true}
use Rattle.crgc_ids.specs.Actor.{Actor, IsActorBelow, same_actor}
use Rattle.history_model.specs.declared.events.Event.{Event}
use Rattle.history_model.specs.declared.events.Event.TheVariants.{Seed, Tie, Wake, Take, Spawn, Send, Drop, Retire, Rest, Flush, Publish, Window, Admit, Lose, Repeat, Crash, Remove, Hand, Sweep}
use Rattle.history_model.specs.Cluster.{births, is_born, newborn}
use Rattle.history_model.specs.Legal.{checks, refusal}
use Rattle.history_model.specs.Messages.{is_lose, is_repeat}
use Rattle.history_model.specs.State.{is_busy, is_root, is_up}
use Rattle.history_model.specs.Tally.{tally}
use Rattle.history_model.proofs.AccountsBirths.{born-grows, newborn-born}
use Rattle.history_model.proofs.Basics.{eqb-refl, first_broken-none, same_actor-equal}
use Rattle.fault_plan.specs.Rows.{Planned, crash_of}
use Rattle.script_reader.specs.Valid.{Scripted}
use Rattle.run_model.specs.Doing.{cluster_of, row_of}
use Rattle.run_model.specs.Planned.{begun, crash_due, ended, ended_on, has_row, is_possible, is_rest, is_rest_on, is_wake_of, next_wake, node_if, wakes_left, wakes_of}
use Rattle.run_model.specs.Round.{is_of_round}
use Rattle.run_model.proofs.ActsLegal.{none-broken}
use Rattle.run_model.proofs.LowestActors.{find-lowest, find-nobody}
use Rattle.script_progress.specs.Used.{ArePassed, HasRoom, NodeUsed, Used, Wakes, ended_in, unused, wakes_in}
use Rattle.script_progress.specs.Standing.{IsPlanAt, IsProgressAt, can_wake, is_of_no_plan}
use Rattle.script_progress.proofs.Plans.{less, plan-loses, plan-repeats}

-- ---- links

pub progress-loses : (s : Scripted) (h : List Event) (f d k : ℕ) (p : Used) (plan : Planned) → IsProgressAt s h p → plan ≡ (let old : Planned = p.plan in record old { losses = less f d k old.losses }) → IsProgressAt s (Lose f d k ∷ h) (record p { plan = plan })
progress-loses s h f d k p plan stands e = record {
  turns = stands.turns;
  begun = stands.begun;
  ended = stands.ended;
  nodes = stands.nodes;
  ended_on = stands.ended_on;
  wakes = stands.wakes;
  passed = stands.passed;
  plan = subst (IsPlanAt s (Lose f d k ∷ h)) (sym e) (plan-loses s h f d k p.plan stands.plan);
}

pub progress-repeats : (s : Scripted) (h : List Event) (f d k : ℕ) (p : Used) (plan : Planned) → IsProgressAt s h p → plan ≡ (let old : Planned = p.plan in record old { repeats = less f d k old.repeats }) → IsProgressAt s (Repeat f d k ∷ h) (record p { plan = plan })
progress-repeats s h f d k p plan stands e = record {
  turns = stands.turns;
  begun = stands.begun;
  ended = stands.ended;
  nodes = stands.nodes;
  ended_on = stands.ended_on;
  wakes = stands.wakes;
  passed = stands.passed;
  plan = subst (IsPlanAt s (Repeat f d k ∷ h)) (sym e) (plan-repeats s h f d k p.plan stands.plan);
}

-- ---- wakes

-- with fewer wakes nobody can wake who could not
fewer : (w v : ℕ) (b : Bool) → v ≤ w → (nat_lt 0 w && b) ≡ false → (nat_lt 0 v && b) ≡ false
fewer w zero b below none = refl
fewer zero (suc v) b below none = absurd (omega (arith, below))
fewer (suc w) (suc v) b below none = ap (λ x. x && b) (lt-ltb 0 (suc v) (omega arith) ∙ sym (lt-ltb 0 (suc w) (omega arith))) ∙ none

one_less : (v : Bool) (x w t : ℕ) → x + (if v then 1 else 0) ≡ w - t → x ≡ w - (if v then t + 1 else t)
one_less true x w t e = omega (arith, e)
one_less false x w t e = omega (arith, e)

no_more : (v : Bool) (w t : ℕ) → w - (if v then t + 1 else t) ≤ w - t
no_more true w t = omega arith
no_more false w t = omega arith

pub progress-wakes : (s : Scripted) (h : List Event) (a : Actor) (old new : Used) → IsProgressAt s h old → Wakes old new a → IsProgressAt s (Wake a ∷ h) new
progress-wakes s h a old new stands change = record {
  turns = ap (λ (p : Used). p.turns) change.others ∙ stands.turns;
  begun = ap (λ (p : Used). p.begun) change.others ∙ ap (λ n. n + 1) stands.begun;
  ended = ap (λ (p : Used). p.ended) change.others ∙ stands.ended;
  nodes = change.count ∙ stands.nodes;
  ended_on = λ n. change.ended n ∙ stands.ended_on n;
  wakes = λ b. one_less (same_actor a b) (wakes_in new b) (wakes_of (row_of s.seeds [] b)) (tally (is_wake_of b) h) (change.wakes b ∙ stands.wakes b);
  passed = λ b below.
      fewer (wakes_left s b h) (wakes_left s b (Wake a ∷ h)) (is_root b h && is_up b.node h)
      (no_more (same_actor a b) (wakes_of (row_of s.seeds [] b)) (tally (is_wake_of b) h))
      (stands.passed b (subst (λ (p : Used). IsActorBelow b p.next) change.others below));
  plan = subst (IsPlanAt s (Wake a ∷ h)) (sym (ap (λ (p : Used). p.plan) change.others)) (record { losses = (let all = stands.plan in all.losses); repeats = (let all = stands.plan in all.repeats); crashes = (let all = stands.plan in all.crashes) });
}

-- ---- the candidate

pub progress-passes : (s : Scripted) (h : List Event) (old : Used) (next : Actor) → IsProgressAt s h old → ArePassed old next → IsProgressAt s h (record old { next = next })
progress-passes s h old next stands pass = record {
  turns = stands.turns;
  begun = stands.begun;
  ended = stands.ended;
  nodes = stands.nodes;
  ended_on = stands.ended_on;
  wakes = stands.wakes;
  passed = λ b below. elim (pass b below) [
    | inl before ↦ stands.passed b before
    | inr none ↦ ap (λ w. nat_lt 0 w && (is_root b h && is_up b.node h)) (sym (stands.wakes b) ∙ none)
  ];
  plan = stands.plan;
}

-- a root was born
pub root-born : (a : Actor) (h : List Event) → is_root a h ≡ true → IsTrue (is_born a h)
root-born a [] root = absurd (false≢true root)
root-born a (Seed n ∷ p) root =
    elim (same_actor (newborn n p) a) as (λ v. same_actor (newborn n p) a ≡ v → (if v then true else is_root a p) ≡ true → IsTrue (is_born a (Seed n ∷ p))) [
      | true ↦ λ same _. subst (λ x. IsTrue (is_born x (Seed n ∷ p))) (same_actor-equal (newborn n p) a same) (newborn-born n (Seed n) p (eqb-refl n))
      | false ↦ λ _ before. born-grows a (Seed n ∷ []) p (root-born a p before)
    ] refl root
root-born a (Retire b ∷ p) root =
    elim (same_actor b a) as (λ v. (if v then false else is_root a p) ≡ true → IsTrue (is_born a (Retire b ∷ p))) [
      | true ↦ λ none. absurd (false≢true none)
      | false ↦ λ before. born-grows a (Retire b ∷ []) p (root-born a p before)
    ] root
root-born a (e ∷ p) root = born-grows a (e ∷ []) p (root-born a p root)

pub may-wake : (s : Scripted) (h : List Event) (a : Actor) → is_root a h ≡ true → is_up a.node h ≡ true → is_busy a h ≡ false → is_possible s (Wake a) h ≡ true
may-wake s h a root up idle =
    rw (none-broken (checks (cluster_of s) (Wake a) h) (root-born a h root, (up, (root, (ap not idle, tt))))) refl

-- ---- events that use nothing

kept : (s : Scripted) (e : Event) (h : List Event) (p : Used) → begun (e ∷ h) ≡ begun h → ended (e ∷ h) ≡ ended h → ((n : ℕ) → ended_on n (e ∷ h) ≡ ended_on n h) → ((a : Actor) → wakes_left s a (e ∷ h) ≡ wakes_left s a h)
    → ((a : Actor) → can_wake s a h ≡ false → can_wake s a (e ∷ h) ≡ false) → ((f d k : ℕ) → list_any (is_lose f d k) (e ∷ h) ≡ list_any (is_lose f d k) h) → ((f d k : ℕ) → list_any (is_repeat f d k) (e ∷ h) ≡ list_any (is_repeat f d k) h)
    → IsProgressAt s h p → IsProgressAt s (e ∷ h) p
kept s e h p turns ends ends_on wakes can loses repeats stands = (
    let plan = stands.plan in
    let all : Planned = s.plan in
    record {
      turns = stands.turns;
      begun = stands.begun ∙ sym turns;
      ended = stands.ended ∙ sym ends;
      nodes = stands.nodes;
      ended_on = λ n. stands.ended_on n ∙ sym (ends_on n);
      wakes = λ a. stands.wakes a ∙ sym (wakes a);
      passed = λ a below. can a (stands.passed a below);
      plan = record {
        losses = λ f d k. plan.losses f d k ∙ ap (λ v. has_row f d k all.losses && not v) (sym (loses f d k));
        repeats = λ f d k. plan.repeats f d k ∙ ap (λ v. has_row f d k all.repeats && not v) (sym (repeats f d k));
        crashes = plan.crashes;
      };
    })

round-event : (s : Scripted) (e : Event) (h : List Event) (p : Used) → is_of_round e ≡ true → IsProgressAt s h p → IsProgressAt s (e ∷ h) p
round-event s (Remove m n) h p of stands = kept s (Remove m n) h p refl refl (λ n. refl) (λ a. refl) (λ a e. e) (λ f d k. refl) (λ f d k. refl) stands
round-event s (Window m n) h p of stands = kept s (Window m n) h p refl refl (λ n. refl) (λ a. refl) (λ a e. e) (λ f d k. refl) (λ f d k. refl) stands
round-event s (Flush b) h p of stands = kept s (Flush b) h p refl refl (λ n. refl) (λ a. refl) (λ a e. e) (λ f d k. refl) (λ f d k. refl) stands
round-event s (Publish m) h p of stands = kept s (Publish m) h p refl refl (λ n. refl) (λ a. refl) (λ a e. e) (λ f d k. refl) (λ f d k. refl) stands
round-event s (Hand m o k) h p of stands = kept s (Hand m o k) h p refl refl (λ n. refl) (λ a. refl) (λ a e. e) (λ f d k. refl) (λ f d k. refl) stands
round-event s (Sweep m) h p of stands = kept s (Sweep m) h p refl refl (λ n. refl) (λ a. refl) (λ a e. e) (λ f d k. refl) (λ f d k. refl) stands
round-event s e h p of stands = absurd (false≢true of)

pub round-events : (s : Scripted) (q h : List Event) (p : Used) → list_all is_of_round q ≡ true → IsProgressAt s h p → IsProgressAt s (q ++ h) p
round-events s [] h p of stands = stands
round-events s (e ∷ q) h p of stands = (let both = and_parts (is_of_round e) (list_all is_of_round q) of in round-event s e (q ++ h) p both.0 (round-events s q h p both.1 stands))

-- ---- the next wake

none-of : {A : Type 0} (o : Option A) → is_none o ≡ true → o ≡ None
none-of None e = refl
none-of (Some x) e = absurd (false≢true e)

-- who may wake
wake-rules : (s : Scripted) (h : List Event) (b : Actor) → is_possible s (Wake b) h ≡ true → (is_born b h ≡ true) × (is_up b.node h ≡ true) × (is_root b h ≡ true)
wake-rules s h b possible = (let rules = first_broken-none (checks (cluster_of s) (Wake b) h) (none-of (refusal (cluster_of s) (Wake b) h) possible) in (rules.0, rules.1.0, rules.1.1.0))

-- who cannot wake is not the next
cannot : (s : Scripted) (h : List Event) (b : Actor) → can_wake s b h ≡ false → (nat_lt 0 (wakes_left s b h) && is_possible s (Wake b) h) ≡ false
cannot s h b none = false_from_ne_true (nat_lt 0 (wakes_left s b h) && is_possible s (Wake b) h) (λ both.
    let parts = and_parts (nat_lt 0 (wakes_left s b h)) (is_possible s (Wake b) h) both in
    let rules = wake-rules s h b parts.1 in
    false≢true (sym none ∙ and_from (nat_lt 0 (wakes_left s b h)) (is_root b h && is_up b.node h) parts.0 (and_from (is_root b h) (is_up b.node h) rules.2 rules.1)))

-- who has a wake left is of the cluster
seed-node : (p : Used) (a : Actor) → 0 < wakes_in p a → a.node < length p.nodes
seed-node p a left = elim (cases_lt a.node (length p.nodes)) [
  | inl below ↦ below
  | inr past ↦ (let none = ap (λ (n : NodeUsed). get_or n.wakes a.serial 0) (get_or_past p.nodes a.node unused past) in absurd (omega (arith, left, none)))
]

pub next-some : (s : Scripted) (h : List Event) (p : Used) (a : Actor) → IsProgressAt s h p → a ≡ p.next → 0 < wakes_in p a → is_possible s (Wake a) h ≡ true → next_wake s h ≡ Some a
next-some s h p a stands is left possible =
    let rules = wake-rules s h a possible in
    find-lowest (λ b. nat_lt 0 (wakes_left s b h) && is_possible s (Wake b) h) s h a (subst (λ n. a.node < n) stands.nodes (seed-node p a left)) rules.0
    (and_from (nat_lt 0 (wakes_left s a h)) (is_possible s (Wake a) h) (lt-ltb 0 (wakes_left s a h) (subst (λ n. 0 < n) (stands.wakes a) left)) possible)
    (λ b below. cannot s h b (stands.passed b (subst (IsActorBelow b) is below)))

pub next-none : (s : Scripted) (h : List Event) (p : Used) → IsProgressAt s h p → length p.nodes ≤ (let n = p.next in n.node) → next_wake s h ≡ None
next-none s h p stands past =
    find-nobody (λ b. nat_lt 0 (wakes_left s b h) && is_possible s (Wake b) h) s h
    (λ b below. cannot s h b (stands.passed b (inl (let same = stands.nodes in omega (arith, past, below, same)))))

-- ---- numbers

tally-length : {X : Type 0} (test : X → Bool) (xs : List X) → tally test xs ≤ length xs
tally-length test [] = omega arith
tally-length test (x ∷ xs) = (let rest = tally-length test xs in elim (test x) as (λ v. (if v then tally test xs + 1 else tally test xs) ≤ length (x ∷ xs)) [ true ↦ omega (arith, rest) | false ↦ omega (arith, rest) ])

pub has-room : (s : Scripted) (h : List Event) (p : Used) (n : ℕ) → IsProgressAt s h p → length h + 1 < 2 ^ 32 → HasRoom p n
has-room s h p n stands short = record {
  ended = (let same = stands.ended in let few = tally-length is_rest h in omega (arith, same, few, short));
  there = (let same = stands.ended_on n in let few = tally-length (is_rest_on n) h in omega (arith, same, few, short));
}

-- ---- the next crash

pub due-next : (s : Scripted) (h : List Event) (p : Used) (a : Actor) (n after : ℕ) → a.node ≡ n → IsProgressAt s h p → crash_of n (let plan = p.plan in plan.crashes) ≡ Some after
    → (k : ℕ) → k ≡ ended_in p n → crash_due s (Rest a ∷ h) ≡ (if after == k + 1 then Some a.node else None)
due-next s h p a n after on stands row k is =
    let plan = stands.plan in
    let all : Planned = s.plan in
    let rows : crash_of a.node all.crashes ≡ Some after = ap (crash_of a.node) (sym plan.crashes) ∙ ap (λ m. crash_of m (let plan = p.plan in plan.crashes)) on ∙ row in
    let turns : ended_on a.node (Rest a ∷ h) ≡ k + 1 =
    ap (λ v. if v then ended_on a.node h + 1 else ended_on a.node h) (eqb-refl a.node)
    ∙ ap (λ m. m + 1) (sym (stands.ended_on a.node) ∙ ap (ended_in p) on ∙ sym is) in
    λ i. node_if (rows i) a.node (turns i)
