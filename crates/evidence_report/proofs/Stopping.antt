-- In a legal history the sweeps of a node stop each of its stopped actors once.
use Rattle.std.proofs.Common.{◌≡◌, ◌<◌, ◌≤◌, ◌+◌, ◌==◌, ◌&&◌, ◌||◌, ℕ, Bool, true, false, cond, not, List, [], ◌∷◌, length, map, refl, sym, ◌∙◌, ap, subst, inl, inr, arith}
use Rattle.std.proofs.lemmas.Bool.{and_from, and_parts, eq-eqb, eqb-true, false≢true}
use Rattle.std.proofs.lemmas.List.FromFn.{length-map-range_with_len, map-range_with_len_more}
use Rattle.std.specs.List.{AllByRecursion, filter, range_with_len}
use Rattle.crgc_ids.specs.Actor.{Actor, IsActorBelow}
use Rattle.crgc_ids.specs.Members.{IsAmong}
use Rattle.crgc_ids.specs.Rising.{IsRising}
use Rattle.crgc_ids.proofs.ActorLaws.{IsActorBelow-apart, IsActorBelow-trans}
use Rattle.crgc_ids.proofs.MembersLaws.{IsAmong-filter, IsAmong-from_filter}
use Rattle.crgc_ids.proofs.RisingLaws.{IsRising-filter, IsRising-range, rising-same}
use Rattle.history_model.specs.declared.events.Event.{Event}
use Rattle.history_model.specs.declared.events.Event.TheVariants.{Sweep}
use Rattle.history_model.specs.Cluster.{Cluster, births, is_birth_on, newborn}
use Rattle.history_model.specs.Graph.{holds_actor}
use Rattle.history_model.specs.Legal.{IsLegal}
use Rattle.history_model.specs.Live.{actors_of}
use Rattle.history_model.specs.Sweeps.{dead_at, is_stopped, is_swept, stopped_by}
use Rattle.history_model.specs.Tally.{tally}
use Rattle.history_model.proofs.AccountsBirths.{newborn-not_born}
use Rattle.history_model.proofs.FoldSumsKnown.{holds-among}
use Rattle.history_model.proofs.FoldSumsRising.{stopped-rise}
use Rattle.history_model.proofs.Lists.{tally-append, tally-none}
use Rattle.history_model.proofs.LiveCounts.{actors_of-born}
use Rattle.history_model.proofs.Stopped.{dead_at-quiet, stopped-quiescent}
use Rattle.journal_model.specs.Report.{stopped_on}

-- ---- tallies

module _ {X : Type 0} where
  -- what passes one of two tests passes the second, or the first alone
  pub tally-either : (s t : X → Bool) (xs : List X) → tally (λ x. t x || s x) xs ≡ tally s xs + tally (λ x. t x && not (s x)) xs
  tally-either s t [] = refl
  tally-either s t (x ∷ xs) =
      let rest = tally-either s t xs in
      let Step : Bool → Bool → Type 0 = λ v w. cond (w || v) (tally (λ y. t y || s y) xs + 1) (tally (λ y. t y || s y) xs)
      ≡ cond v (tally s xs + 1) (tally s xs) + cond (w && not v) (tally (λ y. t y && not (s y)) xs + 1) (tally (λ y. t y && not (s y)) xs) in
      elim (t x) as (λ w. Step (s x) w) [
        | true ↦ elim (s x) as (λ v. Step v true) [ true ↦ omega (arith, rest) | false ↦ omega (arith, rest) ]
        | false ↦ elim (s x) as (λ v. Step v false) [ true ↦ omega (arith, rest) | false ↦ omega (arith, rest) ]
      ]

  -- a tally is the length of what passes
  pub tally-length : (test : X → Bool) (xs : List X) → tally test xs ≡ length (filter test xs)
  tally-length test [] = refl
  tally-length test (x ∷ xs) =
      let rest = tally-length test xs in
      elim (test x) as (λ v. cond v (tally test xs + 1) (tally test xs) ≡ length (cond v (x ∷ filter test xs) (filter test xs))) [
        | true ↦ omega (arith, rest)
        | false ↦ rest
      ]

  -- no more pass than there are
  pub tally-most : (test : X → Bool) (xs : List X) → tally test xs ≤ length xs
  tally-most test [] = omega arith
  tally-most test (x ∷ xs) =
      let rest = tally-most test xs in
      elim (test x) as (λ v. cond v (tally test xs + 1) (tally test xs) ≤ length (x ∷ xs)) [ true ↦ omega (arith, rest) | false ↦ omega (arith, rest) ]

-- ---- the actors of a node

abbrev at : ℕ → ℕ → Actor
at n s = record { node = n; serial = s }

actors-on : (n : ℕ) (h : List Event) (a : Actor) → IsAmong a (actors_of n h) → a.node ≡ n
actors-on n h a m = on (range_with_len 0 (births n h)) m
  where
    on : (xs : List ℕ) → IsAmong a (map (at n) xs) → a.node ≡ n
    on [] none = absurd none
    on (x ∷ xs) (inl e) = ap (λ b. b.node) e
    on (x ∷ xs) (inr later) = on xs later

-- they rise
actors-rise : (n : ℕ) (h : List Event) → IsRising IsActorBelow (actors_of n h)
actors-rise n h = rise (range_with_len 0 (births n h)) (IsRising-range 0 (births n h))
  where
    above : (s : ℕ) (xs : List ℕ) → AllByRecursion (λ x. s < x) xs → AllByRecursion (IsActorBelow (at n s)) (map (at n) xs)
    above s [] all = tt
    above s (x ∷ xs) all = (inr (refl, all.0), above s xs all.1)

    rise : (xs : List ℕ) → IsRising ◌<◌ xs → IsRising IsActorBelow (map (at n) xs)
    rise [] r = tt
    rise (x ∷ xs) r = (above x xs r.0, rise xs r.1)

-- with one more event they are as many, or one more, and a test that the newborn fails counts as many
births-step : (n : ℕ) (e : Event) (p : List Event) (test : Actor → Bool) → test (newborn n p) ≡ false → tally test (actors_of n (e ∷ p)) ≡ tally test (actors_of n p)
births-step n e p test fails =
    let k = births n p in
    let none : tally test (at n k ∷ []) ≡ 0 = rw fails refl in
    let same : 0 + k ≡ k = omega arith in
    let more : tally test (map (at n) (range_with_len 0 (k + 1))) ≡ tally test (map (at n) (range_with_len 0 k)) =
    ap (tally test) (map-range_with_len_more (at n) 0 k k same) ∙ tally-append test (map (at n) (range_with_len 0 k)) (at n k ∷ []) ∙ omega (arith, none) in
    elim (is_birth_on n e) as (λ v. tally test (map (at n) (range_with_len 0 (cond v (k + 1) k))) ≡ tally test (map (at n) (range_with_len 0 k))) [ true ↦ more | false ↦ refl ]

-- ---- stops

-- who is not born yet was not stopped
newborn-not_stopped : (cl : Cluster) (n : ℕ) (p : List Event) → IsLegal cl p → is_stopped cl (newborn n p) p ≡ false
newborn-not_stopped cl n p legal =
    let child = newborn n p in
    let split = elim (is_stopped cl child p) as (λ v. is_stopped cl child p ≡ v → v ≡ false) [
      | true ↦ λ stopped. (
          let shown = stopped-quiescent cl p child legal stopped in
          absurd (false≢true (sym (newborn-not_born n p) ∙ shown.2.born child shown.1)))
      | false ↦ λ _. refl
    ] in
    split refl

-- those of its node that a sweep finds, and that were not stopped before, are those that it stops
swept-stopped : (cl : Cluster) (m : ℕ) (p : List Event) → IsLegal cl p → filter (λ a. is_swept cl m p a && not (is_stopped cl a p)) (actors_of m p) ≡ stopped_by cl m p
swept-stopped cl m p legal =
    let found : Actor → Bool = λ a. is_swept cl m p a && not (is_stopped cl a p) in
    let stops : Actor → Bool = λ a. (a.node == m) && not (is_stopped cl a p) in
    rising-same IsActorBelow IsActorBelow-apart IsActorBelow-trans (filter found (actors_of m p)) (stopped_by cl m p)
    (IsRising-filter IsActorBelow found (actors_of m p) (actors-rise m p)) (stopped-rise cl m p)
    (λ a among.
    let both = and_parts (is_swept cl m p a) (not (is_stopped cl a p)) (IsAmong-from_filter found a (actors_of m p) among).1 in
    let swept = and_parts (a.node == m) (holds_actor (dead_at cl m p) a) both.0 in
    IsAmong-filter stops a (dead_at cl m p) ((holds-among (dead_at cl m p) a).0 swept.1) (and_from (a.node == m) (not (is_stopped cl a p)) swept.0 both.1))
    (λ a among.
    let dead = IsAmong-from_filter stops a (dead_at cl m p) among in
    let both = and_parts (a.node == m) (not (is_stopped cl a p)) dead.1 in
    let here = actors_of-born p a ((dead_at-quiet cl m p legal).born a dead.0) in
    let there : IsAmong a (actors_of m p) = subst (λ n. IsAmong a (actors_of n p)) (eqb-true a.node m both.0) here in
    let swept = and_from (a.node == m) (holds_actor (dead_at cl m p) a) both.0 ((holds-among (dead_at cl m p) a).1 dead.0) in
    IsAmong-filter found a (actors_of m p) there (and_from (is_swept cl m p a) (not (is_stopped cl a p)) swept both.1))

-- with a sweep of m, those that it stops are stopped on m, and nobody else
sweep-step : (cl : Cluster) (m n : ℕ) (p : List Event) → IsLegal cl p
    → tally (λ a. is_stopped cl a (Sweep m ∷ p)) (actors_of n p) ≡ tally (λ a. is_stopped cl a p) (actors_of n p) + cond (m == n) (length (stopped_by cl m p)) 0
sweep-step cl m n p legal =
    let found : Actor → Bool = λ a. is_swept cl m p a && not (is_stopped cl a p) in
    let split = elim (m == n) as (λ v. (m == n) ≡ v → tally found (actors_of n p) ≡ cond v (length (stopped_by cl m p)) 0) [
      | true ↦ λ same. (
          let here : tally found (actors_of m p) ≡ length (stopped_by cl m p) = tally-length found (actors_of m p) ∙ ap length (swept-stopped cl m p legal) in
          subst (λ k. tally found (actors_of k p) ≡ length (stopped_by cl m p)) (eqb-true m n same) here)
      | false ↦ λ differ. tally-none found (actors_of n p) (λ a among.
          let other : (a.node == m) ≡ false = away a.node m n (actors-on n p a among) differ in
          rw other refl)
    ] in
    tally-either (λ a. is_stopped cl a p) (λ a. is_swept cl m p a) (actors_of n p) ∙ ap (λ k. tally (λ a. is_stopped cl a p) (actors_of n p) + k) (split refl)
  where
    away : (k m n : ℕ) → k ≡ n → (m == n) ≡ false → (k == m) ≡ false
    away k m n same differ =
        let split = elim (k == m) as (λ v. (k == m) ≡ v → v ≡ false) [
          | true ↦ λ t. absurd (false≢true (sym differ ∙ eq-eqb m n (sym (eqb-true k m t) ∙ same)))
          | false ↦ λ _. refl
        ] in
        split refl

-- each actor is stopped once
pub stopped-once : (cl : Cluster) (h : List Event) (n : ℕ) → IsLegal cl h → stopped_on cl n h ≡ tally (λ a. is_stopped cl a h) (actors_of n h)
stopped-once cl [] n legal = refl
stopped-once cl (Sweep m ∷ p) n legal =
    ap (λ k. k + cond (m == n) (length (stopped_by cl m p)) 0) (stopped-once cl p n legal.1) ∙ sym (sweep-step cl m n p legal.1)
stopped-once cl (e ∷ p) n legal =
    stopped-once cl p n legal.1 ∙ sym (births-step n e p (λ a. is_stopped cl a p) (newborn-not_stopped cl n p legal.1))

-- no more actors of a node are stopped than were born
pub stopped-born : (cl : Cluster) (h : List Event) (n : ℕ) → IsLegal cl h → stopped_on cl n h ≤ births n h
stopped-born cl h n legal =
    omega (arith, stopped-once cl h n legal, tally-most (λ a. is_stopped cl a h) (actors_of n h), length-map-range_with_len (at n) 0 (births n h))
