-- The collectors of a cluster go with its history: at its start, as one of them changes, and as none does.
use Rattle.std.proofs.Common.{◌≡◌, ◌≢◌, ◌<◌, ◌≤◌, ℕ, zero, suc, true, false, List, [], ◌∷◌, ◌++◌, Err, Ok, Result, Some, drop, get_or, get_or-set_other, get_or-set_same, length, length-set, set, refl, sym, ap, subst, ◌∙◌, inl, inr, arith}
use Rattle.std.proofs.lemmas.Bool.{cases_eq, false≢true, ltb-true, ne_eqb}
use Rattle.std.proofs.lemmas.Option.{get_or_from_slice_get, slice_get-get_or, slice_get_within}
use Rattle.std.specs.Prelude.{IfOk, OnOk, slice_get}
use Rattle.history_model.specs.declared.events.Event.{Event}
use Rattle.history_model.specs.declared.events.Event.TheVariants.{Hand, Sweep}
use Rattle.history_model.specs.declared.records.Verdict.{Verdict}
use Rattle.history_model.specs.Cluster.{Cluster}
use Rattle.history_model.specs.Legal.{IsLegal}
use Rattle.history_model.specs.State.{is_up}
use Rattle.history_model.specs.Streams.{stream}
use Rattle.history_model.specs.Sweeps.{IsVerdict}
use Rattle.history_model.proofs.AccountsGrowth.{up-before}
use Rattle.history_model.proofs.Basics.{legal-kept}
use Rattle.bulletin_streams.specs.Standing.{IsWithinLimits}
use Rattle.bulletin_streams.proofs.BoundLemmas.{stream-short}
use Rattle.collector.specs.Collected.{Collected, IsCollectorAt, has_number}
use Rattle.collector.specs.Following.{is_own}
use Rattle.collector.specs.Taking.{IsOfStreams, IsTaken, Takes}
use Rattle.collector.proofs.FollowLemmas.{follows-again, follows-hand, follows-others}
use Rattle.collector.proofs.VerdictLemmas.{follows-compact, follows-sweep, verdict-at}
use Rattle.node_collectors.specs.Standing.{AreCollectorsAt, SweepsOut, is_of_collector}

-- ---- the start

-- what is so of each item is so with one item more, where it is so of that one
pub last-too : {X : Type 0} (P : ℕ → X → Type 0) (xs : List X) (x : X) → ((m : ℕ) (y : X) → slice_get xs m ≡ Some y → P m y) → P (length xs) x
    → (m : ℕ) (y : X) → slice_get (xs ++ x ∷ []) m ≡ Some y → P m y
last-too P [] x before here zero y is = (let same : x ≡ y = cc in subst (P zero) same here)
last-too P [] x before here (suc m) y is = absurd (cc)
last-too P (z ∷ xs) x before here zero y is = before zero y is
last-too P (z ∷ xs) x before here (suc m) y is = last-too (λ k. P (suc k)) xs x (λ k w found. before (suc k) w found) here m y is

-- ---- events

-- one collector goes with its own event, and the others stay
pub changes-one : (cl : Cluster) (h : List Event) (e : Event) (n : ℕ) (c : Collected) (old : List Collected) → AreCollectorsAt cl h old
    → ((m : ℕ) → m ≢ n → is_own m e ≡ false) → IsCollectorAt cl (e ∷ h) n c → AreCollectorsAt cl (e ∷ h) (set old n c)
changes-one cl h e n c old at others here = record {
  count = length-set old n c ∙ at.count;
  each = λ m d is up. (
      let inside = slice_get_within (set old n c) m d is in
      let long = length-set old n c in
      let value : get_or (set old n c) m d ≡ d = get_or_from_slice_get (set old n c) m d d is in
      elim (cases_eq m n) [
        | inl same ↦ (
            let stands : c ≡ d = sym (get_or-set_same old n c d (omega arith)) ∙ ap (λ k. get_or (set old n c) k d) (sym same) ∙ value in
            subst (λ k. IsCollectorAt cl (e ∷ h) k d) (sym same) (subst (IsCollectorAt cl (e ∷ h) n) stands here)
            )
        | inr apart ↦ (
            let before : slice_get old m ≡ Some d = slice_get-get_or old m d (omega arith) ∙ ap (λ x. Some x) (sym (get_or-set_other old n m c d apart) ∙ value) in
            follows-others cl h m d e (others m apart) (at.each m d before (up-before m (e ∷ []) h up))
            )
      ]
      );
}

-- an event that is none of a collector leaves all of them
pub changes-none : (cl : Cluster) (h : List Event) (e : Event) (cs : List Collected) → is_of_collector e ≡ false → AreCollectorsAt cl h cs
    → AreCollectorsAt cl (e ∷ h) cs
changes-none cl h e cs other at = record {
  count = at.count;
  each = λ m c is up. follows-others cl h m c e (of-none m e other) (at.each m c is (up-before m (e ∷ []) h up));
}
  where
    of-none : (m : ℕ) (e : Event) → is_of_collector e ≡ false → is_own m e ≡ false
    of-none m (Hand y o k) other = absurd (false≢true (sym other))
    of-none m (Sweep n) other = absurd (false≢true (sym other))
    of-none m e other = refl

-- ---- answers

-- what follows from what is so of an answer is so of it
pub if_ok-then : {X E : Type 0} (P Q : X → Type 0) (r : Result X E) → ((x : X) → P x → Q x) → IfOk r P → IfOk r Q
if_ok-then P Q (Ok x) then is = then x is
if_ok-then P Q (Err e) then is = tt

pub if_ok-on : {X E : Type 0} (P : X → Type 0) (Q : Type 0) (r : Result X E) → ((x : X) → P x → Q) → IfOk r P → OnOk r Q
if_ok-on P Q (Ok x) then is = then x is
if_ok-on P Q (Err e) then is = tt

-- ---- one collector among all

module _ (cl : Cluster) (h : List Event) (old items : List Collected) (i n : ℕ) (same : items ≡ old) (place : i ≡ n) (at : AreCollectorsAt cl h old) where
  -- what is read at the place of a node that is up is its collector
  pub row-at : (was : Collected) → n < cl.nodes → is_up n h ≡ true → was ≡ get_or items i was → IsCollectorAt cl h n was
  row-at was inside up is = (
      let count = at.count in
      let there : slice_get old n ≡ Some (get_or old n was) = slice_get-get_or old n was (omega arith) in
      at.each n was (there ∙ ap (λ x. Some x) (sym (is ∙ (λ j. get_or (same j) (place j) was)))) up
      )

  -- and so it is with what is written there
  pub row-changes : (e : Event) (c : Collected) → ((m : ℕ) → m ≢ n → is_own m e ≡ false) → IsCollectorAt cl (e ∷ h) n c → AreCollectorsAt cl (e ∷ h) (set items i c)
  row-changes e c others here = subst (AreCollectorsAt cl (e ∷ h)) (λ j. set (sym same j) (sym place j) c) (changes-one cl h e n c old at others here)

-- ---- hands

pub split-last : (h : List Event) (e : Event) → slice_get h 0 ≡ Some e → e ∷ drop 1 h ≡ h
split-last [] e is = absurd (cc)
split-last (x ∷ h) e is = (let same : x ≡ e = cc in ap (λ y. y ∷ h) (sym same))

-- a hand that is legal is of two nodes of the cluster, and the one to which it goes was up before
pub hand-inside : (cl : Cluster) (h : List Event) (m o k : ℕ) → slice_get h 0 ≡ Some (Hand m o k) → IsLegal cl h
    → (m < cl.nodes) × (o < cl.nodes) × (is_up m (drop 1 h) ≡ true)
hand-inside cl h m o k last legal =
    let kept = legal-kept cl (Hand m o k) (drop 1 h) (subst (IsLegal cl) (sym (split-last h (Hand m o k) last)) legal) in
    (ltb-true m cl.nodes kept.0, ltb-true o cl.nodes kept.1.0, kept.1.1.0)

-- a stream of a history within its limits has so few bulletins that the number of a hand is below 1,000,000
pub hand-short : (cl : Cluster) (h : List Event) (m o k : ℕ) → slice_get h 0 ≡ Some (Hand m o k) → IsWithinLimits cl h → k < 1000000
hand-short cl h m o k last within =
    let p = drop 1 h in
    let whole = split-last h (Hand m o k) last in
    let kept = legal-kept cl (Hand m o k) p (subst (IsLegal cl) (sym whole) within.legal) in
    let number = ltb-true k (length (stream cl o p)) kept.1.1.1.0 in
    let short = stream-short cl o p in
    let events : length (Hand m o k ∷ p) ≤ 1000000 = subst (λ q. length q ≤ 1000000) (sym whole) within.events in
    omega arith

-- the collectors go with a hand, where that of its node took the bytes
pub hands : (cl : Cluster) (h : List Event) (m o k : ℕ) (old items : List Collected) (i : ℕ) (was new : Collected) (bytes taken_bytes : List ℕ)
    → slice_get h 0 ≡ Some (Hand m o k) → IsLegal cl h → AreCollectorsAt cl (drop 1 h) old → items ≡ old → i ≡ m → was ≡ get_or items i was
    → IsOfStreams (λ x. stream cl x h) o k bytes → taken_bytes ≡ bytes → Takes o k taken_bytes was new → IsTaken o k new
    → AreCollectorsAt cl h (set items i new)
hands cl h m o k old items i was new bytes taken_bytes last legal at same place is told read takes taken =
    let p = drop 1 h in
    let whole = split-last h (Hand m o k) last in
    let inside = hand-inside cl h m o k last legal in
    let here = row-at cl p old items i m same place at was inside.0 inside.2 is in
    let before : IsOfStreams (λ x. stream cl x p) o k bytes = subst (λ q. IsOfStreams (λ x. stream cl x q) o k bytes) (sym whole) told in
    let follows = follows-hand cl p m o k bytes was new before (subst (λ b. Takes o k b was new) read takes) taken here in
    subst (λ q. AreCollectorsAt cl q (set items i new)) whole
    (row-changes cl p old items i m same place at (Hand m o k) new (λ y apart. ne_eqb m y (λ e. apart (sym e))) follows)

-- they stay where they are, where the collector of its node has the bulletin
pub hands-again : (cl : Cluster) (h : List Event) (m o k : ℕ) (old items : List Collected) (i : ℕ) (was : Collected)
    → slice_get h 0 ≡ Some (Hand m o k) → AreCollectorsAt cl (drop 1 h) old → items ≡ old → i ≡ m → was ≡ get_or items i was
    → has_number was o k ≡ true → AreCollectorsAt cl h old
hands-again cl h m o k old items i was last at same place is there =
    let p = drop 1 h in
    let event = Hand m o k in
    subst (λ q. AreCollectorsAt cl q old) (split-last h event last) (record {
      count = at.count;
      each = λ y c found up. (let before = at.each y c found (up-before y (event ∷ []) p up) in
          elim (cases_eq y m) [
            | inl own ↦ (
                let one : c ≡ was = sym (get_or_from_slice_get old y c was found) ∙ (λ j. get_or old (own j) was) ∙ sym (is ∙ (λ j. get_or (same j) (place j) was)) in
                let has : has_number c o k ≡ true = ap (λ (d : Collected). has_number d o k) one ∙ there in
                subst (λ n. IsCollectorAt cl (event ∷ p) n c) (sym own) (follows-again cl p m o k c has (subst (λ n. IsCollectorAt cl p n c) own before))
                )
            | inr apart ↦ follows-others cl p y c event (ne_eqb m y (λ e. apart (sym e))) before
          ]);
    })

-- ---- sweeps

module _ (cl : Cluster) (h : List Event) (n : ℕ) (was new : Collected) (v : Verdict) (legal : IsLegal cl h) (at : IsCollectorAt cl h n was) (sweeps : SweepsOut was new v) where
  pub swept-verdict : IsVerdict cl n h v
  swept-verdict = verdict-at cl h n was sweeps.0 v legal at sweeps.1

  pub swept-at : IsCollectorAt cl (Sweep n ∷ h) n new
  swept-at = follows-compact cl (Sweep n ∷ h) n sweeps.0 new sweeps.2 (follows-sweep cl h n was sweeps.0 v legal at sweeps.1)
