-- The verdict that fits is the verdict of the sweep: who has claimed a node knows what was handed there.
use Rattle.std.proofs.Common.{◌≡◌, ◌==◌, ◌&&◌, ◌<◌, ◌≤◌, ℕ, zero, suc, Bool, true, false, List, [], ◌∷◌, length, take, slice_get, Option, Some, None, refl, sym, ◌∙◌, ap, subst, arith, cond, length-take, inl, inr}
use Rattle.std.proofs.Math.Nat.{eq-or-lt_of_le}
use Rattle.std.proofs.lemmas.List.{length-take-le}
use Rattle.std.proofs.lemmas.Bool.{and_parts, eqb-true, false≢true}
use Rattle.std.proofs.lemmas.Bool.Decides.{Decides-eqb}
use Rattle.std.proofs.lemmas.Option.{none-some, same_Some, slice_get_within}
use Rattle.turn_lock.specs.History.{calls_of}
use Rattle.history_model.specs.declared.events.Event.{Event}
use Rattle.history_model.specs.declared.records.Verdict.{Verdict}
use Rattle.history_model.specs.Cluster.{Cluster}
use Rattle.history_model.specs.Compaction.{AreOwnStops, nobody}
use Rattle.history_model.specs.Folds.{cut_at, folded, run_of, was_handed}
use Rattle.history_model.specs.Legal.{IsLegal}
use Rattle.history_model.specs.Streams.{Notice, stream}
use Rattle.history_model.specs.Sweeps.{IsVerdict}
use Rattle.history_model.proofs.CompactedSweeps.{own-verdict}
use Rattle.history_model.proofs.CompactionGrowth.{fold_to-fold}
use Rattle.history_model.proofs.LinksStreams.{cut-bounded}
use Rattle.operation_model.specs.Hands.{IsGivenFold, IsOwnVerdict, Spells, given, has_claimed, own_stopped}
use Rattle.operation_model.specs.Kept.{KeepsHands, hands_of}
use Rattle.operation_model.specs.Turns.{Calls}

-- ---- the longest run

-- each number of the run passes, and the one after it does not
run-is : (test : ℕ → Bool) (n : ℕ) → (run_of test n ≤ n) × ((k : ℕ) → k < run_of test n → test k ≡ true) × (run_of test n < n → test (run_of test n) ≡ false)
run-is test zero = (omega arith, λ k below. absurd (omega (arith, below)), λ below. absurd (omega (arith, below)))
run-is test (suc n) =
    let before = run-is test n in
    elim ((run_of test n == n) && test n) as (λ v. (run_of test n == n) && test n ≡ v
    → (cond v (suc n) (run_of test n) ≤ suc n) × ((k : ℕ) → k < cond v (suc n) (run_of test n) → test k ≡ true) × (cond v (suc n) (run_of test n) < suc n → test (cond v (suc n) (run_of test n)) ≡ false)) [
      | true ↦ λ both. (let parts = and_parts (run_of test n == n) (test n) both in (omega arith, all (eqb-true (run_of test n) n parts.0) before.1 parts.1, λ below. absurd (omega (arith, below))))
      | false ↦ λ fails. (let bound = before.0 in (omega (arith, bound), before.1, λ below. ends bound before.2 fails))
    ] refl
  where
    all : run_of test n ≡ n → ((k : ℕ) → k < run_of test n → test k ≡ true) → test n ≡ true → (k : ℕ) → k < suc n → test k ≡ true
    all full passes last k below =
        elim (eq-or-lt_of_le {n = k} {m = n} (omega (arith, below))) [ inl same ↦ subst (λ j. test j ≡ true) (sym same) last | inr less ↦ passes k (omega (arith, less, full)) ]

    ends : run_of test n ≤ n → (run_of test n < n → test (run_of test n) ≡ false) → ((run_of test n == n) && test n) ≡ false → test (run_of test n) ≡ false
    ends bound earlier fails =
        elim (run_of test n == n) as (λ v. (run_of test n == n) ≡ v → (v && test n) ≡ false → test (run_of test n) ≡ false) [
          | true ↦ λ same last. ap test (eqb-true (run_of test n) n same) ∙ last
          | false ↦ λ differ _.
              let apart : run_of test n ≡ n → ⊥ = λ same. false≢true (sym differ ∙ (Decides-eqb (run_of test n) n).1 same) in
              earlier (grind (arith, bound, apart))
        ] refl fails

-- what stands in the beginning of a list stands in the list
pub slice_get-taken : {A : Type 0} (c : ℕ) (xs : List A) (k : ℕ) (x : A) → slice_get (take c xs) k ≡ Some x → slice_get xs k ≡ Some x
slice_get-taken zero xs k x is = absurd (none-some x is)
slice_get-taken (suc c) [] k x is = absurd (none-some x is)
slice_get-taken (suc c) (y ∷ ys) zero x is = is
slice_get-taken (suc c) (y ∷ ys) (suc k) x is = slice_get-taken c ys k x is

module _ (cl : Cluster) (w : List Event) (claims : ℕ → Option ℕ) (h : Calls) (k : KeepsHands cl w claims (hands_of h)) (p n : ℕ) (claimed : has_claimed n (calls_of p h) ≡ true) where
  -- what is folded at the node is what the pass was given for it
  given-told : (o j : ℕ) (m : Notice) → slice_get (take (cut_at cl n w o) (stream cl o w)) j ≡ Some m → (bytes : List ℕ) × (given n o j (calls_of p h) ≡ Some bytes) × Spells o bytes m
  given-told o j m is =
      let within = slice_get_within (take (cut_at cl n w o) (stream cl o w)) j m is in
      let short = length-take (cut_at cl n w o) (stream cl o w) in
      let was : was_handed n o j w ≡ true = (run-is (λ i. was_handed n o i w) (length (stream cl o w))).1 j (omega (arith, within, short)) in
      let by = k.handed_by n o j was in
      let one : by.0 ≡ p = same_Some by.0 p (sym by.1 ∙ k.claimed_by p n claimed) in
      let here = subst (λ q. given n o j (calls_of q h) ≡ Some by.2.0) one by.2.1 in
      let handed = k.given_is p n o j by.2.0 here in
      let same : handed.notice ≡ m = same_Some handed.notice m (sym handed.stands ∙ slice_get-taken (cut_at cl n w o) (stream cl o w) j m is) in
      (by.2.0, here, subst (Spells o by.2.0) same handed.spells)

  given-ends : (o : ℕ) → given n o (cut_at cl n w o) (calls_of p h) ≡ None
  given-ends o =
      elim (given n o (cut_at cl n w o) (calls_of p h)) as (λ v. given n o (cut_at cl n w o) (calls_of p h) ≡ v → v ≡ None) [
        | None ↦ λ _. refl
        | Some bytes ↦ λ is.
            let handed = k.given_is p n o (cut_at cl n w o) bytes is in
            let within = slice_get_within (stream cl o w) (cut_at cl n w o) handed.notice handed.stands in
            absurd (false≢true (sym ((run-is (λ i. was_handed n o i w) (length (stream cl o w))).2 within) ∙ handed.was))
      ] refl

  given-fold : IsGivenFold n (calls_of p h) (folded cl n w)
  given-fold = record {
    told = given-told;
    ends = λ o.
        let bound = cut-bounded cl n w o in
        let same : length (take (cut_at cl n w o) (stream cl o w)) ≡ cut_at cl n w o = length-take-le (cut_at cl n w o) (stream cl o w) bound in
        ap (λ c. given n o c (calls_of p h)) same ∙ given-ends o;
  }

-- the pass that has claimed the node knows whom its sweeps stopped
pub verdict-is : (cl : Cluster) (w : List Event) (claims : ℕ → Option ℕ) (h : Calls) → KeepsHands cl w claims (hands_of h) → IsLegal cl w → (p : ℕ) (v : Verdict) → has_claimed v.node (calls_of p h) ≡ true → IsOwnVerdict cl (calls_of p h) v → IsVerdict cl v.node w v
verdict-is cl w claims h k legal p v claimed own =
    let stops : AreOwnStops cl v.node w nobody (own_stopped (calls_of p h)) = record {
      exact = λ a here. k.stops_are p a (subst (λ n. has_claimed n (calls_of p h) ≡ true) (sym here) claimed);
      own = λ a gone. absurd (false≢true gone);
      were = λ a gone. absurd (false≢true gone);
    } in
    (own-verdict cl v.node w nobody (own_stopped (calls_of p h)) legal stops v).0
    (own w (folded cl v.node w) legal (fold_to-fold cl (cut_at cl v.node w) w) (given-fold cl w claims h k p v.node claimed))
