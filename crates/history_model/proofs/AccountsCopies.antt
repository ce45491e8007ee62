-- What is on a link of a legal history, and what was admitted there, was sent on it. So a number that no message has
-- yet is new to `AccountsOpen` and `AccountsMail`.
use Rattle.std.proofs.Common.{◌≡◌, ◌<◌, ◌≤◌, ◌+◌, ◌&&◌, ◌||◌, ℕ, true, false, List, [], ◌∷◌, length, refl, subst, inl, inr, arith, IsTrue, cond, nat_lt}
use Rattle.std.proofs.lemmas.Bool.{false≢true, ltb-true, le-ltb, cases_lt, and_parts, eqb-true, cond_both, lt-ltb}
use Rattle.std.specs.Prelude.{◌==◌}
use Rattle.history_model.specs.declared.events.Event.{Event}
use Rattle.history_model.specs.declared.events.Event.TheVariants.{Admit, Repeat, Lose}
use Rattle.history_model.specs.Tally.{tally}
use Rattle.history_model.specs.Cluster.{Cluster}
use Rattle.history_model.specs.Messages.{sent, is_repeat, was_admitted, copies, is_lose, is_admit}
use Rattle.history_model.specs.Legal.{IsLegal}
use Rattle.history_model.proofs.Basics.{legal-kept}
use Rattle.history_model.proofs.AccountsGrowth.{length-begins, sent-begins}
use Rattle.history_model.proofs.Lists.{tally-more}

-- a number of a link that tests as another one is that one
pub same_number : (x y n s d k : ℕ) → ((x == s) && ((y == d) && (n == k))) ≡ true → (P : ℕ → ℕ → ℕ → Type 0) → P x y n → P s d k
same_number x y n s d k same P h =
    let first = and_parts (x == s) ((y == d) && (n == k)) same in
    let rest = and_parts (y == d) (n == k) first.1 in
    subst (P s d) (eqb-true n k rest.1)
    (subst (λ j. P s j n) (eqb-true y d rest.0) (subst (λ i. P i y n) (eqb-true x s first.0) h))

-- a link's messages do not grow fewer
longer : (s d : ℕ) (e : Event) (p : List Event) → length (sent s d p) ≤ length (sent s d (e ∷ p))
longer s d e p = length-begins (sent s d p) (sent s d (e ∷ p)) (sent-begins s d (e ∷ []) p)

-- what was not sent and not repeated has no copy
no-copy : (s d k : ℕ) (p : List Event) → length (sent s d p) ≤ k → tally (is_repeat s d k) p ≡ 0 → copies s d k p ≡ 0
no-copy s d k p past none = rw (le-ltb k (length (sent s d p)) past, none) (omega arith)

-- what was not sent was not repeated
repeats-none : (cl : Cluster) (h : List Event) → IsLegal cl h → (s d k : ℕ) → length (sent s d h) ≤ k → tally (is_repeat s d k) h ≡ 0
repeats-none cl [] legal s d k past = refl
repeats-none cl (Repeat x y n ∷ p) legal s d k past =
    let kept = legal-kept cl (Repeat x y n) p legal in
    let some : 0 < copies x y n p = ltb-true 0 (copies x y n p) kept.1.1.1.1.1.0 in
    let before = repeats-none cl p legal.1 s d k past in
    let none = no-copy s d k p past before in
    let test = (x == s) && ((y == d) && (n == k)) in
    let split = elim test as (λ v. test ≡ v → cond v (tally (is_repeat s d k) p + 1) (tally (is_repeat s d k) p) ≡ 0) [
      | true ↦ λ same. (let now = same_number x y n s d k same (λ i j l. 0 < copies i j l p) some in absurd (omega arith))
      | false ↦ λ _. before
    ] in
    split refl
repeats-none cl (e ∷ p) legal s d k past = repeats-none cl p legal.1 s d k (omega (arith, longer s d e p))

-- once a number was sent, its first copy counts
first-copy : (k m n : ℕ) → m ≤ n → cond (nat_lt k m) 1 0 ≤ cond (nat_lt k n) 1 0
first-copy k m n more =
    elim (cases_lt k m) [
      | inl within ↦ rw (lt-ltb k m within, lt-ltb k n (omega (arith, within, more))) (omega arith)
      | inr past ↦ rw (le-ltb k m past) (omega arith)
    ]

-- what has a copy on the link was sent
pub copies-was_sent : (cl : Cluster) (h : List Event) → IsLegal cl h → (s d k : ℕ) → 0 < copies s d k h → k < length (sent s d h)
copies-was_sent cl h legal s d k some =
    elim (cases_lt k (length (sent s d h))) [
      | inl within ↦ within
      | inr past ↦ (let none = no-copy s d k h past (repeats-none cl h legal s d k past) in absurd (omega arith))
    ]

-- what was admitted was sent
pub admitted-was_sent : (cl : Cluster) (h : List Event) → IsLegal cl h → (s d k : ℕ) → IsTrue (was_admitted s d k h) → k < length (sent s d h)
admitted-was_sent cl [] legal s d k admitted = absurd (false≢true admitted)
admitted-was_sent cl (Admit x y n ∷ p) legal s d k admitted =
    let kept = legal-kept cl (Admit x y n) p legal in
    let now = copies-was_sent cl p legal.1 x y n (ltb-true 0 (copies x y n p) kept.1.1.1.1.1.0) in
    let before = admitted-was_sent cl p legal.1 s d k in
    let test = (x == s) && ((y == d) && (n == k)) in
    let split = elim test as (λ v. test ≡ v → (v || was_admitted s d k p) ≡ true → k < length (sent s d p)) [
      | true ↦ λ same _. same_number x y n s d k same (λ i j l. l < length (sent i j p)) now
      | false ↦ λ _ earlier. before earlier
    ] in
    split refl admitted
admitted-was_sent cl (e ∷ p) legal s d k admitted = omega (arith, admitted-was_sent cl p legal.1 s d k admitted, longer s d e p)

-- ---- copies

-- no more copies of a number go than come: each that is lost or admitted was on the link
pub copies-exact : (cl : Cluster) (h : List Event) → IsLegal cl h → (s d k : ℕ) → tally (is_lose s d k) h + tally (is_admit s d k) h ≤ cond (nat_lt k (length (sent s d h))) 1 0 + tally (is_repeat s d k) h
copies-exact cl [] legal s d k = omega arith
copies-exact cl (Lose x y n ∷ p) legal s d k =
    let kept = legal-kept cl (Lose x y n) p legal in
    let some : 0 < copies x y n p = ltb-true 0 (copies x y n p) kept.1.1.1.1.1.0 in
    let loses = tally (is_lose s d k) p in
    cond_both ((x == s) && ((y == d) && (n == k))) (loses + 1) loses (λ l. l + tally (is_admit s d k) p ≤ cond (nat_lt k (length (sent s d p))) 1 0 + tally (is_repeat s d k) p)
    (λ same. (let now = same_number x y n s d k same (λ i j l. 0 < copies i j l p) some in omega (arith, now)))
    (λ _. copies-exact cl p legal.1 s d k)
copies-exact cl (Admit x y n ∷ p) legal s d k =
    let kept = legal-kept cl (Admit x y n) p legal in
    let some : 0 < copies x y n p = ltb-true 0 (copies x y n p) kept.1.1.1.1.1.0 in
    let admits = tally (is_admit s d k) p in
    cond_both ((x == s) && ((y == d) && (n == k))) (admits + 1) admits (λ l. tally (is_lose s d k) p + l ≤ cond (nat_lt k (length (sent s d p))) 1 0 + tally (is_repeat s d k) p)
    (λ same. (let now = same_number x y n s d k same (λ i j l. 0 < copies i j l p) some in omega (arith, now)))
    (λ _. copies-exact cl p legal.1 s d k)
copies-exact cl (e ∷ p) legal s d k =
    let before = copies-exact cl p legal.1 s d k in
    let repeats = tally-more (is_repeat s d k) e p in
    omega (arith, before, repeats, first-copy k (length (sent s d p)) (length (sent s d (e ∷ p))) (longer s d e p))
