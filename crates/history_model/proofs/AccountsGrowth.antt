-- What grows with the history: lists of messages go on, and counts never fall. Soundness compares a moment with the end
-- of the history by these.
use Rattle.std.proofs.Common.{◌≡◌, ◌≤◌, ◌+◌, ◌&&◌, ℕ, zero, suc, Bool, true, false, not, List, [], ◌∷◌, ◌++◌, length, refl, sym, ◌∙◌, ap, subst, arith, IsTrue, cond, take, sum_by, append_assoc, append-nil, length-append, filter}
use Rattle.std.proofs.lemmas.Bool.{false≢true, or_right}
use Rattle.std.proofs.lemmas.List.Sums.{sum_by-append}
use Rattle.std.specs.List.{list_any}
use Rattle.std.specs.Prelude.{◌==◌}
use Rattle.crgc_ids.specs.Actor.{Actor}
use Rattle.history_model.specs.declared.events.Event.{Event}
use Rattle.history_model.specs.declared.events.Event.TheVariants.{Send}
use Rattle.history_model.specs.Cluster.{Cluster}
use Rattle.history_model.specs.Messages.{Message, sent, mail, is_to, admitted_by, is_take_by, takes, taken}
use Rattle.history_model.specs.Held.{gifts, carried, got}
use Rattle.history_model.specs.State.{is_up, is_crash}
use Rattle.history_model.proofs.Lists.{tally-append}

-- the second list begins with the first
abbrev pub Begins : {A : Type 0} → List A → List A → Type 0
Begins {A} xs zs = (ys : List A) × (zs ≡ xs ++ ys)

module _ {A : Type 0} where
  begins-same : (xs : List A) → Begins xs xs
  begins-same xs = ([], sym (append-nil xs))

  begins-more : (xs zs ws : List A) → Begins xs zs → Begins xs (zs ++ ws)
  begins-more xs zs ws begins = (begins.0 ++ ws, ap (λ l. l ++ ws) begins.1 ∙ append_assoc xs begins.0 ws)

  begins-if : (b : Bool) (xs zs ws : List A) → Begins xs zs → Begins xs (cond b (zs ++ ws) zs)
  begins-if true xs zs ws begins = begins-more xs zs ws begins
  begins-if false xs zs ws begins = begins

  pub sum_by-begins : (w : A → ℕ) (xs zs : List A) → Begins xs zs → sum_by w xs ≤ sum_by w zs
  sum_by-begins w xs zs begins = omega (arith, ap (sum_by w) begins.1, sum_by-append w xs begins.0)

  pub length-begins : (xs zs : List A) → Begins xs zs → length xs ≤ length zs
  length-begins xs zs begins = omega (arith, ap length begins.1, length-append xs begins.0)

-- ---- lists of messages

-- mail goes on
pub mail-begins : (b : Actor) (q p : List Event) → Begins (mail b p) (mail b (q ++ p))
mail-begins b [] p = begins-same (mail b p)
mail-begins b (e ∷ q) p = begins-more (mail b p) (mail b (q ++ p)) (filter (is_to b) (admitted_by e (q ++ p))) (mail-begins b q p)

-- what was sent on a link goes on
pub sent-begins : (s d : ℕ) (q p : List Event) → Begins (sent s d p) (sent s d (q ++ p))
sent-begins s d [] p = begins-same (sent s d p)
sent-begins s d (Send f t refs ∷ q) p =
    begins-if ((f.node == s) && (t.node == d)) (sent s d p) (sent s d (q ++ p)) (record { from = f; to = t; refs = refs } ∷ []) (sent-begins s d q p)
sent-begins s d (_ ∷ q) p = sent-begins s d q p

pub mail-grows : (b : Actor) (w : Message → ℕ) (q p : List Event) → sum_by w (mail b p) ≤ sum_by w (mail b (q ++ p))
mail-grows b w q p = sum_by-begins w (mail b p) (mail b (q ++ p)) (mail-begins b q p)

-- ---- counts

pub takes-grow : (a : Actor) (q p : List Event) → takes a p ≤ takes a (q ++ p)
takes-grow a q p = omega (arith, tally-append (is_take_by a) q p)

pub gifts-grow : (cl : Cluster) (b a : Actor) (q p : List Event) → gifts cl b a p ≤ gifts cl b a (q ++ p)
gifts-grow cl b a [] p = omega arith
gifts-grow cl b a (e ∷ q) p = omega (arith, gifts-grow cl b a q p)

-- joined lists carry what both carry
pub carried-append : (a : Actor) (xs ys : List Message) → carried a (xs ++ ys) ≡ carried a xs + carried a ys
carried-append a [] ys = omega arith
carried-append a (m ∷ xs) ys = omega (arith, carried-append a xs ys)

-- more of the first messages carry no less
pub carried-take : (a : Actor) (i j : ℕ) (xs ys : List Message) → i ≤ j → carried a (take i xs) ≤ carried a (take j (xs ++ ys))
carried-take a zero j xs ys le = omega arith
carried-take a (suc i) zero xs ys le = absurd (omega arith)
carried-take a (suc i) (suc j) [] ys le = omega arith
carried-take a (suc i) (suc j) (m ∷ xs) ys le = omega (arith, carried-take a i j xs ys (omega arith))

pub carried-grows : (b a : Actor) (q p : List Event) → carried a (taken b p) ≤ carried a (taken b (q ++ p))
carried-grows b a q p =
    let begins = mail-begins b q p in
    subst (λ ms. carried a (taken b p) ≤ carried a (take (takes b (q ++ p)) ms)) (sym begins.1)
    (carried-take a (takes b p) (takes b (q ++ p)) (mail b p) begins.0 (takes-grow b q p))

pub got-grows : (cl : Cluster) (b a : Actor) (q p : List Event) → got cl b a p ≤ got cl b a (q ++ p)
got-grows cl b a q p = omega (arith, gifts-grow cl b a q p, carried-grows b a q p)

-- ---- states

-- a test that some event passed stays passed
pub any-stays : (test : Event → Bool) (q p : List Event) → IsTrue (list_any test p) → IsTrue (list_any test (q ++ p))
any-stays test [] p t = t
any-stays test (e ∷ q) p t = or_right (test e) (list_any test (q ++ p)) (any-stays test q p t)

-- a node that is up was up before
pub up-before : (n : ℕ) (q p : List Event) → IsTrue (is_up n (q ++ p)) → IsTrue (is_up n p)
up-before n q p up =
    let split = elim (list_any (is_crash n) p) as (λ v. list_any (is_crash n) p ≡ v → not v ≡ true) [
      | true ↦ λ crashed. absurd (false≢true (rw (any-stays (is_crash n) q p crashed) at up))
      | false ↦ λ _. refl
    ] in
    split refl
