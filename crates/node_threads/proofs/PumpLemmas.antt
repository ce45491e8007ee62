-- Calls, one after another.
use Rattle.std.proofs.Common.{◌≡◌, ◌≢◌, ◌==◌, ◌⊎◌, ◌++◌, ◌≤◌, ◌+◌, ℕ, append_assoc, Bool, true, false, cond, [], ◌∷◌, Option, Some, None, refl, sym, ◌∙◌, ap, subst, inl, inr, arith}
use Rattle.std.specs.Prelude.{Result, Ok, Err, IfOk, IfSome}
use Rattle.std.proofs.lemmas.Option.{none-some, same_Some}
use Rattle.std.proofs.lemmas.Bool.{cases_lt}
use Rattle.std.proofs.lemmas.Bool.Decides.{nat_tests}
use Rattle.turn_lock.specs.History.{entry}
use Rattle.operation_model.specs.declared.operations.Op.{Op}
use Rattle.operation_model.specs.declared.operations.Op.TheVariants as ops
use Rattle.operation_model.specs.declared.replies.Reply.{Reply}
use Rattle.operation_model.specs.declared.replies.Reply.TheVariants as replies
use Rattle.operation_model.specs.Turns.{Calls}
use Rattle.node_threads.specs.Pumping.{HasAll, HasCarries, HasPublish, HasRemoval, HasWindow, IsFree, Since, SinceOrDown, done_by}
use Rattle.node_threads.specs.Questions.{AsksNothing, IsMade, times_given_up}

-- ---- one of the calls

pub made-later : (op : Op) (later earlier : Calls) → IsMade op later → IsMade op (later ++ earlier)
made-later op [] earlier is = absurd is
made-later op (e ∷ later) earlier (inl is) = inl is
made-later op (e ∷ later) earlier (inr is) = inr (made-later op later earlier is)

pub made-earlier : (op : Op) (later earlier : Calls) → IsMade op earlier → IsMade op (later ++ earlier)
made-earlier op [] earlier is = is
made-earlier op (e ∷ later) earlier is = inr (made-earlier op later earlier is)

pub made-either : (op : Op) (later earlier : Calls) → IsMade op (later ++ earlier) → IsMade op later ⊎ IsMade op earlier
made-either op [] earlier is = inr is
made-either op (e ∷ later) earlier (inl is) = inl (inl is)
made-either op (e ∷ later) earlier (inr is) = elim (made-either op later earlier is) [ inl now ↦ inl (inr now) | inr before ↦ inr before ]

-- neither asks, so both together do not
pub ask-nothing : (first later : Calls) → AsksNothing first → AsksNothing later → AsksNothing (later ++ first)
ask-nothing first later none none' is = elim (made-either ops.Finished later first is) [ inl now ↦ none' now | inr before ↦ none before ]

-- a free operation is no question
pub free-asks : (op : Op) → IsFree op → op ≡ ops.Finished → ⊥
free-asks (ops.Publish n) free is = absurd (cc)
free-asks (ops.Window d) free is = absurd (cc)
free-asks (ops.Remove d) free is = absurd (cc)
free-asks (ops.Carry f d) free is = absurd (cc)
free-asks op free is = absurd free

one-asks : (op : Op) (number : ℕ) (r : Reply) → IsFree op → AsksNothing (entry number op r ∷ [])
one-asks op number r free (inl is) = free-asks op free is
one-asks op number r free (inr is) = is

-- a free operation says nothing of memory
pub free-gives : (op : Op) (number : ℕ) (r : Reply) (old new : Calls) → IsFree op → new ≡ entry number op r ∷ old → times_given_up new ≡ times_given_up old
free-gives (ops.Publish n) number r old new free own = ap times_given_up own
free-gives (ops.Window d) number r old new free own = ap times_given_up own
free-gives (ops.Remove d) number r old new free own = ap times_given_up own
free-gives (ops.Carry f d) number r old new free own = ap times_given_up own
free-gives op number r old new free own = absurd free

-- ---- calls since

module _ (P Q R : Calls → Type 0) (both : (first later : Calls) → P first → Q later → R (later ++ first)) where
  pub since-then : (old mid new : Calls) → Since P old mid → Since Q mid new → Since R old new
  since-then old mid new (first, one, none, p) (later, other, none', q) =
      (later ++ first, other ∙ ap (λ (own : Calls). later ++ own) one ∙ sym (append_assoc later first old), ask-nothing first later none none', both first later p q)

  pub since-down : (node : ℕ) (old mid new : Calls) (done : Option Bool) → Since P old mid → SinceOrDown node Q mid new done → SinceOrDown node R old new done
  since-down node old mid new None first down = down
  since-down node old mid new (Some any) first later = since-then old mid new first later

  pub since-ok : {E : Type 0} (node : ℕ) (old mid new : Calls) (r : Result (Option Bool) E) → Since P old mid → IfOk r (λ done. SinceOrDown node Q mid new done) → IfOk r (λ done. SinceOrDown node R old new done)
  since-ok node old mid new (Ok done) first later = since-down node old mid new done first later
  since-ok node old mid new (Err e) first later = tt

-- the call alone
pub since-one : (op : Op) (number : ℕ) (r : Reply) (old new : Calls) → IsFree op → new ≡ entry number op r ∷ old → Since (IsMade op) old new
since-one op number r old new free own = (entry number op r ∷ [], own, one-asks op number r free, inl refl)

pub since-reply : (node : ℕ) (op : Op) (number : ℕ) (r : Reply) (old new : Calls) → IsFree op → new ≡ entry number op r ∷ old → SinceOrDown node (IsMade op) old new (done_by node r)
since-reply node op number (replies.Down n) old new free own =
    elim (n == node) as (λ b. (n == node) ≡ b → SinceOrDown node (IsMade op) old new (cond b None (Some false))) [
      | true ↦ λ e. (let same : n ≡ node = grind (arith, nat_tests) in rw own (ap (λ k. Some (replies.Down k)) same))
      | false ↦ λ e. since-one op number (replies.Down n) old new free own
    ] refl
since-reply node op number replies.Done old new free own = since-one op number replies.Done old new free own
since-reply node op number replies.Nothing old new free own = since-one op number replies.Nothing old new free own
since-reply node op number replies.Over old new free own = since-one op number replies.Over old new free own
since-reply node op number (replies.NotReady why) old new free own = since-one op number (replies.NotReady why) old new free own
since-reply node op number (replies.Claimed n) old new free own = since-one op number (replies.Claimed n) old new free own
since-reply node op number (replies.Turn a b list locals refs root) old new free own = since-one op number (replies.Turn a b list locals refs root) old new free own
since-reply node op number (replies.Born c) old new free own = since-one op number (replies.Born c) old new free own
since-reply node op number (replies.Bytes bytes) old new free own = since-one op number (replies.Bytes bytes) old new free own
since-reply node op number (replies.Ids ids) old new free own = since-one op number (replies.Ids ids) old new free own
since-reply node op number (replies.NotYet busy live planned) old new free own = since-one op number (replies.NotYet busy live planned) old new free own
since-reply node op number replies.AllDone old new free own = since-one op number replies.AllDone old new free own
since-reply node op number (replies.Halted halt) old new free own = since-one op number (replies.Halted halt) old new free own

-- ---- what a round has

pub window-all : (n : ℕ) (first later : Calls) → HasCarries n 16 first → HasWindow n later → HasAll n (later ++ first)
window-all n first later carries made = record {
  carries = λ f below apart. made-earlier (ops.Carry f n) later first (carries f below apart);
  window = made-later (ops.Window n) later first made.0;
  removal = made-later (ops.Remove n) later first made.1.0;
  publish = made-later (ops.Publish n) later first made.1.1;
}

pub removal-window : (n : ℕ) (first later : Calls) → IsMade (ops.Window n) first → HasRemoval n later → HasWindow n (later ++ first)
removal-window n first later window made =
    (made-earlier (ops.Window n) later first window, (made-later (ops.Remove n) later first made.0, made-later (ops.Publish n) later first made.1))

pub publish-removal : (n : ℕ) (first later : Calls) → IsMade (ops.Remove n) first → HasPublish n later → HasRemoval n (later ++ first)
publish-removal n first later removal publish =
    (made-earlier (ops.Remove n) later first removal, made-later (ops.Publish n) later first publish)

-- one link more
pub carries-more : (n f : ℕ) (first later : Calls) → HasCarries n f first → (f ≢ n → IsMade (ops.Carry f n) later) → HasCarries n (f + 1) (later ++ first)
carries-more n f first later carries carry g below apart = elim (cases_lt g f) [
  | inl under ↦ made-earlier (ops.Carry g n) later first (carries g under apart)
  | inr over ↦ (let same : f ≡ g = omega (arith, below, over) in made-later (ops.Carry g n) later first (subst (λ k. IsMade (ops.Carry k n) later) same (carry (λ e. apart (sym same ∙ e)))))
]

-- what is weaker holds too
pub since-weaker : (P R : Calls → Type 0) → ((calls : Calls) → P calls → R calls) → (old new : Calls) → Since P old new → Since R old new
since-weaker P R weaker old new (calls, own, none, p) = (calls, own, none, weaker calls p)

-- the node that was made of a number
pub made-same : (v : Option ℕ) (m n : ℕ) → v ≡ Some m → IfSome v (λ k. k ≡ n) → m ≡ n
made-same (Some k) m n is made = sym (same_Some k m is) ∙ made
made-same None m n is made = absurd (none-some m is)

-- the link was carried, unless it is none
pub since-carry : (m f n number : ℕ) (r : Reply) (old new : Calls) → m ≡ f → new ≡ entry number (ops.Carry m n) r ∷ old → Since (λ calls. f ≢ n → IsMade (ops.Carry f n) calls) old new
since-carry m f n number r old new is own = (entry number (ops.Carry m n) r ∷ [], own, one-asks (ops.Carry m n) number r tt, λ _. inl (ap (λ k. ops.Carry k n) is))

-- so many links, and those below them
pub all-carried : (n k : ℕ) → 16 ≤ k → (old new : Calls) → Since (HasCarries n k) old new → Since (HasCarries n 16) old new
all-carried n k most = since-weaker (HasCarries n k) (HasCarries n 16) (λ calls has f below apart. has f (omega (arith, below, most)) apart)

-- where the node is not known to be down
pub since-some : (node : ℕ) (P : Calls → Type 0) (old new : Calls) (v : Option Bool) (any : Bool) → v ≡ Some any → SinceOrDown node P old new v → Since P old new
since-some node P old new v any is made = subst (SinceOrDown node P old new) is made
