-- Which turns calls leave.
use Rattle.std.proofs.Common.{◌≡◌, ◌==◌, ℕ, Bool, true, false, not, List, [], ◌∷◌, refl, sym, subst, inl, inr, if◌then◌else◌}
use Rattle.std.specs.Prelude.{Result, Ok, Err, IfOk, OnOk}
use Rattle.std.specs.List.{filter}
use Rattle.crgc_ids.specs.Actor.{Actor}
use Rattle.crgc_ids.specs.Members.{IsAmong, IsPart}
use Rattle.turn_lock.specs.History.{entry}
use Rattle.operation_model.specs.declared.operations.Op.{Op}
use Rattle.operation_model.specs.declared.operations.Op.TheVariants as ops
use Rattle.operation_model.specs.declared.replies.Reply.{Reply}
use Rattle.operation_model.specs.declared.replies.Reply.TheVariants as replies
use Rattle.operation_model.specs.Deeds.{deed_of}
use Rattle.operation_model.specs.Turns.{Calls}
use Rattle.cluster_calls.specs.Calling.{IsSame, Knows}
use Rattle.actor_dispatch.specs.Calling.{IsQuiet}
use Rattle.actor_dispatch.specs.Turning.{LeavesNone, Loses, left_by_deed, left_by_reply, turns_left}
use Rattle.cluster_calls.proofs.Same.{same-then}

-- ---- lists

pub part-refl : {A : Type 0} (xs : List A) → IsPart xs xs
part-refl xs x is = is

-- the members of a filtered list are members that pass
pub among-filter : {A : Type 0} (p : A → Bool) (xs : List A) (x : A) → IsAmong x (filter p xs) → IsAmong x xs × (p x ≡ true)
among-filter p [] x is = absurd is
among-filter p (y ∷ ys) x is =
    elim (p y) as (λ v. p y ≡ v → IsAmong x (if v then y ∷ filter p ys else filter p ys) → IsAmong x (y ∷ ys) × (p x ≡ true)) [
      | true ↦ λ passes either. (elim either [
        | inl same ↦ (inl same, subst (λ z. p z ≡ true) (sym same) passes)
        | inr later ↦ (let rest = among-filter p ys x later in (inr rest.0, rest.1))
      ])
      | false ↦ λ _ later. (let rest = among-filter p ys x later in (inr rest.0, rest.1))
    ] refl is

-- ---- calls

pub leaves-refl : (own : Calls) → LeavesNone own own
leaves-refl own = part-refl (turns_left own)

pub leaves-then : (old mid new : Calls) → LeavesNone old mid → LeavesNone mid new → LeavesNone old new
leaves-then old mid new first later = λ a is. first a (later a is)

pub leaves-loses : (a : Actor) (old mid new : Calls) → LeavesNone old mid → Loses a mid new → Loses a old new
leaves-loses a old mid new first later = λ b is. (let last = later b is in (first b last.0, last.1))

pub loses-leaves : (a : Actor) (old mid new : Calls) → Loses a old mid → LeavesNone mid new → Loses a old new
loses-leaves a old mid new first later = λ b is. first b (later b is)

-- a reply leaves no turn more
pub reply-part : (r : Reply) (actors : List Actor) → IsPart (left_by_reply r actors) actors
reply-part (replies.Down n) actors = λ a is. (among-filter (λ b. not (b.node == n)) actors a is).0
reply-part replies.Done actors = part-refl actors
reply-part replies.Nothing actors = part-refl actors
reply-part replies.Over actors = part-refl actors
reply-part (replies.NotReady why) actors = part-refl actors
reply-part (replies.Claimed n) actors = part-refl actors
reply-part (replies.Turn a b list locals refs root) actors = part-refl actors
reply-part (replies.Born c) actors = part-refl actors
reply-part (replies.Bytes bytes) actors = part-refl actors
reply-part (replies.Ids ids) actors = part-refl actors
reply-part (replies.NotYet busy live planned) actors = part-refl actors
reply-part replies.AllDone actors = part-refl actors
reply-part (replies.Halted why) actors = part-refl actors

-- an operation that neither begins nor ends a turn leaves none more
pub deed-stays : (op : Op) (r : Reply) (actors : List Actor) → IsQuiet op → left_by_deed (deed_of op r) actors ≡ actors
deed-stays (ops.Flush a) replies.Done actors quiet = refl
deed-stays (ops.Flush a) replies.Nothing actors quiet = refl
deed-stays (ops.Flush a) replies.Over actors quiet = refl
deed-stays (ops.Flush a) (replies.Down n) actors quiet = refl
deed-stays (ops.Flush a) (replies.NotReady why) actors quiet = refl
deed-stays (ops.Flush a) (replies.Claimed n) actors quiet = refl
deed-stays (ops.Flush a) (replies.Turn x b list locals refs root) actors quiet = refl
deed-stays (ops.Flush a) (replies.Born c) actors quiet = refl
deed-stays (ops.Flush a) (replies.Bytes bytes) actors quiet = refl
deed-stays (ops.Flush a) (replies.Ids ids) actors quiet = refl
deed-stays (ops.Flush a) (replies.NotYet busy live planned) actors quiet = refl
deed-stays (ops.Flush a) replies.AllDone actors quiet = refl
deed-stays (ops.Flush a) (replies.Halted why) actors quiet = refl
deed-stays (ops.Carry f d) replies.Done actors quiet = refl
deed-stays (ops.Carry f d) replies.Nothing actors quiet = refl
deed-stays (ops.Carry f d) replies.Over actors quiet = refl
deed-stays (ops.Carry f d) (replies.Down n) actors quiet = refl
deed-stays (ops.Carry f d) (replies.NotReady why) actors quiet = refl
deed-stays (ops.Carry f d) (replies.Claimed n) actors quiet = refl
deed-stays (ops.Carry f d) (replies.Turn x b list locals refs root) actors quiet = refl
deed-stays (ops.Carry f d) (replies.Born c) actors quiet = refl
deed-stays (ops.Carry f d) (replies.Bytes bytes) actors quiet = refl
deed-stays (ops.Carry f d) (replies.Ids ids) actors quiet = refl
deed-stays (ops.Carry f d) (replies.NotYet busy live planned) actors quiet = refl
deed-stays (ops.Carry f d) replies.AllDone actors quiet = refl
deed-stays (ops.Carry f d) (replies.Halted why) actors quiet = refl
deed-stays (ops.Refill skip) r actors quiet = refl
deed-stays ops.Finished replies.Done actors quiet = refl
deed-stays ops.Finished replies.Nothing actors quiet = refl
deed-stays ops.Finished replies.Over actors quiet = refl
deed-stays ops.Finished (replies.Down n) actors quiet = refl
deed-stays ops.Finished (replies.NotReady why) actors quiet = refl
deed-stays ops.Finished (replies.Claimed n) actors quiet = refl
deed-stays ops.Finished (replies.Turn x b list locals refs root) actors quiet = refl
deed-stays ops.Finished (replies.Born c) actors quiet = refl
deed-stays ops.Finished (replies.Bytes bytes) actors quiet = refl
deed-stays ops.Finished (replies.Ids ids) actors quiet = refl
deed-stays ops.Finished (replies.NotYet busy live planned) actors quiet = refl
deed-stays ops.Finished replies.AllDone actors quiet = refl
deed-stays ops.Finished (replies.Halted why) actors quiet = refl
deed-stays op r actors quiet = absurd (quiet)

pub quiet-leaves : (p : ℕ) (op : Op) (r : Reply) (own : Calls) → IsQuiet op → LeavesNone own (entry p op r ∷ own)
quiet-leaves p op r own quiet =
    λ a is. subst (IsAmong a) (deed-stays op r (turns_left own) quiet) (reply-part r (left_by_deed (deed_of op r) (turns_left own)) a is)

-- ---- results

pub ok-then : {T E : Type 0} {P Q : T → Type 0} (r : Result T E) → IfOk r P → ((x : T) → P x → Q x) → IfOk r Q
ok-then (Ok x) holds then_ = then_ x holds
ok-then (Err e) holds then_ = tt

pub on_ok-then : {T E : Type 0} {P Q : Type 0} (r : Result T E) → OnOk r P → (P → Q) → OnOk r Q
on_ok-then (Ok x) holds then_ = then_ holds
on_ok-then (Err e) holds then_ = tt

-- ---- passes

-- what calls keep that leave no turn, one after another
pub both-then : (first p q : Knows) → IsSame first p × LeavesNone first.own p.own → IsSame p q → LeavesNone p.own q.own → IsSame first q × LeavesNone first.own q.own
both-then first p q before same leaves = (same-then first p q before.0 same, leaves-then first.own p.own q.own before.1 leaves)
