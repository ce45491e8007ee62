-- A node that a call was told to be down is down, and stays so.
use Rattle.std.proofs.Common.{◌≡◌, ◌==◌, ◌||◌, ◌++◌, ℕ, Bool, true, false, cond, not, List, [], ◌∷◌, Option, Some, None, if◌then◌else◌, refl, sym, ◌∙◌, ap, subst, inl, inr}
use Rattle.std.specs.List.{AllByRecursion, list_any}
use Rattle.std.proofs.lemmas.Bool.{false≢true}
use Rattle.std.proofs.lemmas.Option.{none-some, same_Some}
use Rattle.turn_lock.specs.History.{calls_of}
use Rattle.history_model.specs.declared.events.Event.{Event}
use Rattle.history_model.specs.Rows.{onto}
use Rattle.history_model.specs.State.{is_crash, is_up}
use Rattle.behaviour_lang.specs.declared.act.Act.TheVariants as acts
use Rattle.script_reader.specs.Valid.{Scripted}
use Rattle.operation_model.specs.declared.operations.Op.{Op}
use Rattle.operation_model.specs.declared.operations.Op.TheVariants as ops
use Rattle.operation_model.specs.declared.replies.Halt.{Halt}
use Rattle.operation_model.specs.declared.replies.Reply.{Reply}
use Rattle.operation_model.specs.declared.replies.Reply.TheVariants as replies
use Rattle.operation_model.specs.Answers.{IsCourse, IsGranted, IsReply, Refusal, Unless, first_refusal, nodes_of, refusals, refused, unknown}
use Rattle.operation_model.specs.Courses.{claim_at, events_by, halt_at, world}
use Rattle.operation_model.specs.Deeds.{deed_of}
use Rattle.operation_model.specs.Openings.{Opening}
use Rattle.operation_model.specs.Turns.{Calls}
use Rattle.collected_calls.specs.Collecting.{WasToldDown}

-- ---- a node that is down stays so

not-either : (a b : Bool) → not b ≡ false → not (a || b) ≡ false
not-either true b low = refl
not-either false b low = low

down-onto : (n : ℕ) (es w : List Event) → is_up n w ≡ false → is_up n (onto w es) ≡ false
down-onto n [] w low = low
down-onto n (e ∷ es) w low = down-onto n es (e ∷ w) (not-either (is_crash n e) (list_any (is_crash n) w) low)

-- ---- who is told

-- the node that a reply tells to be down
abbrev told_down : Reply → Option ℕ
told_down (replies.Down n) = Some n
told_down r = None

-- a refusal that is due tells that only of a node that is down
abbrev TellsDown : List Event → Reply → Bool → Type 0
TellsDown w (replies.Down n) holds = holds ≡ true → is_up n w ≡ false
TellsDown w r holds = Unit {0}

abbrev AllTellDown : List Event → List Refusal → Type 0
AllTellDown w cs = AllByRecursion (λ c. TellsDown w c.reply c.holds) cs

not-true : (t : Bool) → not t ≡ true → t ≡ false
not-true true other = absurd (false≢true other)
not-true false other = refl

first-tells : (w : List Event) (cs : List Refusal) (n : ℕ) → AllTellDown w cs → first_refusal cs ≡ Some (replies.Down n) → is_up n w ≡ false
first-tells w [] n all is = absurd (none-some (replies.Down n) is)
first-tells w (c ∷ cs) n all is =
    elim c.holds as (λ v. c.holds ≡ v → (if v then Some c.reply else first_refusal cs) ≡ Some (replies.Down n) → is_up n w ≡ false) [
      | true ↦ λ holds here. (subst (λ r. TellsDown w r c.holds) (same_Some c.reply (replies.Down n) here) all.0) holds
      | false ↦ λ _ later. first-tells w cs n all.1 later
    ] refl is

refusals-tell : (s : Scripted) (claims : ℕ → Option ℕ) (w : List Event) (op : Op) → AllTellDown w (unknown s.nodes (nodes_of op) ++ refusals s claims op w)
refusals-tell s claims w (ops.Claim n) = (tt, (tt, tt))
refusals-tell s claims w ops.Wake = (tt, (tt, tt))
refusals-tell s claims w (ops.Take a) = (tt, (not-true (is_up a.node w), (tt, (tt, (tt, tt)))))
refusals-tell s claims w (ops.Act a act) = (tt, (not-true (is_up a.node w), tt))
refusals-tell s claims w (ops.Rest a locals) = (tt, (not-true (is_up a.node w), tt))
refusals-tell s claims w (ops.Flush a) = (tt, (not-true (is_up a.node w), (tt, tt)))
refusals-tell s claims w (ops.Publish n) = (tt, (not-true (is_up n w), (tt, tt)))
refusals-tell s claims w (ops.Window d) = (tt, (not-true (is_up d w), (tt, tt)))
refusals-tell s claims w (ops.Remove d) = (tt, (not-true (is_up d w), (tt, tt)))
refusals-tell s claims w (ops.Carry f d) = (tt, (tt, (tt, tt)))
refusals-tell s claims w (ops.Hand n x k) = (tt, (tt, (not-true (is_up n w), (tt, tt))))
refusals-tell s claims w (ops.Sweep v) = (tt, (not-true (is_up v.node w), tt))
refusals-tell s claims w ops.GiveUp = tt
refusals-tell s claims w (ops.Refill skip) = (tt, tt)
refusals-tell s claims w ops.Finished = (tt, tt)

-- what is granted tells it of no node
granted-tells : (o : Opening) (h : Calls) (op : Op) (w : List Event) (r : Reply) → IsGranted o h op w r → told_down r ≡ None
granted-tells o h (ops.Claim n) w r done = ap told_down done
granted-tells o h ops.Wake w r done = ap told_down done.1
granted-tells o h (ops.Take a) w r done = ap told_down done.1
granted-tells o h (ops.Act a (acts.Spawn b)) w r done = ap told_down done
granted-tells o h (ops.Act a (acts.Send t refs)) w r done = ap told_down done
granted-tells o h (ops.Act a (acts.Drop t)) w r done = ap told_down done
granted-tells o h (ops.Act a acts.Retire) w r done = ap told_down done
granted-tells o h (ops.Rest a locals) w r done = ap told_down done
granted-tells o h (ops.Flush a) w r done = ap told_down done
granted-tells o h (ops.Publish n) w r done = ap told_down done
granted-tells o h (ops.Window d) w r done = ap told_down done
granted-tells o h (ops.Remove d) w r done = ap told_down done
granted-tells o h (ops.Carry f d) w r done = ap told_down done
granted-tells o h (ops.Hand n x k) w r done = ap told_down done.2
granted-tells o h (ops.Sweep v) w r done = ap told_down done
granted-tells o h ops.GiveUp w r done = absurd done
granted-tells o h (ops.Refill skip) w r done = ap told_down done
granted-tells o h ops.Finished w r done = ap told_down done

module _ (o : Opening) (h : Calls) (op : Op) (r : Reply) (n : ℕ) (told : r ≡ replies.Down n) where
  tells : told_down r ≡ Some n
  tells = ap told_down told

  answer-tells : (v : Option Reply) → refused o.script (claim_at o h) op (world o h) ≡ v → Unless v r (IsGranted o h op (world o h) r) → is_up n (world o h) ≡ false
  answer-tells None none granted = absurd (none-some n (sym (granted-tells o h op (world o h) r granted) ∙ tells))
  answer-tells (Some x) some is =
      let s = o.script in
      first-tells (world o h) (unknown s.nodes (nodes_of op) ++ refusals s (claim_at o h) op (world o h)) n (refusals-tell s (claim_at o h) (world o h) op)
      (some ∙ ap (λ y. Some y) (sym is ∙ told))

  reply-tells : (v : Option Halt) → IsReply o h v op r → is_up n (world o h) ≡ false
  reply-tells (Some why) is = absurd (none-some n (sym (ap told_down is) ∙ tells))
  reply-tells None (inl made) = answer-tells (refused o.script (claim_at o h) op (world o h)) refl made.0
  reply-tells None (inr (inl limit)) = absurd (none-some n (sym (ap told_down limit.1) ∙ tells))
  reply-tells None (inr (inr memory)) = absurd (none-some n (sym (ap told_down memory) ∙ tells))

pub told-down : (o : Opening) (h : Calls) (p n : ℕ) → IsCourse o h → WasToldDown n (calls_of p h) → is_up n (world o h) ≡ false
told-down o [] p n course told = absurd told
told-down o (e ∷ h) p n course told =
    let still = down-onto n (events_by o.script (deed_of e.op e.reply) (world o h)) (world o h) in
    elim (e.pass == p) as (λ v. WasToldDown n (cond v (e ∷ calls_of p h) (calls_of p h)) → is_up n (world o (e ∷ h)) ≡ false) [
      | true ↦ λ one. elim one [
        | inl now ↦ still (reply-tells o h e.op e.reply n now (halt_at o h) course.1)
        | inr earlier ↦ still (told-down o h p n course.2 earlier)
      ]
      | false ↦ λ earlier. still (told-down o h p n course.2 earlier)
    ] told
