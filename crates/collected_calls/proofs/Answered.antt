-- How the calls of a pass that has claimed a node are answered, where the cluster has not halted.
use Rattle.std.proofs.Common.{◌≡◌, ◌==◌, ◌<◌, ℕ, Bool, true, false, cond, not, List, [], ◌∷◌, length, Option, Some, None, if◌then◌else◌, nat_lt, refl, sym, ◌∙◌, subst, inl, inr, arith, ◌⊎◌}
use Rattle.std.specs.Option.{is_some, unwrap_or}
use Rattle.std.proofs.lemmas.Bool.{eqb-true, false≢true, or_cases}
use Rattle.std.proofs.lemmas.Option.{slice_get_within}
use Rattle.turn_lock.specs.History.{calls_of, entry}
use Rattle.history_model.specs.declared.events.Event.{Event}
use Rattle.history_model.specs.declared.events.Event.TheVariants as events
use Rattle.history_model.specs.declared.records.Verdict.{Verdict}
use Rattle.history_model.specs.State.{is_up}
use Rattle.history_model.specs.Streams.{stream}
use Rattle.behaviour_lang.specs.declared.act.Act.{Act}
use Rattle.crgc_ids.specs.Actor.{Actor}
use Rattle.bulletin_streams.proofs.BoundLemmas.{stream-short}
use Rattle.true_config.proofs.Growing.{passes-none}
use Rattle.run_model.specs.Doing.{cluster_of}
use Rattle.operation_model.specs.declared.operations.Op.{Op}
use Rattle.operation_model.specs.declared.operations.Op.TheVariants as ops
use Rattle.operation_model.specs.declared.replies.Halt.{Halt}
use Rattle.operation_model.specs.declared.replies.Halt.TheVariants.{Limit, Memory}
use Rattle.operation_model.specs.declared.replies.Reply.{Reply}
use Rattle.operation_model.specs.declared.replies.Reply.TheVariants as replies
use Rattle.operation_model.specs.Answers.{IsCourse, IsGranted, IsReply, MayFollow, Unless}
use Rattle.operation_model.specs.Courses.{claim_at, events_by, halt_at, world}
use Rattle.operation_model.specs.Deeds.{Deed, acted_by, carried, cut, deed_of, flushed, handed_by, if_done, over_by, published, removed, rested, swept, took_by, woke_by}
use Rattle.operation_model.specs.Hands.{has_claimed, is_claim_of}
use Rattle.operation_model.specs.Openings.{Opening}
use Rattle.operation_model.specs.Turns.{Calls}

-- the reply is no halt
abbrev pub GoesOn : Reply → Type 0
GoesOn r = (why : Halt) → r ≡ replies.Halted why → ⊥

-- ---- hands

-- a bulletin is there, and its number is below 1,000,000; or none is; or the node is down
pub data HandAnswer (n k : ℕ) (r : Reply) : Type 0 where
  has_bytes : (bytes : List ℕ) → r ≡ replies.Bytes bytes → k < 1000000 → HandAnswer n k r
  has_none : r ≡ replies.Nothing → HandAnswer n k r
  is_down : r ≡ replies.Down n → HandAnswer n k r

hand-cases : (a b c d : Bool) (n k : ℕ) (r : Reply) (G : Type 0) → (G → HandAnswer n k r)
    → Unless (if a then Some replies.Nothing else if b then Some replies.Nothing else if c then Some (replies.Down n) else if d then Some replies.Nothing else None) r G → HandAnswer n k r
hand-cases true b c d n k r G granted is = has_none is
hand-cases false true c d n k r G granted is = has_none is
hand-cases false false true d n k r G granted is = is_down is
hand-cases false false false true n k r G granted is = has_none is
hand-cases false false false false n k r G granted is = granted is

sweep-cases : (a c : Bool) (n : ℕ) (r : Reply) → not a ≡ true → Unless (if a then Some replies.Nothing else if c then Some (replies.Down n) else None) r (r ≡ replies.Done) → (r ≡ replies.Done) ⊎ (r ≡ replies.Down n)
sweep-cases true c n r known is = absurd (false≢true known)
sweep-cases false true n r known is = inr is
sweep-cases false false n r known is = inl is

not-not : (t : Bool) → t ≡ true → not (not t) ≡ true
not-not true is = refl
not-not false is = is

module _ (o : Opening) (h : Calls) (p : ℕ) (r : Reply) (goes_on : GoesOn r) where
  abbrev w : List Event
  w = world o h

  abbrev script_nodes : ℕ
  script_nodes = (let s = o.script in s.nodes)

  pub hand-answered : (n x k : ℕ) → IsCourse o (entry p (ops.Hand n x k) r ∷ h) → HandAnswer n k r
  hand-answered n x k course = by-halt (halt_at o h) course.1
    where
      by-halt : (v : Option Halt) → IsReply o h v (ops.Hand n x k) r → HandAnswer n k r
      by-halt (Some why) is = absurd (goes_on why is)
      by-halt None (inr (inl limit)) = absurd (goes_on (Limit limit.0) limit.1)
      by-halt None (inr (inr memory)) = absurd (goes_on Memory memory)
      by-halt None (inl made) =
          hand-cases (not (nat_lt n script_nodes)) (not (nat_lt x script_nodes)) (not (is_up n w)) (not (nat_lt k (length (stream (cluster_of o.script) x w)))) n k r
          (IsGranted o h (ops.Hand n x k) w r)
          (λ granted.
          let room = (passes-none (cluster_of o.script) (events.Hand n x k) w (subst (λ t. MayFollow o.script (events_by o.script (deed_of (ops.Hand n x k) t) w) w) granted.2 made.1).1).events in
          let there = slice_get_within (stream (cluster_of o.script) x w) k granted.1 granted.3 in
          let short = stream-short (cluster_of o.script) x w in
          has_bytes granted.0 granted.2 (omega (arith, room, there, short)))
          made.0

  pub sweep-answered : (v : Verdict) → nat_lt v.node script_nodes ≡ true → IsCourse o (entry p (ops.Sweep v) r ∷ h) → (r ≡ replies.Done) ⊎ (r ≡ replies.Down v.node)
  sweep-answered v known course = by-halt (halt_at o h) course.1
    where
      by-halt : (t : Option Halt) → IsReply o h t (ops.Sweep v) r → (r ≡ replies.Done) ⊎ (r ≡ replies.Down v.node)
      by-halt (Some why) is = absurd (goes_on why is)
      by-halt None (inr (inl limit)) = absurd (goes_on (Limit limit.0) limit.1)
      by-halt None (inr (inr memory)) = absurd (goes_on Memory memory)
      by-halt None (inl made) = sweep-cases (not (nat_lt v.node script_nodes)) (not (is_up v.node w)) v.node r (not-not (nat_lt v.node script_nodes) known) made.0

-- ---- claims

done-claim : (n : ℕ) (d : Deed) (r : Reply) → is_claim_of n d ≡ false → is_claim_of n (if_done d r) ≡ false
done-claim n d replies.Done is = is
done-claim n d r is = refl

woke-claim : (n : ℕ) (r : Reply) → is_claim_of n (woke_by r) ≡ false
woke-claim n (replies.Turn a b list locals refs root) = refl
woke-claim n r = refl

took-claim : (n : ℕ) (r : Reply) → is_claim_of n (took_by r) ≡ false
took-claim n (replies.Turn a b list locals refs root) = refl
took-claim n r = refl

acted-claim : (n : ℕ) (a : Actor) (act : Act) (r : Reply) → is_claim_of n (acted_by a act r) ≡ false
acted-claim n a act (replies.Born c) = refl
acted-claim n a act replies.Done = refl
acted-claim n a act r = refl

handed-claim : (n m x k : ℕ) (r : Reply) → is_claim_of n (handed_by m x k r) ≡ false
handed-claim n m x k (replies.Bytes bytes) = refl
handed-claim n m x k r = refl

over-claim : (n : ℕ) (r : Reply) → is_claim_of n (over_by r) ≡ false
over-claim n replies.AllDone = refl
over-claim n r = refl

-- a node that was claimed is one of the cluster
granted-claim : (o : Opening) (h : Calls) (m : ℕ) (v : Option Halt) → IsReply o h v (ops.Claim m) replies.Done → (let s = o.script in nat_lt m s.nodes ≡ true)
granted-claim o h m (Some why) is = absurd (cc)
granted-claim o h m None (inr (inl limit)) = (let is = limit.1 in absurd (cc))
granted-claim o h m None (inr (inr memory)) = absurd (cc)
granted-claim o h m None (inl made) = (let s = o.script in known (nat_lt m s.nodes) (is_some (claim_at o h m)) (unwrap_or (claim_at o h m) 0) made.0)
  where
    known : (t c : Bool) (p : ℕ) → Unless (if not t then Some replies.Nothing else if c then Some (replies.Claimed p) else None) replies.Done (replies.Done ≡ replies.Done) → t ≡ true
    known true c p is = refl
    known false c p is = absurd (cc)

claim-known : (o : Opening) (h : Calls) (n : ℕ) (op : Op) (r : Reply) → IsReply o h (halt_at o h) op r → is_claim_of n (deed_of op r) ≡ true → (let s = o.script in nat_lt n s.nodes ≡ true)
claim-known o h n (ops.Claim m) replies.Done reply is =
    subst (λ y. (let s = o.script in nat_lt y s.nodes ≡ true)) (eqb-true m n is) (granted-claim o h m (halt_at o h) reply)
claim-known o h n (ops.Claim m) r reply is = absurd (false≢true is)
claim-known o h n ops.Wake r reply is = absurd (false≢true (sym (woke-claim n r) ∙ is))
claim-known o h n (ops.Take a) r reply is = absurd (false≢true (sym (took-claim n r) ∙ is))
claim-known o h n (ops.Act a act) r reply is = absurd (false≢true (sym (acted-claim n a act r) ∙ is))
claim-known o h n (ops.Rest a locals) r reply is = absurd (false≢true (sym (done-claim n (rested a locals) r refl) ∙ is))
claim-known o h n (ops.Flush a) r reply is = absurd (false≢true (sym (done-claim n (flushed a) r refl) ∙ is))
claim-known o h n (ops.Publish m) r reply is = absurd (false≢true (sym (done-claim n (published m) r refl) ∙ is))
claim-known o h n (ops.Window d) r reply is = absurd (false≢true (sym (done-claim n (cut d) r refl) ∙ is))
claim-known o h n (ops.Remove d) r reply is = absurd (false≢true (sym (done-claim n (removed d) r refl) ∙ is))
claim-known o h n (ops.Carry f d) r reply is = absurd (false≢true (sym (done-claim n (carried f d) r refl) ∙ is))
claim-known o h n (ops.Hand m x k) r reply is = absurd (false≢true (sym (handed-claim n m x k r) ∙ is))
claim-known o h n (ops.Sweep v) r reply is = absurd (false≢true (sym (done-claim n (swept v) r refl) ∙ is))
claim-known o h n ops.GiveUp r reply is = absurd (false≢true is)
claim-known o h n (ops.Refill skip) r reply is = absurd (false≢true is)
claim-known o h n ops.Finished r reply is = absurd (false≢true (sym (over-claim n r) ∙ is))

pub claimed-known : (o : Opening) (h : Calls) (p n : ℕ) → IsCourse o h → has_claimed n (calls_of p h) ≡ true → (let s = o.script in nat_lt n s.nodes ≡ true)
claimed-known o [] p n course is = absurd (false≢true is)
claimed-known o (e ∷ h) p n course is =
    (elim (e.pass == p) as (λ v. has_claimed n (cond v (e ∷ calls_of p h) (calls_of p h)) ≡ true → (let s = o.script in nat_lt n s.nodes ≡ true)) [
      | true ↦ λ one. elim (or_cases (is_claim_of n (deed_of e.op e.reply)) (has_claimed n (calls_of p h)) one) [
        | inl here ↦ claim-known o h n e.op e.reply course.1 here
        | inr earlier ↦ claimed-known o h p n course.2 earlier
      ]
      | false ↦ λ earlier. claimed-known o h p n course.2 earlier
    ]) is
