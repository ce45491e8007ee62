-- How the acts and the end of a turn are answered.
use Rattle.std.proofs.Common.{◌≡◌, ℕ, Bool, true, false, not, List, ◌∷◌, Option, Some, None, inl, inr, if◌then◌else◌}
use Rattle.std.specs.Prelude.{nat_lt}
use Rattle.crgc_ids.specs.Actor.{Actor}
use Rattle.turn_lock.specs.History.{entry}
use Rattle.history_model.specs.State.{is_up}
use Rattle.behaviour_lang.specs.declared.act.Act.{Act}
use Rattle.operation_model.specs.declared.operations.Op.TheVariants as ops
use Rattle.operation_model.specs.declared.replies.Halt.{Halt}
use Rattle.operation_model.specs.declared.replies.Halt.TheVariants.{Limit, Memory}
use Rattle.operation_model.specs.declared.replies.Reply.{Reply}
use Rattle.operation_model.specs.declared.replies.Reply.TheVariants as replies
use Rattle.operation_model.specs.Answers.{IsCourse, IsReply, Unless, act_reply}
use Rattle.operation_model.specs.Courses.{halt_at, world}
use Rattle.operation_model.specs.Openings.{Opening}
use Rattle.operation_model.specs.Turns.{Calls}

-- the operation of an actor's turn is answered by a halt; or its node is unknown, or down; or it is granted
pub data Answer (n : ℕ) (r : Reply) (G : Type 0) : Type 0 where
  halted : (why : Halt) → r ≡ replies.Halted why → Answer n r G
  unknown : r ≡ replies.Nothing → Answer n r G
  down : r ≡ replies.Down n → Answer n r G
  granted : G → Answer n r G

unless-refused : (b c : Bool) (n : ℕ) (r : Reply) (G : Type 0) → Unless (if b then Some replies.Nothing else if c then Some (replies.Down n) else None) r G → Answer n r G
unless-refused true c n r G is = unknown is
unless-refused false true n r G is = down is
unless-refused false false n r G is = granted is

module _ (o : Opening) (h : Calls) (p : ℕ) (r : Reply) where
  pub act-answered : (a : Actor) (act : Act) → IsCourse o (entry p (ops.Act a act) r ∷ h) → Answer a.node r (r ≡ act_reply a act (world o h))
  act-answered a act course = by-halt (halt_at o h) course.1
    where
      by-halt : (v : Option Halt) → IsReply o h v (ops.Act a act) r → Answer a.node r (r ≡ act_reply a act (world o h))
      by-halt (Some why) is = halted why is
      by-halt None (inl made) = (let s = o.script in unless-refused (not (nat_lt a.node s.nodes)) (not (is_up a.node (world o h))) a.node r (r ≡ act_reply a act (world o h)) made.0)
      by-halt None (inr (inl limit)) = halted (Limit limit.0) limit.1
      by-halt None (inr (inr memory)) = halted Memory memory

  pub rest-answered : (a : Actor) (locals : List (List ℕ × Actor)) → IsCourse o (entry p (ops.Rest a locals) r ∷ h) → Answer a.node r (r ≡ replies.Done)
  rest-answered a locals course = by-halt (halt_at o h) course.1
    where
      by-halt : (v : Option Halt) → IsReply o h v (ops.Rest a locals) r → Answer a.node r (r ≡ replies.Done)
      by-halt (Some why) is = halted why is
      by-halt None (inl made) = (let s = o.script in unless-refused (not (nat_lt a.node s.nodes)) (not (is_up a.node (world o h))) a.node r (r ≡ replies.Done) made.0)
      by-halt None (inr (inl limit)) = halted (Limit limit.0) limit.1
      by-halt None (inr (inr memory)) = halted Memory memory
