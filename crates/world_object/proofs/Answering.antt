-- How each way to answer makes one step of the cluster.
use Rattle.std.proofs.Common.{◌≡◌, ◌++◌, ℕ, List, [], Option, Some, None, refl, sym, ◌∙◌, ap, subst, inl, inr}
use Rattle.behaviour_lang.specs.declared.act.Act.TheVariants as acts
use Rattle.history_model.specs.declared.events.Event.{Event}
use Rattle.history_model.specs.Rows.{onto}
use Rattle.operation_model.specs.declared.operations.Op.{Op}
use Rattle.operation_model.specs.declared.operations.Op.TheVariants as ops
use Rattle.operation_model.specs.declared.replies.Halt.{Halt}
use Rattle.operation_model.specs.declared.replies.Halt.TheVariants.{Limit, Memory}
use Rattle.operation_model.specs.declared.replies.Reply.{Reply}
use Rattle.operation_model.specs.declared.replies.Reply.TheVariants as replies
use Rattle.operation_model.specs.Answers.{IsGranted, IsReply, MayAnswer, MayFollow, Unless, refused}
use Rattle.operation_model.specs.Courses.{claim_after, events_by, halt_after, verdict_of}
use Rattle.operation_model.specs.Deeds.{deed_of, nothing}
use Rattle.operation_model.specs.Openings.{Opening}
use Rattle.operation_model.specs.Turns.{Calls}
use Rattle.operation_model.proofs.CourseLaws.{halted-quiet, refused-quiet}
use Rattle.world_object.specs.declared.parts.ClusterParts.{ClusterParts}
use Rattle.world_object.specs.Answering.{Grants, Halts, IsGrantedTo, refused_by}
use Rattle.world_object.specs.Locked.{IsStep}
use Rattle.world_object.specs.Standing.{opening_of, state_of}
use Rattle.world_object.specs.State.{ClusterState, as_opening}

-- the reply to what is granted is no halt
not-halted : (o : Opening) (h : Calls) (op : Op) (w : List Event) (r : Reply) → IsGranted o h op w r → (v : Option Halt) → halt_after r v ≡ v
not-halted o h (ops.Claim n) w r done v = ap (λ x. halt_after x v) done
not-halted o h ops.Wake w r done v = ap (λ x. halt_after x v) done.1
not-halted o h (ops.Take a) w r done v = ap (λ x. halt_after x v) done.1
not-halted o h (ops.Act a (acts.Spawn b)) w r done v = ap (λ x. halt_after x v) done
not-halted o h (ops.Act a (acts.Send t refs)) w r done v = ap (λ x. halt_after x v) done
not-halted o h (ops.Act a (acts.Drop t)) w r done v = ap (λ x. halt_after x v) done
not-halted o h (ops.Act a acts.Retire) w r done v = ap (λ x. halt_after x v) done
not-halted o h (ops.Rest a locals) w r done v = ap (λ x. halt_after x v) done
not-halted o h (ops.Flush a) w r done v = ap (λ x. halt_after x v) done
not-halted o h (ops.Publish n) w r done v = ap (λ x. halt_after x v) done
not-halted o h (ops.Window d) w r done v = ap (λ x. halt_after x v) done
not-halted o h (ops.Remove d) w r done v = ap (λ x. halt_after x v) done
not-halted o h (ops.Carry f d) w r done v = ap (λ x. halt_after x v) done
not-halted o h (ops.Hand n x k) w r done v = ap (λ y. halt_after y v) done.2
not-halted o h (ops.Sweep u) w r done v = ap (λ x. halt_after x v) done
not-halted o h ops.GiveUp w r done v = absurd done
not-halted o h (ops.Refill skip) w r done v = ap (λ x. halt_after x v) done
not-halted o h ops.Finished w r done v = ap (λ x. halt_after x v) done

module _ (c : ClusterState) (pass : ℕ) (op : Op) (r : Reply) where
  abbrev o : Opening
  o = as_opening c

  -- nothing is done
  idle-step : deed_of op r ≡ nothing → IsReply o [] c.halt op r → (v : Option Halt) → v ≡ halt_after r c.halt → IsStep c pass op r (record c { halt = v })
  idle-step quiet answer v halt = record {
    answer = answer;
    script = refl;
    past = sym (ap (λ d. onto c.past (events_by c.script d c.past)) quiet);
    claims = λ n. sym (ap (λ d. claim_after d pass n (o.claims n)) quiet);
    halt = halt;
    verdicts = sym (ap (λ d. verdict_of d ++ c.verdicts) quiet);
  }

  -- the cluster had halted
  pub halted-step : (why : Halt) → c.halt ≡ Some why → r ≡ replies.Halted why → IsStep c pass op r c
  halted-step why halt is =
      idle-step (ap (deed_of op) is ∙ halted-quiet op why) (subst (λ v. IsReply o [] v op r) (sym halt) is) c.halt (halt ∙ sym (ap (λ x. halt_after x c.halt) is))

  -- the operation is refused
  pub refused-step : c.halt ≡ None → refused c.script o.claims op c.past ≡ Some r → IsStep c pass op r c
  refused-step halt is =
      let quiet = refused-quiet c.script o.claims op c.past r is in
      idle-step quiet.0 (subst (λ v. IsReply o [] v op r) (sym halt) (inl (subst (λ v. Unless v r (IsGranted o [] op c.past r)) (sym is) refl, subst (λ d. MayFollow c.script (events_by c.script d c.past) c.past) (sym quiet.0) tt)))
      c.halt (halt ∙ sym (ap (halt_after r) halt ∙ quiet.1))

-- the operation is granted
pub granted-step : (old new : ClusterParts) (pass : ℕ) (op : Op) (r : Reply) → old.halt ≡ None → refused_by old op ≡ None → IsGrantedTo pass op old new r → IsStep (state_of old) pass op r (state_of new)
granted-step old new pass op r halt none granted =
    let o = opening_of old in
    record {
      answer = subst (λ v. IsReply o [] v op r) (sym halt) (inl (subst (λ v. Unless v r (IsGranted o [] op o.past r)) (sym none) granted.granted, granted.follow));
      script = granted.script;
      past = granted.past;
      claims = granted.claims;
      halt = granted.halt ∙ sym (not-halted o [] op o.past r granted.granted old.halt);
      verdicts = granted.verdicts;
    }

-- the cluster halts
pub halts-step : (old : ClusterParts) (pass : ℕ) (op : Op) (why : Halt) → old.halt ≡ None → refused_by old op ≡ None → Halts old op why → IsStep (state_of old) pass op (replies.Halted why) (state_of (record old { halt = Some why }))
halts-step old pass op why halt none halts =
    let o = opening_of old in
    idle-step (state_of old) pass op (replies.Halted why) (halted-quiet op why) (subst (λ v. IsReply o [] v op (replies.Halted why)) (sym halt) (by_cause why halts)) (Some why) refl
  where
    by_cause : (w : Halt) → Halts old op w → MayAnswer (opening_of old) [] op (replies.Halted w)
    by_cause (Limit limit) would = inr (inl (limit, refl, (would.0, subst (λ v. Unless v would.0 (Grants old op would.0)) (sym none) would.1, would.2)))
    by_cause Memory would = inr (inr refl)
