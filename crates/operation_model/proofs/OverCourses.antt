-- Once nothing was left to do at a call of a course, the run is over.
use Rattle.std.proofs.Common.{◌≡◌, ◌==◌, ◌&&◌, ◌||◌, ℕ, Bool, true, false, not, List, [], ◌∷◌, Option, Some, None, refl, sym, ◌∙◌, ap, subst, inl, inr}
use Rattle.std.proofs.lemmas.Bool.{false≢true}
use Rattle.turn_lock.specs.History.{entry}
use Rattle.history_model.specs.declared.events.Event.{Event}
use Rattle.history_model.specs.Live.{busy_count, live_count}
use Rattle.history_model.specs.Rows.{onto}
use Rattle.behaviour_lang.specs.declared.act.Act.{Act}
use Rattle.behaviour_lang.specs.declared.act.Act.TheVariants as acts
use Rattle.script_reader.specs.Valid.{Scripted}
use Rattle.run_model.specs.Doing.{cluster_of}
use Rattle.run_model.specs.Follows.{is_over}
use Rattle.run_model.specs.Planned.{crash_due, is_within_budget, planned}
use Rattle.operation_model.specs.declared.operations.Op.{Op}
use Rattle.operation_model.specs.declared.operations.Op.TheVariants as ops
use Rattle.operation_model.specs.declared.replies.Halt.{Halt}
use Rattle.operation_model.specs.declared.replies.Halt.TheVariants.{Limit, Memory}
use Rattle.operation_model.specs.declared.replies.Reply.{Reply}
use Rattle.operation_model.specs.Answers.{IsCourse, IsGranted, IsReply, MayAnswer, MayFollow, act_reply, is_unfinished, refusals, refused}
use Rattle.operation_model.specs.Courses.{claim_at, event_by, halt_at, is_end, was_all_done, with_added, world}
use Rattle.operation_model.specs.Deeds.{deed_of, nothing}
use Rattle.operation_model.specs.Fits.{Fits}
use Rattle.operation_model.specs.Kept.{IsKept}
use Rattle.operation_model.specs.Openings.{IsNew, Opening}
use Rattle.operation_model.specs.Turns.{Calls}
use Rattle.operation_model.proofs.CourseLaws.{by_answer, halted-quiet, kept-course, kept-sound, world-nothing}
use Rattle.operation_model.proofs.Granted.{none-holds}
use Rattle.operation_model.proofs.Kept.{IsStep}
use Rattle.operation_model.proofs.Over.{stays-over}

-- of the operations that are granted only one finds that nothing is left to do
only-finished : (o : Opening) (h : Calls) (op : Op) (w : List Event) (r : Reply) → IsGranted o h op w r → refused o.script (claim_at o h) op w ≡ None → is_end (deed_of op r) ≡ true → is_unfinished o.script w ≡ false
only-finished o h (ops.Claim n) w r done not_refused ends = absurd (false≢true (subst (λ x. is_end (deed_of (ops.Claim n) x) ≡ true) done ends))
only-finished o h ops.Wake w r done not_refused ends = absurd (false≢true (subst (λ x. is_end (deed_of ops.Wake x) ≡ true) done.1 ends))
only-finished o h (ops.Take a) w r done not_refused ends = absurd (false≢true (subst (λ x. is_end (deed_of (ops.Take a) x) ≡ true) done.1 ends))
only-finished o h (ops.Act a act) w r done not_refused ends = absurd (no-end act (subst (λ x. is_end (deed_of (ops.Act a act) x) ≡ true) done ends))
  where
    no-end : (act : Act) → is_end (deed_of (ops.Act a act) (act_reply a act w)) ≡ true → ⊥
    no-end (acts.Spawn b) is = false≢true is
    no-end (acts.Send t refs) is = false≢true is
    no-end (acts.Drop t) is = false≢true is
    no-end acts.Retire is = false≢true is
only-finished o h (ops.Rest a locals) w r done not_refused ends = absurd (false≢true (subst (λ x. is_end (deed_of (ops.Rest a locals) x) ≡ true) done ends))
only-finished o h (ops.Flush a) w r done not_refused ends = absurd (false≢true (subst (λ x. is_end (deed_of (ops.Flush a) x) ≡ true) done ends))
only-finished o h (ops.Publish n) w r done not_refused ends = absurd (false≢true (subst (λ x. is_end (deed_of (ops.Publish n) x) ≡ true) done ends))
only-finished o h (ops.Window d) w r done not_refused ends = absurd (false≢true (subst (λ x. is_end (deed_of (ops.Window d) x) ≡ true) done ends))
only-finished o h (ops.Remove d) w r done not_refused ends = absurd (false≢true (subst (λ x. is_end (deed_of (ops.Remove d) x) ≡ true) done ends))
only-finished o h (ops.Carry f d) w r done not_refused ends = absurd (false≢true (subst (λ x. is_end (deed_of (ops.Carry f d) x) ≡ true) done ends))
only-finished o h (ops.Hand n x k) w r done not_refused ends = absurd (false≢true (subst (λ y. is_end (deed_of (ops.Hand n x k) y) ≡ true) done.2 ends))
only-finished o h (ops.Sweep v) w r done not_refused ends = absurd (false≢true (subst (λ x. is_end (deed_of (ops.Sweep v) x) ≡ true) done ends))
only-finished o h ops.GiveUp w r done not_refused ends = absurd done
only-finished o h (ops.Refill skip) w r done not_refused ends = absurd (false≢true ends)
only-finished o h ops.Finished w r done not_refused ends = (none-holds (refusals o.script (claim_at o h) ops.Finished w) not_refused).0

-- so nothing is left in the world
finished-over : (s : Scripted) (w : List Event) → crash_due s w ≡ None → is_unfinished s w ≡ false → is_over s w ≡ true
finished-over s w none not_unfinished =
    let cl = cluster_of s in
    rw none (by_tests (busy_count cl w == 0) (is_within_budget s w) (live_count cl w == 0) (planned s w == 0) not_unfinished)
  where
    by_tests : (idle within quiet unplanned : Bool) → (not idle || (within && (not quiet || not unplanned))) ≡ false → (idle && (not within || (quiet && unplanned))) ≡ true
    by_tests false within quiet unplanned e = absurd (false≢true (sym e))
    by_tests true false quiet unplanned e = refl
    by_tests true true false unplanned e = absurd (false≢true (sym e))
    by_tests true true true false e = absurd (false≢true (sym e))
    by_tests true true true true e = refl

module _ (o : Opening) (new : IsNew o) where
  abbrev S : Scripted
  S = o.script

  -- it stays so
  step-over : (h later : Calls) (k : IsKept o h) (v : Option Event) → IsStep o later (world o h) v → MayFollow S (with_added S v (world o h)) (world o h) → is_over S (world o h) ≡ true → is_over S (onto (world o h) (with_added S v (world o h))) ≡ true
  step-over h later k None step follow over = over
  step-over h later k (Some e) step follow over = stays-over S e (world o h) (kept-sound o new h k).0 k.none_due over (step follow.0).0.0 follow

  module _ (h : Calls) (k : IsKept o h) (earlier : was_all_done h ≡ true → is_over S (world o h) ≡ true) (p : ℕ) (op : Op) (r : Reply) (fit : Fits o h op p) (was : (is_end (deed_of op r) || was_all_done h) ≡ true) where
    -- what does nothing leaves it so
    over-nothing : deed_of op r ≡ nothing → is_over S (world o (entry p op r ∷ h)) ≡ true
    over-nothing quiet =
        subst (λ w. is_over S w ≡ true) (sym (world-nothing o h p op r quiet))
        (earlier (subst (λ d. (is_end d || was_all_done h) ≡ true) quiet was))

    -- it was so before, or is found to be so by this call
    over-before : IsGranted o h op (world o h) r → refused S (claim_at o h) op (world o h) ≡ None → is_over S (world o h) ≡ true
    over-before done not_refused =
        elim (is_end (deed_of op r)) as (λ v. is_end (deed_of op r) ≡ v → (v || was_all_done h) ≡ true → is_over S (world o h) ≡ true) [
          | true ↦ λ ends _. finished-over S (world o h) k.none_due (only-finished o h op (world o h) r done not_refused ends)
          | false ↦ λ _ before. earlier before
        ] refl was

    over-answered : MayAnswer o h op r → is_over S (world o (entry p op r ∷ h)) ≡ true
    over-answered (inl made) =
        by_answer o new h k p op fit r (is_over S (world o (entry p op r ∷ h)) ≡ true)
        (λ quiet _. over-nothing quiet)
        (λ not_refused done step. step-over h (entry p op r ∷ h) k (event_by S (deed_of op r) (world o h)) step made.1 (over-before done not_refused))
        (refused S (claim_at o h) op (world o h)) refl made.0
    over-answered (inr (inl limit)) = over-nothing (ap (deed_of op) limit.1 ∙ halted-quiet op (Limit limit.0))
    over-answered (inr (inr memory)) = over-nothing (ap (deed_of op) memory ∙ halted-quiet op Memory)

    over-reply : (v : Option Halt) → IsReply o h v op r → is_over S (world o (entry p op r ∷ h)) ≡ true
    over-reply (Some why) is = over-nothing (ap (deed_of op) is ∙ halted-quiet op why)
    over-reply None answer = over-answered answer

  pub over-course : (h : Calls) → IsCourse o h → was_all_done h ≡ true → is_over S (world o h) ≡ true
  over-course [] course was = absurd (false≢true was)
  over-course (e ∷ h) course was =
      over-reply h (kept-course o new h course.2) (over-course h course.2) e.pass e.op e.reply course.0 was (halt_at o h) course.1
