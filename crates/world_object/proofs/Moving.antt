-- One call of a cluster, as one more call of the course that the cluster stands for.
use Rattle.std.proofs.Common.{◌≡◌, ◌++◌, ℕ, true, false, List, [], ◌∷◌, Option, Some, None, refl, sym, ◌∙◌, ap, subst, inl, inr}
use Rattle.std.proofs.lemmas.List.{append_assoc}
use Rattle.crgc_ids.specs.Actor.{Actor}
use Rattle.crgc_ids.specs.declared.Which.{Which}
use Rattle.turn_lock.specs.History.{entry}
use Rattle.history_model.specs.declared.events.Event.{Event}
use Rattle.history_model.specs.declared.events.Event.TheVariants as events
use Rattle.history_model.specs.Cluster.{is_born}
use Rattle.history_model.specs.Legal.{checks}
use Rattle.history_model.specs.Messages.{waiting}
use Rattle.history_model.specs.State.{is_busy}
use Rattle.history_model.proofs.Basics.{first_broken-none}
use Rattle.behaviour_lang.specs.declared.act.List.{List as Lists}
use Rattle.behaviour_lang.specs.declared.act.List.TheVariants as lists
use Rattle.script_reader.specs.Valid.{Scripted}
use Rattle.run_model.specs.Doing.{cluster_of, first_refs}
use Rattle.operation_model.specs.declared.operations.Op.{Op}
use Rattle.operation_model.specs.declared.operations.Op.TheVariants as ops
use Rattle.operation_model.specs.declared.replies.Halt.{Halt}
use Rattle.operation_model.specs.declared.replies.Reply.{Reply}
use Rattle.operation_model.specs.Answers.{AreLegal, IsAnswer, IsBegun, IsGranted, IsMade, IsReply, MayAnswer, Unless, WouldPass, refused}
use Rattle.operation_model.specs.Courses.{behaviour_at, claim_at, events_by, halt_at, names_at, verdict_of, verdicts, world}
use Rattle.operation_model.specs.Deeds.{Begun, deed_of}
use Rattle.operation_model.specs.Fits.{Fits}
use Rattle.operation_model.specs.Kept.{KeepsTurns, open_turns}
use Rattle.operation_model.specs.Openings.{IsSoundOpening, Opening}
use Rattle.operation_model.specs.Turns.{Calls}
use Rattle.operation_model.proofs.GrantedTurns.{not-true}
use Rattle.operation_model.proofs.LegalGrants.{granted-legal}
use Rattle.operation_model.proofs.SoundCourses.{sound-course}
use Rattle.world_object.specs.Locked.{IsStateOf, IsStep}
use Rattle.world_object.specs.State.{ClusterState, as_opening}

module _ (start : ClusterState) (h : Calls) (before : ClusterState) (is : IsStateOf start h before) (sound : IsSoundOpening (as_opening before)) (start_sound : IsSoundOpening (as_opening start)) where
  abbrev O : Opening
  O = as_opening start

  abbrev B : Opening
  B = as_opening before

  abbrev S : Scripted
  S = start.script

  abbrev W : List Event
  W = world O h

  -- the cluster, with what the course says of it
  abbrev moved : Opening
  moved = record {
    script = S;
    past = W;
    behaviours = B.behaviours;
    names = B.names;
    claims = claim_at O h;
    halt = halt_at O h;
  }

  same : B ≡ moved
  same = λ i. record {
    script = is.script i;
    past = is.past i;
    behaviours = B.behaviours;
    names = B.names;
    claims = λ n. is.claims n i;
    halt = is.halt i;
  }

  moved-sound : IsSoundOpening moved
  moved-sound = subst IsSoundOpening same sound

  keeps : KeepsTurns S W (open_turns h) (names_at O h) (behaviour_at O h)
  keeps = (sound-course O start_sound h is.course).1

  -- who is born and in no turn has the names and the behaviour of the course
  begun-moves : (list : Lists) (refs : List Actor) (b : Begun) → is_born b.actor W ≡ true → is_busy b.actor W ≡ false → IsBegun moved [] list refs b → IsBegun O h list refs b
  begun-moves list refs b born idle begun = record {
    behaviour = begun.behaviour ∙ moved-sound.behaviours b.actor born ∙ sym (keeps.behaviours_are b.actor born);
    list_is = begun.list_is;
    names = begun.names ∙ moved-sound.names b.actor born idle ∙ sym (keeps.names_are b.actor born idle);
    refs_are = begun.refs_are;
    root = begun.root;
  }

  module _ (pass : ℕ) where
    wake-moves : (r : Reply) → refused S (claim_at O h) ops.Wake W ≡ None → IsGranted moved [] ops.Wake W r → IsGranted O h ops.Wake W r
    wake-moves r none done =
        let b = done.0 in
        let legal = subst (λ x. AreLegal S (events_by S (deed_of ops.Wake x) W) W) done.1 (granted-legal moved moved-sound [] tt pass ops.Wake r tt none done) in
        let kept = first_broken-none (checks (cluster_of S) (events.Wake b.actor) W) legal.0 in
        (b, done.1, done.2, begun-moves lists.Wake [] b kept.0 (not-true (is_busy b.actor W) kept.1.1.1.0) done.3)

    take-moves : (a : Actor) (r : Reply) → refused S (claim_at O h) (ops.Take a) W ≡ None → IsGranted moved [] (ops.Take a) W r → IsGranted O h (ops.Take a) W r
    take-moves a r none done =
        let b = done.0 in
        let legal = subst (λ x. AreLegal S (events_by S (deed_of (ops.Take a) x) W) W) done.1 (granted-legal moved moved-sound [] tt pass (ops.Take a) r tt none done) in
        let kept = first_broken-none (checks (cluster_of S) (events.Take b.actor) W) legal.0 in
        (b, done.1, done.2, begun-moves lists.Message (first_refs (waiting a W)) b kept.0 (not-true (is_busy b.actor W) kept.1.1.0) done.3)

    -- what is granted as to a lock made with the cluster is granted after the course
    granted-moves : (op : Op) (r : Reply) → refused S (claim_at O h) op W ≡ None → IsGranted moved [] op W r → IsGranted O h op W r
    granted-moves (ops.Claim n) r none done = done
    granted-moves ops.Wake r none done = wake-moves r none done
    granted-moves (ops.Take a) r none done = take-moves a r none done
    granted-moves (ops.Act a act) r none done = done
    granted-moves (ops.Rest a locals) r none done = done
    granted-moves (ops.Flush a) r none done = done
    granted-moves (ops.Publish n) r none done = done
    granted-moves (ops.Window d) r none done = done
    granted-moves (ops.Remove d) r none done = done
    granted-moves (ops.Carry f d) r none done = done
    granted-moves (ops.Hand n x k) r none done = done
    granted-moves (ops.Sweep v) r none done = done
    granted-moves ops.GiveUp r none done = done
    granted-moves (ops.Refill skip) r none done = done
    granted-moves ops.Finished r none done = done

    module _ (op : Op) where
      answer-moves : (r : Reply) → IsAnswer moved [] op r → IsAnswer O h op r
      answer-moves r answer =
          elim (refused S (claim_at O h) op W) as (λ v. refused S (claim_at O h) op W ≡ v → Unless v r (IsGranted moved [] op W r) → Unless v r (IsGranted O h op W r)) [
            | None ↦ λ none done. granted-moves op r none done
            | Some x ↦ λ _ e. e
          ] refl answer

      made-moves : (r : Reply) → IsMade moved [] op r → IsMade O h op r
      made-moves r made = (answer-moves r made.0, made.1)

      would-moves : (limit : Which) → WouldPass moved [] op limit → WouldPass O h op limit
      would-moves limit would = (would.0, answer-moves would.0 would.1, would.2)

      may-moves : (r : Reply) → MayAnswer moved [] op r → MayAnswer O h op r
      may-moves r (inl made) = inl (made-moves r made)
      may-moves r (inr (inl limit)) = inr (inl (limit.0, limit.1, would-moves limit.0 limit.2))
      may-moves r (inr (inr memory)) = inr (inr memory)

      reply-moves : (r : Reply) (v : Option Halt) → IsReply moved [] v op r → IsReply O h v op r
      reply-moves r (Some why) e = e
      reply-moves r None answer = may-moves r answer

      -- the cluster after the call stands for the course with the call
      pub step-stands : (r : Reply) (after : ClusterState) → Fits O h op pass → IsStep before pass op r after → IsStateOf start (entry pass op r ∷ h) after
      step-stands r after fit step = record {
        course = (fit, reply-moves r (halt_at O h) (subst (λ o. IsReply o [] o.halt op r) same step.answer), is.course);
        script = step.script ∙ is.script;
        past = step.past ∙ ap (λ o. world o (entry pass op r ∷ [])) same;
        claims = λ n. step.claims n ∙ ap (λ o. claim_at o (entry pass op r ∷ []) n) same;
        halt = step.halt ∙ ap (λ o. halt_at o (entry pass op r ∷ [])) same;
        verdicts = step.verdicts ∙ ap (λ vs. verdict_of (deed_of op r) ++ vs) is.verdicts ∙ sym (append_assoc (verdict_of (deed_of op r)) (verdicts h) start.verdicts);
      }
