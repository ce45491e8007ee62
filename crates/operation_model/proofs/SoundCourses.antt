-- In a lock that was made with a sound cluster the world stays sound, and so what fits of a turn is legal.
use Rattle.std.proofs.Common.{◌≡◌, ◌==◌, ℕ, Bool, true, false, List, [], ◌∷◌, option_map, option_to_list, Option, Some, None, refl, sym, ◌∙◌, ap, subst, if◌then◌else◌, inl, inr}
use Rattle.std.proofs.lemmas.Option.{none-some}
use Rattle.crgc_ids.specs.Actor.{Actor}
use Rattle.turn_lock.specs.History.{entry}
use Rattle.history_model.specs.declared.events.Event.{Event}
use Rattle.history_model.specs.declared.events.Event.TheVariants as events
use Rattle.history_model.specs.Legal.{refusal}
use Rattle.history_model.specs.Rows.{onto}
use Rattle.history_model.specs.State.{is_up}
use Rattle.behaviour_lang.specs.Bound.{Names}
use Rattle.behaviour_lang.specs.declared.act.Act.{Act}
use Rattle.script_reader.specs.Valid.{Scripted}
use Rattle.run_model.specs.Doing.{cluster_of, event_of}
use Rattle.run_model.specs.Follows.{added, queued}
use Rattle.run_model.specs.Planned.{crash_due}
use Rattle.run_model.specs.declared.round_laws.TheConstants.{FLUSHES_PER_PUBLISH}
use Rattle.run_model.proofs.Runs.{IsSound, run-sound, sound-due, sound-next}
use Rattle.run_model.proofs.SeedsLegal.{beginning-legal}
use Rattle.operation_model.specs.declared.operations.Op.{Op}
use Rattle.operation_model.specs.declared.operations.Op.TheVariants as ops
use Rattle.operation_model.specs.declared.replies.Halt.{Halt}
use Rattle.operation_model.specs.declared.replies.Halt.TheVariants.{Limit, Memory}
use Rattle.operation_model.specs.declared.replies.Reply.{Reply}
use Rattle.operation_model.specs.Answers.{IsCourse, IsGranted, IsReply, MayAnswer, MayFollow, Unless, refused}
use Rattle.operation_model.specs.Courses.{behaviour_at, claim_at, event_by, events_by, halt_at, names_at, with_added, world}
use Rattle.operation_model.specs.Deeds.{deed_of, nothing}
use Rattle.operation_model.specs.Fits.{Fits}
use Rattle.operation_model.specs.Kept.{KeepsTurns, open_turns}
use Rattle.operation_model.specs.Openings.{IsNew, IsSoundOpening, Opening}
use Rattle.operation_model.specs.Turns.{Calls, IsNextAct, IsWholeTurn, Open}
use Rattle.operation_model.proofs.CourseLaws.{halted-quiet, kept-start, refused-quiet, world-nothing}
use Rattle.operation_model.proofs.Frames.{still}
use Rattle.operation_model.proofs.GrantedTurns.{IsTurnStep, act-due_now, actor-busy, granted-turns, if-open, none-due_now}
use Rattle.operation_model.proofs.Keeping.{keeps-same, keeps-still}
use Rattle.operation_model.proofs.Kept.{LeavesTurns, leaves-turns, same-turns}

-- the world is sound, and the calls tell of turns, names and behaviours what is so in it
abbrev IsSoundIn : Scripted → List Event → (ℕ → Option Open) → (Actor → Names) → (Actor → ℕ) → Type 0
IsSoundIn s w turns names behaviours = IsSound s w × KeepsTurns s w turns names behaviours

module _ (s : Scripted) (turns : ℕ → Option Open) (names : Actor → Names) (behaviours : Actor → ℕ) where
  abbrev At : List Event → Type 0
  At w = IsSoundIn s w turns names behaviours

  -- a crash, or a publish, that is added
  still-added : (n : ℕ) (w : List Event) → At w → refusal (cluster_of s) (events.Crash n) w ≡ None → At (events.Crash n ∷ w)
  still-added n w at legal = (
    sound-next s (events.Crash n) w at.0 legal tt,
    keeps-still s w turns turns names names behaviours behaviours at.1 (events.Crash n) (still s (events.Crash n) w refl) (λ q. refl) (λ a. refl) (λ a. refl),
  )

  publish-added : (n : ℕ) (w : List Event) → At w → refusal (cluster_of s) (events.Publish n) w ≡ None → At (events.Publish n ∷ w)
  publish-added n w at legal = (
    sound-next s (events.Publish n) w at.0 legal tt,
    keeps-still s w turns turns names names behaviours behaviours at.1 (events.Publish n) (still s (events.Publish n) w refl) (λ q. refl) (λ a. refl) (λ a. refl),
  )

  rest-added : (a : Actor) (w : List Event) (v : Option ℕ) → At (events.Rest a ∷ w) → MayFollow s (option_to_list (option_map events.Crash v)) (events.Rest a ∷ w) → At (onto (events.Rest a ∷ w) (option_to_list (option_map events.Crash v)))
  rest-added a w None at follow = at
  rest-added a w (Some n) at follow = still-added n (events.Rest a ∷ w) at follow.0

  flush-added : (a : Actor) (w : List Event) (v : Bool) → At (events.Flush a ∷ w) → MayFollow s (option_to_list (if v then Some (events.Publish a.node) else None)) (events.Flush a ∷ w)
      → At (onto (events.Flush a ∷ w) (option_to_list (if v then Some (events.Publish a.node) else None)))
  flush-added a w false at follow = at
  flush-added a w true at follow = publish-added a.node (events.Flush a ∷ w) at follow.0

  with-second : (e : Event) (w : List Event) → At (e ∷ w) → MayFollow s (option_to_list (added s e w)) (e ∷ w) → At (onto (e ∷ w) (option_to_list (added s e w)))
  with-second (events.Rest a) w at follow = rest-added a w (crash_due s (events.Rest a ∷ w)) at follow
  with-second (events.Flush a) w at follow = flush-added a w (queued a.node (events.Flush a ∷ w) == FLUSHES_PER_PUBLISH) at follow
  with-second e w at follow = at

abbrev IsSoundAt : Opening → Calls → Type 0
IsSoundAt o h = IsSoundIn o.script (world o h) (open_turns h) (names_at o h) (behaviour_at o h)

sound-step : (o : Opening) (h later : Calls) (v : Option Event) → IsSoundAt o h → IsTurnStep o later (world o h) v → MayFollow o.script (with_added o.script v (world o h)) (world o h)
    → IsSoundIn o.script (onto (world o h) (with_added o.script v (world o h))) (open_turns later) (names_at o later) (behaviour_at o later)
sound-step o h later None at step follow = (at.0, step)
sound-step o h later (Some e) at step follow =
    let shown = step follow.0 in
    with-second o.script (open_turns later) (names_at o later) (behaviour_at o later) e (world o h)
    (sound-next o.script e (world o h) at.0 follow.0 shown.0, shown.1) follow.2

module _ (o : Opening) (h : Calls) (at : IsSoundAt o h) (p : ℕ) (op : Op) (r : Reply) where
  sound-nothing : deed_of op r ≡ nothing → IsSoundAt o (entry p op r ∷ h)
  sound-nothing is =
      let same : LeavesTurns (deed_of op r) = subst LeavesTurns (sym is) (leaves-turns nothing refl) in
      subst (λ w. IsSoundIn o.script w (open_turns (entry p op r ∷ h)) (names_at o (entry p op r ∷ h)) (behaviour_at o (entry p op r ∷ h)))
      (sym (world-nothing o h p op r is)) (
        at.0,
        keeps-same o.script (world o h) (open_turns h) (open_turns (entry p op r ∷ h)) (names_at o h) (names_at o (entry p op r ∷ h)) (behaviour_at o h) (behaviour_at o (entry p op r ∷ h)) at.1
            (same-turns p op r h same) (λ a. same.names a (names_at o h a)) (λ a. same.behaviours a (behaviour_at o h a)),
      )

  sound-made : Fits o h op p → (v : Option Reply) → refused o.script (claim_at o h) op (world o h) ≡ v → Unless v r (IsGranted o h op (world o h) r) → MayFollow o.script (events_by o.script (deed_of op r) (world o h)) (world o h) → IsSoundAt o (entry p op r ∷ h)
  sound-made fit (Some x) is answer follow = sound-nothing (ap (deed_of op) answer ∙ (refused-quiet o.script (claim_at o h) op (world o h) x is).0)
  sound-made fit None is answer follow =
      sound-step o h (entry p op r ∷ h) (event_by o.script (deed_of op r) (world o h)) at (granted-turns o h at.1 at.0 p op r fit answer) follow

  sound-answered : Fits o h op p → MayAnswer o h op r → IsSoundAt o (entry p op r ∷ h)
  sound-answered fit (inl made) = sound-made fit (refused o.script (claim_at o h) op (world o h)) refl made.0 made.1
  sound-answered fit (inr (inl limit)) = sound-nothing (ap (deed_of op) limit.1 ∙ halted-quiet op (Limit limit.0))
  sound-answered fit (inr (inr memory)) = sound-nothing (ap (deed_of op) memory ∙ halted-quiet op Memory)

  sound-reply : Fits o h op p → (v : Option Halt) → IsReply o h v op r → IsSoundAt o (entry p op r ∷ h)
  sound-reply fit (Some why) is = sound-nothing (ap (deed_of op) is ∙ halted-quiet op why)
  sound-reply fit None answer = sound-answered fit answer

pub sound-course : (o : Opening) → IsSoundOpening o → (h : Calls) → IsCourse o h → IsSound o.script (world o h) × KeepsTurns o.script (world o h) (open_turns h) (names_at o h) (behaviour_at o h)
sound-course o opening [] course = (
  opening.sound,
  record {
    running = λ p t is. absurd (none-some t is);
    apart = λ p q t u is is_other one. absurd (none-some t is);
    names_are = opening.names;
    behaviours_are = opening.behaviours;
  },
)
sound-course o opening (e ∷ h) course = sound-reply o h (sound-course o opening h course.2) e.pass e.op e.reply course.0 (halt_at o h) course.1

-- the cluster of a script is sound
pub new-sound : (o : Opening) → IsNew o → IsSoundOpening o
new-sound o new =
    let start = kept-start o new in
    record {
      sound = run-sound o.script o.past (beginning-legal o.script new.ranges) start.run;
      names = start.keeps.names_are;
      behaviours = start.keeps.behaviours_are;
    }

module _ (o : Opening) (opening : IsSoundOpening o) (h : Calls) (course : IsCourse o h) (a : Actor) (p : ℕ) (up : is_up a.node (world o h) ≡ true) where
  -- an act that fits is legal
  pub act-legal : (act : Act) → Fits o h (ops.Act a act) p → refusal (cluster_of o.script) (event_of a (Some act)) (world o h) ≡ None
  act-legal act fit =
      let at = sound-course o opening h course in
      let s = o.script in
      let turn = if-open (IsNextAct s.code a act) (open_turns h p) fit in
      let due_now = act-due_now o h at.1 at.0 p a act turn.0 turn.1 turn.2 in
      subst (λ e. refusal (cluster_of o.script) e (world o h) ≡ None) (ap (event_of a) due_now)
      (sound-due o.script a (world o h) at.0 (actor-busy o h at.1 at.0 p a turn.0 turn.1 turn.2.0) up)

  -- and so is a rest that fits
  pub rest-legal : (locals : List (List ℕ × Actor)) → Fits o h (ops.Rest a locals) p → refusal (cluster_of o.script) (events.Rest a) (world o h) ≡ None
  rest-legal locals fit =
      let at = sound-course o opening h course in
      let s = o.script in
      let turn = if-open (IsWholeTurn s.code a locals) (open_turns h p) fit in
      let none = none-due_now o h at.1 at.0 p a locals turn.0 turn.1 turn.2 in
      subst (λ e. refusal (cluster_of o.script) e (world o h) ≡ None) (ap (event_of a) none)
      (sound-due o.script a (world o h) at.0 (actor-busy o h at.1 at.0 p a turn.0 turn.1 turn.2.0) up)
