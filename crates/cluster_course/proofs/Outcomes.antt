-- What a world answers, against what the definitions say of the event.
use Rattle.std.proofs.Common.{◌≡◌, Option, Some, None, Result, Ok, Err, refl, sym, true, subst}
use Rattle.std.specs.Prelude.{IfErr, IfOk, OnOk, unwrap_or}
use Rattle.std.specs.Result.{is_ok}
use Rattle.crgc_ids.specs.declared.NoMemory.{NoMemory}
use Rattle.crgc_ids.specs.declared.Which.{Which}
use Rattle.history_model.specs.declared.events.Event.{Event}
use Rattle.history_model.specs.declared.events.Rule.{Rule}
use Rattle.history_model.specs.Legal.{refusal}
use Rattle.history_model.specs.Story.{Story}
use Rattle.journal_model.specs.Limits.{limit_passed}
use Rattle.true_config.specs.Applying.{OnDone, UnlessDone, hindered, told_of}
use Rattle.true_config.specs.declared.applied.Applied.{Applied}
use Rattle.true_config.specs.declared.applied.Applied.TheVariants.{Done, Illegal, Limit as Limited}
use Rattle.true_config.specs.declared.applied.Told.{Told}
use Rattle.true_config.specs.Steps.{MayFollow}
use Rattle.cluster_course.specs.Course.{outcome_of}
use Rattle.cluster_course.specs.Halting.{IsHalt}
use Rattle.cluster_course.specs.declared.halt.Halt.{Halt}
use Rattle.cluster_course.specs.declared.halt.Halt.TheVariants as halts

-- what is so where the world did what it was asked
pub on-done : (r : Result Applied NoMemory) (u : Told) (P : Type 0) → OnDone r P → outcome_of r ≡ Ok u → P
on-done (Ok (Done told)) u P holds done = holds
on-done (Ok (Illegal broken)) u P holds done = absurd (cc)
on-done (Ok (Limited which)) u P holds done = absurd (cc)
on-done (Err e) u P holds done = absurd (cc)

-- what it told
pub done-told : (o : Option Rule) (l : Option Which) (t : Told) (r : Result Applied NoMemory) (u : Told) → IfOk r (λ x. x ≡ unwrap_or (hindered o l) (Done t)) → outcome_of r ≡ Ok u → u ≡ t
done-told (Some b) l t (Ok (Done told)) u is done = absurd (cc)
done-told None (Some w) t (Ok (Done told)) u is done = absurd (cc)
done-told None None t (Ok (Done told)) u is done = cc
done-told o l t (Ok (Illegal b)) u is done = absurd (cc)
done-told o l t (Ok (Limited w)) u is done = absurd (cc)
done-told o l t (Err e) u is done = absurd (cc)

-- and where it did not
pub unless-done : (r : Result Applied NoMemory) (h : Halt) (P : Type 0) → UnlessDone r P → outcome_of r ≡ Err h → P
unless-done (Ok (Done told)) h P holds halt = absurd (cc)
unless-done (Ok (Illegal broken)) h P holds halt = holds
unless-done (Ok (Limited which)) h P holds halt = holds
unless-done (Err e) h P holds halt = holds

-- where it did what it was asked, nothing hinders the event
done-free : (o : Option Rule) (l : Option Which) (t : Told) (r : Result Applied NoMemory) (u : Told) → IfOk r (λ x. x ≡ unwrap_or (hindered o l) (Done t)) → outcome_of r ≡ Ok u → (o ≡ None) × (l ≡ None)
done-free (Some b) l t (Ok (Done told)) u is done = absurd (cc)
done-free None (Some w) t (Ok (Done told)) u is done = absurd (cc)
done-free None None t (Ok (Done told)) u is done = (refl, refl)
done-free o l t (Ok (Illegal b)) u is done = absurd (cc)
done-free o l t (Ok (Limited w)) u is done = absurd (cc)
done-free o l t (Err e) u is done = absurd (cc)

-- a halt, by the rule and the limit that hinder
abbrev HaltsBy : Halt → Option Rule → Option Which → Type 0
HaltsBy (halts.Rule broken) o l = o ≡ Some broken
HaltsBy (halts.Limit which) o l = (o ≡ None) × (l ≡ Some which)
HaltsBy halts.NoMemory o l = Unit {0}

-- where it did not, that is what the definitions say, unless memory ran out
halts-by : (o : Option Rule) (l : Option Which) (t : Told) (r : Result Applied NoMemory) (h : Halt) → IfOk r (λ x. x ≡ unwrap_or (hindered o l) (Done t)) → outcome_of r ≡ Err h → HaltsBy h o l
halts-by o l t (Ok (Done told)) h is halt = absurd (cc)
halts-by (Some b) l t (Ok (Illegal broken)) h is halt =
    let same : halts.Rule b ≡ h = cc in
    subst (λ x. HaltsBy x (Some b) l) same refl
halts-by None (Some w) t (Ok (Illegal broken)) h is halt = absurd (cc)
halts-by None None t (Ok (Illegal broken)) h is halt = absurd (cc)
halts-by (Some b) l t (Ok (Limited which)) h is halt = absurd (cc)
halts-by None (Some w) t (Ok (Limited which)) h is halt =
    let same : halts.Limit w ≡ h = cc in
    subst (λ x. HaltsBy x None (Some w)) same (refl, refl)
halts-by None None t (Ok (Limited which)) h is halt = absurd (cc)
halts-by o l t (Err e) h is halt =
    let same : halts.NoMemory ≡ h = cc in
    subst (λ x. HaltsBy x o l) same tt

halt-is : (e : Event) (s : Story) (h : Halt) → HaltsBy h (refusal s.cluster e s.past) (limit_passed s.cluster e s.past) → IsHalt h e s
halt-is e s (halts.Rule broken) by = by
halt-is e s (halts.Limit which) by = by
halt-is e s halts.NoMemory by = tt

-- the world's answer to the event
abbrev pub Answers : Event → Story → Result Applied NoMemory → Type 0
Answers e s r = IfOk r (λ x. x ≡ unwrap_or (hindered (refusal s.cluster e s.past) (limit_passed s.cluster e s.past)) (Done (told_of e s.past)))

pub may-follow : (e : Event) (s : Story) (r : Result Applied NoMemory) (u : Told) → Answers e s r → outcome_of r ≡ Ok u → MayFollow e s
may-follow e s r u answer done =
    let free = done-free (refusal s.cluster e s.past) (limit_passed s.cluster e s.past) (told_of e s.past) r u answer done in
    record { legal = free.0; limit = free.1 }

pub tells : (e : Event) (s : Story) (r : Result Applied NoMemory) (u : Told) → Answers e s r → outcome_of r ≡ Ok u → u ≡ told_of e s.past
tells e s r u answer done = done-told (refusal s.cluster e s.past) (limit_passed s.cluster e s.past) (told_of e s.past) r u answer done

pub is-halt : (e : Event) (s : Story) (r : Result Applied NoMemory) (h : Halt) → Answers e s r → outcome_of r ≡ Err h → IsHalt h e s
is-halt e s r h answer halt = halt-is e s h (halts-by (refusal s.cluster e s.past) (limit_passed s.cluster e s.past) (told_of e s.past) r h answer halt)

-- what came of the event is what the world was told
module _ (e : Event) (s : Story) (r : Result Applied NoMemory) (answer : Answers e s r) (w : Result Told Halt) (is : w ≡ outcome_of r) where
  pub outcome-told : IfOk w (λ told. told ≡ told_of e s.past)
  outcome-told = subst (λ x. IfOk x (λ told. told ≡ told_of e s.past)) (sym is) (by r answer)
    where
      by : (x : Result Applied NoMemory) → Answers e s x → IfOk (outcome_of x) (λ told. told ≡ told_of e s.past)
      by (Ok (Done told)) done = tells e s (Ok (Done told)) told done refl
      by (Ok (Illegal broken)) done = tt
      by (Ok (Limited which)) done = tt
      by (Err none) done = tt

  pub outcome-may : OnOk w (MayFollow e s)
  outcome-may = subst (λ x. OnOk x (MayFollow e s)) (sym is) (by r answer)
    where
      by : (x : Result Applied NoMemory) → Answers e s x → OnOk (outcome_of x) (MayFollow e s)
      by (Ok (Done told)) done = may-follow e s (Ok (Done told)) told done refl
      by (Ok (Illegal broken)) done = tt
      by (Ok (Limited which)) done = tt
      by (Err none) done = tt

  pub outcome-halt : IfErr w (λ h. IsHalt h e s)
  outcome-halt = subst (λ x. IfErr x (λ h. IsHalt h e s)) (sym is) (by r answer)
    where
      by : (x : Result Applied NoMemory) → Answers e s x → IfErr (outcome_of x) (λ h. IsHalt h e s)
      by (Ok (Done told)) done = tt
      by (Ok (Illegal broken)) done = is-halt e s (Ok (Illegal broken)) (halts.Rule broken) done refl
      by (Ok (Limited which)) done = is-halt e s (Ok (Limited which)) (halts.Limit which) done refl
      by (Err none) done = tt

-- what is so where there is an answer
pub on-ok : {X E : Type 0} (r : Result X E) (P : Type 0) → is_ok r ≡ true → OnOk r P → P
on-ok (Ok x) P is holds = holds
on-ok (Err e) P is holds = absurd (cc)
