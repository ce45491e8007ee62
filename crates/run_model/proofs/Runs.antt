-- Each run is legal, and in it the acts of turns are legal.
use Rattle.std.proofs.Common.{◌≡◌, ℕ, true, List, [], ◌∷◌, ◌++◌, Option, Some, None, refl, sym, subst, ◌&&◌, is_none}
use Rattle.std.proofs.lemmas.Bool.{and_parts, false≢true}
use Rattle.crgc_ids.specs.Actor.{Actor, same_actor}
use Rattle.history_model.specs.declared.events.Event.{Event}
use Rattle.history_model.specs.declared.events.Event.TheVariants.{Seed, Tie, Spawn, Send, Drop, Retire}
use Rattle.history_model.specs.Legal.{IsLegal, refusal}
use Rattle.history_model.specs.State.{is_busy, is_up}
use Rattle.history_model.proofs.Basics.{same_actor-equal, same_actor-refl}
use Rattle.behaviour_lang.specs.Steps.{due_act}
use Rattle.behaviour_lang.specs.declared.act.Act.{Act}
use Rattle.behaviour_lang.specs.declared.act.Act.TheVariants as acts
use Rattle.script_reader.specs.Valid.{Scripted}
use Rattle.run_model.specs.Doing.{beginning, cluster_of, doing, due, event_of}
use Rattle.run_model.specs.Planned.{crash_due}
use Rattle.run_model.specs.Follows.{IsRun, are_allowed, fits, is_allowed, is_on_time, same_actors, same_event}
use Rattle.run_model.proofs.ActsLegal.{due-legal}
use Rattle.run_model.proofs.Beginnings.{beginning-holds}
use Rattle.run_model.proofs.HeldNames.{IsDue, holds-next}
use Rattle.run_model.proofs.Possible.{no-rule}
pub use Rattle.run_model.specs.Sound.{IsSound}

-- ---- events that test the same

same_actors-equal : (as_ bs : List Actor) → same_actors as_ bs ≡ true → as_ ≡ bs
same_actors-equal [] [] e = refl
same_actors-equal [] (b ∷ bs) e = absurd (false≢true e)
same_actors-equal (a ∷ as_) [] e = absurd (false≢true e)
same_actors-equal (a ∷ as_) (b ∷ bs) e =
    let both = and_parts (same_actor a b) (same_actors as_ bs) e in
    let first = same_actor-equal a b both.0 in
    let rest = same_actors-equal as_ bs both.1 in
    λ i. first i ∷ rest i

-- the act is the one of the event
spawn-act : (a : Actor) (v : Option Act) → same_event (Spawn a) (event_of a v) ≡ true → (b : ℕ) × (v ≡ Some (acts.Spawn b))
spawn-act a None e = absurd (false≢true e)
spawn-act a (Some (acts.Spawn b)) e = (b, refl)
spawn-act a (Some (acts.Send u others)) e = absurd (false≢true e)
spawn-act a (Some (acts.Drop u)) e = absurd (false≢true e)
spawn-act a (Some acts.Retire) e = absurd (false≢true e)

send-act : (a t : Actor) (refs : List Actor) (v : Option Act) → same_event (Send a t refs) (event_of a v) ≡ true → v ≡ Some (acts.Send t refs)
send-act a t refs None e = absurd (false≢true e)
send-act a t refs (Some (acts.Spawn b)) e = absurd (false≢true e)
send-act a t refs (Some (acts.Send u others)) e =
    let both = and_parts (same_actor t u) (same_actors refs others) (and_parts (same_actor a a) (same_actor t u && same_actors refs others) e).1 in
    let to = same_actor-equal t u both.0 in
    let carried = same_actors-equal refs others both.1 in
    λ i. Some (acts.Send (sym to i) (sym carried i))
send-act a t refs (Some (acts.Drop u)) e = absurd (false≢true e)
send-act a t refs (Some acts.Retire) e = absurd (false≢true e)

drop-act : (a t : Actor) (v : Option Act) → same_event (Drop a t) (event_of a v) ≡ true → v ≡ Some (acts.Drop t)
drop-act a t None e = absurd (false≢true e)
drop-act a t (Some (acts.Spawn b)) e = absurd (false≢true e)
drop-act a t (Some (acts.Send u others)) e = absurd (false≢true e)
drop-act a t (Some (acts.Drop u)) e =
    let target = same_actor-equal t u (and_parts (same_actor a a) (same_actor t u) e).1 in
    λ i. Some (acts.Drop (sym target i))
drop-act a t (Some acts.Retire) e = absurd (false≢true e)

retire-act : (a : Actor) (v : Option Act) → same_event (Retire a) (event_of a v) ≡ true → v ≡ Some acts.Retire
retire-act a None e = absurd (false≢true e)
retire-act a (Some (acts.Spawn b)) e = absurd (false≢true e)
retire-act a (Some (acts.Send u others)) e = absurd (false≢true e)
retire-act a (Some (acts.Drop u)) e = absurd (false≢true e)
retire-act a (Some acts.Retire) e = refl

-- ---- what is allowed

-- an event that fits is due
fits-due : (s : Scripted) (e : Event) (p : List Event) → fits s e p ≡ true → IsDue s e p
fits-due s (Seed n) p fit = absurd (false≢true fit)
fits-due s (Tie a b) p fit = absurd (false≢true fit)
fits-due s (Spawn a) p fit = (let d = doing s a p in spawn-act a (due_act d.turn) fit)
fits-due s (Send a t refs) p fit = (let d = doing s a p in send-act a t refs (due_act d.turn) fit)
fits-due s (Drop a t) p fit = (let d = doing s a p in drop-act a t (due_act d.turn) fit)
fits-due s (Retire a) p fit = (let d = doing s a p in retire-act a (due_act d.turn) fit)
fits-due s e p fit = tt

pub allowed-fits : (s : Scripted) (e : Event) (p : List Event) → is_allowed s e p ≡ true → (is_on_time e (crash_due s p) ≡ true) × (fits s e p ≡ true) × (refusal (cluster_of s) e p ≡ None)
allowed-fits s e p allowed =
    let both = and_parts (is_on_time e (crash_due s p)) (fits s e p && is_none (refusal (cluster_of s) e p)) allowed in
    let rest = and_parts (fits s e p) (is_none (refusal (cluster_of s) e p)) both.1 in
    (both.0, rest.0, no-rule (refusal (cluster_of s) e p) rest.1)

-- an event that is legal and due keeps it
pub sound-next : (s : Scripted) (e : Event) (p : List Event) → IsSound s p → refusal (cluster_of s) e p ≡ None → IsDue s e p → IsSound s (e ∷ p)
sound-next s e p sound none due = ((none, sound.0), holds-next s e p (none, sound.0) due sound.1)

pub sound-allowed : (s : Scripted) (q p : List Event) → IsSound s p → are_allowed s q p ≡ true → IsSound s (q ++ p)
sound-allowed s [] p sound allowed = sound
sound-allowed s (e ∷ q) p sound allowed =
    let both = and_parts (is_allowed s e (q ++ p)) (are_allowed s q p) allowed in
    let facts = allowed-fits s e (q ++ p) both.0 in
    sound-next s e (q ++ p) (sound-allowed s q p sound both.1) facts.2 (fits-due s e (q ++ p) facts.1)

pub run-sound : (s : Scripted) (h : List Event) → IsLegal (cluster_of s) (beginning s) → IsRun s h → IsSound s h
run-sound s h legal run =
    subst (IsSound s) (sym run.1) (sound-allowed s run.0 (beginning s) (legal, beginning-holds s) run.2)

pub sound-due : (s : Scripted) (a : Actor) (h : List Event) → IsSound s h → is_busy a h ≡ true → is_up a.node h ≡ true → refusal (cluster_of s) (due s a h) h ≡ None
sound-due s a h sound busy up = due-legal s a h sound.0 sound.1 busy up

-- ---- what is due is allowed

same_actors-itself : (as_ : List Actor) → same_actors as_ as_ ≡ true
same_actors-itself [] = refl
same_actors-itself (a ∷ as_) = rw (same_actor-refl a) (same_actors-itself as_)

-- what is due next fits, and is no crash
event-fits : (s : Scripted) (a : Actor) (h : List Event) (v : Option Act) → (let d = doing s a h in due_act d.turn ≡ v) → fits s (event_of a v) h ≡ true
event-fits s a h None next = rw (next, same_actor-refl a) refl
event-fits s a h (Some (acts.Spawn b)) next = rw (next, same_actor-refl a) refl
event-fits s a h (Some (acts.Send t refs)) next = rw (next, same_actor-refl a, same_actor-refl t) (same_actors-itself refs)
event-fits s a h (Some (acts.Drop t)) next = rw (next, same_actor-refl a, same_actor-refl t) refl
event-fits s a h (Some acts.Retire) next = rw (next, same_actor-refl a) refl

act-on_time : (a : Actor) (v : Option Act) → is_on_time (event_of a v) None ≡ true
act-on_time a None = refl
act-on_time a (Some (acts.Spawn b)) = refl
act-on_time a (Some (acts.Send t refs)) = refl
act-on_time a (Some (acts.Drop t)) = refl
act-on_time a (Some acts.Retire) = refl

pub due-allowed : (s : Scripted) (a : Actor) (h : List Event) → IsSound s h → is_busy a h ≡ true → is_up a.node h ≡ true → crash_due s h ≡ None → is_allowed s (due s a h) h ≡ true
due-allowed s a h sound busy up none =
    let d = doing s a h in
    rw (none, act-on_time a (due_act d.turn), event-fits s a h (due_act d.turn) refl, sound-due s a h sound busy up) refl
