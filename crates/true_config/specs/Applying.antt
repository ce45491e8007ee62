-- What a world answers to an event, and when.
use Rattle.std.specs.Prelude.{ℕ, ◌≡◌, ◌≤◌, ◌==◌, Bool, true, false, if◌then◌else◌, List, [], ◌∷◌, length, Option, None, Some, Result, Ok, Err, unwrap_or, IfOk, OnErr, OnOk}
use Rattle.std.specs.Option.{option_or}
use Rattle.crgc_ids.specs.Actor.{Actor}
use Rattle.crgc_ids.specs.declared.NoMemory.{NoMemory}
use Rattle.crgc_ids.specs.declared.Which.{Which}
use Rattle.history_model.specs.declared.events.Event.{Event}
use Rattle.history_model.specs.declared.events.Event.TheVariants.{Admit, Seed, Send, Spawn, Sweep, Take}
use Rattle.history_model.specs.declared.events.Rule.{Rule}
use Rattle.history_model.specs.Cluster.{Cluster, newborn}
use Rattle.history_model.specs.Legal.{refusal}
use Rattle.history_model.specs.Messages.{Message, sent, waiting, was_admitted}
use Rattle.history_model.specs.Story.{Story}
use Rattle.journal_model.specs.Limits.{limit_passed}
use Rattle.true_config.specs.Steps.{Adds}
use Rattle.true_config.specs.declared.applied.Applied.{Applied}
use Rattle.true_config.specs.declared.applied.Applied.TheVariants.{Done, Illegal, Limit}
use Rattle.true_config.specs.declared.applied.Told.{Told}
use Rattle.true_config.specs.declared.applied.Told.TheVariants.{Admitted, Born, Discarded, Local, Number, Plain, Taken}

abbrev pub is_sweep : Event → Bool
is_sweep (Sweep m) = true
is_sweep _ = false

-- if the event is a send, its message carries at most 16 references
abbrev pub CarriesFew : Event → Type 0
CarriesFew (Send f t refs) = length refs ≤ 16
CarriesFew _ = Unit {0}

-- the references of the first message, if there is one
abbrev pub first_refs : List Message → List Actor
first_refs [] = []
first_refs (m ∷ ms) = m.refs

-- what a legal event tells: who was born, what was taken, where a message went, whether a copy was admitted. No other form
-- tells anything
abbrev pub told_of : Event → List Event → Told
told_of (Seed n) h = Born (newborn n h)
told_of (Spawn a) h = Born (newborn a.node h)
told_of (Take a) h = Taken (first_refs (waiting a h))
told_of (Send f t refs) h = if f.node == t.node then Local else Number (length (sent f.node t.node h))
told_of (Admit s d k) h = if was_admitted s d k h then Discarded else Admitted
told_of _ h = Plain

-- the rule that refuses, or else the limit that would be passed
abbrev pub hindered : Option Rule → Option Which → Option Applied
hindered (Some rule) limit = Some (Illegal rule)
hindered None (Some which) = Some (Limit which)
hindered None None = None

-- what hinders the event
abbrev pub hindrance : Cluster → Event → List Event → Option Applied
hindrance cl e h = hindered (refusal cl e h) (limit_passed cl e h)

-- what hinders one event and then another
abbrev pub hindrance_of_both : Cluster → Event → Event → List Event → Option Applied
hindrance_of_both cl e f h = option_or (hindrance cl e h) (hindrance cl f (e ∷ h))

-- the answer to an event: what hinders it, or else that it is done and what it tells
abbrev pub answer_to : Cluster → Event → List Event → Applied
answer_to cl e h = unwrap_or (hindrance cl e h) (Done (told_of e h))

-- the answer to two events that tell nothing
abbrev pub answer_to_both : Cluster → Event → Event → List Event → Applied
answer_to_both cl e f h = unwrap_or (hindrance_of_both cl e f h) (Done Plain)

-- what holds where the answer is that it is done
abbrev pub OnDone : Result Applied NoMemory → Type 0 → Type 0
OnDone (Ok (Done told)) P = P
OnDone (Ok (Illegal rule)) P = Unit {0}
OnDone (Ok (Limit which)) P = Unit {0}
OnDone (Err e) P = Unit {0}

-- what holds with any other answer
abbrev pub UnlessDone : Result Applied NoMemory → Type 0 → Type 0
UnlessDone (Ok (Done told)) P = Unit {0}
UnlessDone (Ok (Illegal rule)) P = P
UnlessDone (Ok (Limit which)) P = P
UnlessDone (Err e) P = P

-- the history with the event
abbrev pub after : Event → Story → Story
after e s = record { cluster = s.cluster; past = e ∷ s.past }

-- what a send tells, by the number that its message got, if it is on a link
abbrev pub told_by_number : Option ℕ → Told
told_by_number None = Local
told_by_number (Some number) = Number number

-- what a change tells, by what it answers
abbrev pub telling : {T : Type 0} → (T → Told) → Result T NoMemory → Result Told NoMemory
telling tell (Ok x) = Ok (tell x)
telling tell (Err e) = Err e

-- what came of a change by the event: what it tells, and that the history has it; all is as before where memory was short
pub record IsChange (e : Event) (old new : Story) (r : Result Told NoMemory) : Type 0 where
  pub told : IfOk r (λ told. told ≡ told_of e old.past)
  pub ok : OnOk r (Adds e old new)
  pub err : OnErr r (new ≡ old)
