-- What mailboxes stand for in a history.
use Rattle.std.specs.Prelude.{◌≡◌, ◌≢◌, ◌++◌, false, List, [], ◌∷◌, drop, map}
use Rattle.crgc_ids.specs.Actor.{Actor}
use Rattle.history_model.specs.declared.events.Event.{Event}
use Rattle.history_model.specs.Cluster.{Cluster}
use Rattle.history_model.specs.Legal.{IsLegal}
use Rattle.history_model.specs.Messages.{Message, admitted_by, is_take_by, waiting}
use Rattle.mailboxes.specs.Mail.{Mailbox, mail_of}

-- the actors and their mailboxes
abbrev pub Boxes : Type 0
Boxes = List (Actor × Mailbox)

-- for each actor wait the messages that the history says, in order
abbrev pub StandsForMail : List Event → Boxes → Type 0
StandsForMail h boxes = (a : Actor) → mail_of boxes a ≡ map (λ (m : Message). m.refs) (waiting a h)

-- nobody takes a message by the event, and it admits none, or this one
abbrev pub AdmitsNone : Event → List Event → Type 0
AdmitsNone e p = (admitted_by e p ≡ []) × ((a : Actor) → is_take_by a e ≡ false)

abbrev pub AdmitsOne : Event → List Event → Message → Type 0
AdmitsOne e p m = (admitted_by e p ≡ m ∷ []) × ((a : Actor) → is_take_by a e ≡ false)

-- these messages wait for the actor now, and for each other one those that waited before
pub record ChangesMail (old new : Boxes) (actor : Actor) (messages : List (List Actor)) : Type 0 where
  pub mail : mail_of new actor ≡ messages
  pub others : (a : Actor) → a ≢ actor → mail_of new a ≡ mail_of old a

-- the message waits last for its recipient
abbrev pub PutsLast : Boxes → Boxes → Message → Type 0
PutsLast old new m = ChangesMail old new m.to (mail_of old m.to ++ m.refs ∷ [])

-- the one message that the event admits waits last for its recipient
abbrev pub PutsAdmitted : Event → List Event → Boxes → Boxes → Type 0
PutsAdmitted e p old new = (m : Message) × AdmitsOne e p m × PutsLast old new m

-- the actor's first message, if there is one, waits no longer
abbrev pub TakesFirst : Boxes → Boxes → Actor → Type 0
TakesFirst old new a = ChangesMail old new a (drop 1 (mail_of old a))

-- the mailboxes that stood for the history stand, as they are now, for the history with the event, if that is legal
abbrev pub KeepsMail : Cluster → Event → List Event → Boxes → Boxes → Type 0
KeepsMail cl e p old new = IsLegal cl (e ∷ p) → StandsForMail p old → StandsForMail (e ∷ p) new
