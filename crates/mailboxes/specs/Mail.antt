-- The messages that wait for each actor, each as the references that it carries, and the room that is reserved for more.
use Rattle.std.specs.Prelude.{◌≡◌, ◌≢◌, ℕ, List, [], unwrap_or}
use Rattle.std.specs.Map.{lookup}
use Rattle.crgc_ids.specs.Actor.{Actor, same_actor}

-- the messages that wait for one actor, the first in front, and for how many more room is reserved
pub record Mailbox : Type 0 where
  pub mail : List (List Actor)
  pub room : ℕ

-- the mailbox of an actor, empty where none was opened
abbrev pub mailbox_of : List (Actor × Mailbox) → Actor → Mailbox
mailbox_of boxes actor = unwrap_or (lookup (same_actor actor) boxes) (record { mail = []; room = 0 })

-- the messages that wait for an actor
abbrev pub mail_of : List (Actor × Mailbox) → Actor → List (List Actor)
mail_of boxes actor = (mailbox_of boxes actor).mail

-- for how many more messages to an actor room is reserved
abbrev pub room_of : List (Actor × Mailbox) → Actor → ℕ
room_of boxes actor = (mailbox_of boxes actor).room

-- the actor has these messages and this room now, and each other actor what it had
pub record IsMailboxChange (old new : List (Actor × Mailbox)) (actor : Actor) (messages : List (List Actor)) (count : ℕ) : Type 0 where
  pub mail : mail_of new actor ≡ messages
  pub room : room_of new actor ≡ count
  pub others : (a : Actor) → a ≢ actor → (mail_of new a ≡ mail_of old a) × (room_of new a ≡ room_of old a)
