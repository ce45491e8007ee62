-- What a change of the map of queues says of the mailboxes.
use Rattle.std.proofs.Common.{◌≡◌, false, cond, List, [], Option, Some, None, refl, sym, ◌∙◌, ap}
use Rattle.std.proofs.lemmas.Map.Steps.{set_value_same}
use Rattle.std.specs.Map.{lookup, set_value}
use Rattle.std.specs.Option.{unwrap_or}
use Rattle.crgc_ids.proofs.ActorLaws.{same_actor-decides}
use Rattle.crgc_ids.proofs.ActorMaps.{lookup-tie, tie, tie-apart, tie-same}
use Rattle.crgc_ids.specs.Actor.{Actor}
use Rattle.mailboxes.specs.Mail.{IsMailboxChange, Mailbox, mail_of, mailbox_of, room_of}

-- an empty mailbox, if the map has none
abbrev box : Option Mailbox → Mailbox
box o = unwrap_or o (record { mail = []; room = 0 })

mailbox_of-tie : (a : Actor) (boxes : List (Actor × Mailbox)) → mailbox_of boxes a ≡ box (lookup (tie a) boxes)
mailbox_of-tie a boxes = sym (ap box (lookup-tie a boxes))

-- a map that changed at one actor changed that mailbox alone
pub mailbox_change : (old new : List (Actor × Mailbox)) (actor : Actor) (written is : Mailbox) → lookup (tie actor) new ≡ Some written → ((a : Actor) → tie actor a ≡ false → lookup (tie a) new ≡ lookup (tie a) old) → written ≡ is → IsMailboxChange old new actor is.mail is.room
mailbox_change old new actor written is here there same =
    let now = mailbox_of-tie actor new ∙ ap box here ∙ same in
    record {
      mail = ap (λ b. b.mail) now;
      room = ap (λ b. b.room) now;
      others = λ a differ.
          let kept = mailbox_of-tie a new ∙ ap box (there a (tie-apart actor a differ)) ∙ sym (mailbox_of-tie a old) in
          (ap (λ b. b.mail) kept, ap (λ b. b.room) kept);
    }

-- the mailbox of an actor that the map has
pub mailbox_of-found : (boxes : List (Actor × Mailbox)) (actor : Actor) (was : Mailbox) → Some was ≡ lookup (tie actor) boxes → mailbox_of boxes actor ≡ was
mailbox_of-found boxes actor was found = mailbox_of-tie actor boxes ∙ sym (ap box found)

-- a mailbox that was found and written back as it was
pub written_back : (old new : List (Actor × Mailbox)) (actor : Actor) (was is : Mailbox) → Some was ≡ lookup (tie actor) old → new ≡ set_value (tie actor) old is → is ≡ was → new ≡ old
written_back old new actor was is found written same =
    written ∙ ap (set_value (tie actor) old) same ∙ set_value_same (tie actor) old was (sym found)

-- an empty mailbox, without room, that the map has no longer
pub mailbox_closed : (old new : List (Actor × Mailbox)) (actor : Actor) → mail_of old actor ≡ [] → room_of old actor ≡ 0 → ((a : Actor) → lookup (tie a) new ≡ cond (tie actor a) None (lookup (tie a) old)) → IsMailboxChange old new actor (mail_of old actor) (room_of old actor)
mailbox_closed old new actor mail room there =
    let none : lookup (tie actor) new ≡ None = there actor ∙ ap (λ b. cond b None (lookup (tie actor) old)) (tie-same actor actor ∙ (same_actor-decides actor actor).1 refl) in
    let now : mailbox_of new actor ≡ record { mail = []; room = 0 } = mailbox_of-tie actor new ∙ ap box none in
    record {
      mail = ap (λ b. b.mail) now ∙ sym mail;
      room = ap (λ b. b.room) now ∙ sym room;
      others = λ a differ.
          let same = there a ∙ ap (λ b. cond b None (lookup (tie a) old)) (tie-apart actor a differ) in
          let kept = mailbox_of-tie a new ∙ ap box same ∙ sym (mailbox_of-tie a old) in
          (ap (λ b. b.mail) kept, ap (λ b. b.room) kept);
    }
