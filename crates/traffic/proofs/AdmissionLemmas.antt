-- What a copy that comes to the gate changes, step by step.
use Rattle.std.proofs.Common.{◌≡◌, ◌++◌, ℕ, Bool, List, [], ◌∷◌, Some, sym, ◌∙◌, ap, subst}
use Rattle.std.specs.Option.{option_map}
use Rattle.crgc_ids.specs.Actor.{Actor}
use Rattle.link_table.specs.declared.piles.Envelope.{Envelope}
use Rattle.link_table.specs.LinkState.{Admitted, LinkState}
use Rattle.link_table.specs.Table.{OthersStay, link_at}
use Rattle.mail_laws.specs.Standing.{Boxes, ChangesMail}
use Rattle.mailboxes.specs.Mail.{IsMailboxChange, mail_of}
use Rattle.traffic.specs.Changes.{AdmitsCopy, Arrives, HasRoomFor, IsReadyIf}
use Rattle.traffic.specs.TrafficState.{TrafficState, link_of, message_on, recipient_on}

some-same : {A : Type 0} (x y : A) → Some x ≡ Some y → x ≡ y
some-same x y e = cc

-- room is reserved, the gate admits the message, and it waits for its recipient
pub admits-copy : (old mid : TrafficState) (links : List LinkState) (boxes : Boxes) (s d k room : ℕ) (to : Actor) (m : Envelope) (idle : Bool) → Some to ≡ recipient_on old s d k → HasRoomFor old mid to idle
    → Some m ≡ message_on mid s d k → Admitted (link_of mid s d) (link_at links s d) k → OthersStay mid.links links s d → IsMailboxChange mid.boxes boxes to (mail_of mid.boxes to ++ m.refs ∷ []) room
    → AdmitsCopy old (record mid { links = links; boxes = boxes }) s d k idle
admits-copy old mid links boxes s d k room to m idle goes room_for there admitted others mail =
    let new : TrafficState = record mid { links = links; boxes = boxes } in
    let message : message_on old s d k ≡ Some m = ap (λ ls. message_on (record old { links = ls }) s d k) (sym room_for.links) ∙ sym there in
    let same : to ≡ m.to = some-same to m.to (goes ∙ ap (option_map (λ (x : Envelope). x.to)) message) in
    let change : ChangesMail old.boxes boxes to (mail_of old.boxes to ++ m.refs ∷ []) = record {
      mail = mail.mail ∙ ap (λ ms. ms ++ m.refs ∷ []) (room_for.mail to);
      others = λ a apart. (mail.others a apart).0 ∙ room_for.mail a;
    } in
    let both : ChangesMail old.boxes boxes m.to (mail_of old.boxes m.to ++ m.refs ∷ []) × IsReadyIf idle old.ready mid.ready m.to =
    subst (λ b. ChangesMail old.boxes boxes b (mail_of old.boxes b ++ m.refs ∷ []) × IsReadyIf idle old.ready mid.ready b) same (change, room_for.ready) in
    record {
      nodes = room_for.nodes;
      link = subst (λ ls. Admitted (link_at ls s d) (link_at links s d) k) room_for.links admitted;
      others = subst (λ ls. OthersStay ls links s d) room_for.links others;
      arrives = subst (λ o. Arrives old new o idle) (sym message) both;
    }
