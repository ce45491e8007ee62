use Rattle.std.proofs.Common.{◌-◌, ◌++◌, [], ◌∷◌, OnOk, subst, sym, ◌∙◌}
use Rattle.mailboxes.specs.Mail.{IsMailboxChange, mail_of, room_of}
use Rattle.traffic.specs.Changes.{HasRoomFor}
use Rattle.traffic.specs.TrafficState.{TrafficState}
use Rattle.traffic.proofs.KeepingMessages.{copy-admitted}
use Rattle.traffic.proofs.Outcomes.{on-ok}
use Rattle.traffic.proofs.AdmissionLemmas.{admits-copy}
use Rattle.traffic.proofs.traffic.Traffic.admit.Goals as goal

pub returns-clause-ok : goal.returns-clause-ok
returns-clause-ok c =
    let to = c.in-Some.to in
    let mid : TrafficState = record { nodes = c.self.inside.nodes; loads = c.self.inside.loads; links = c.self.inside.links; boxes = c.self.inside.boxes; ready = c.self.inside.ready } in
    let put = subst (λ r. OnOk r (IsMailboxChange mid.boxes c.put.new.self to (mail_of mid.boxes to ++ c.unwrap.result.refs ∷ []) (room_of mid.boxes to - 1))) c.unwrap-2.ensures c.put.ensures.ok in
    admits-copy c.args.self.now mid c.admit.new.self c.put.new.self c.args.from c.args.at c.args.number (room_of mid.boxes to - 1) to c.unwrap.result c.args.idle
    c.in-Some.ensures (subst (λ (t : TrafficState). HasRoomFor c.args.self.now t to c.args.idle) (sym c.self.view_is) c.in-Ok.ensures.ok)
    (sym c.unwrap.ensures ∙ c.in-Ok-admit.ensures.message) c.in-Ok-admit.ensures.ok c.in-Ok-admit.ensures.others put

pub returns-clause-kept : goal.returns-clause-kept
returns-clause-kept c = λ cl p told. copy-admitted cl c.args.from c.args.at c.args.number p _ _ c.args.idle (returns-clause-ok c) told

pub returns-in_default-clause-kept : goal.returns-in_default-clause-kept
returns-in_default-clause-kept c =
    on-ok _ _ c.discard.result c.discard.ensures.ok (λ change cl p told. copy-admitted cl c.args.from c.args.at c.args.number p _ _ c.args.idle (change c.args.idle) told)
