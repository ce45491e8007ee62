use Rattle.std.proofs.Common.{rules, OnOk, subst}
use Rattle.traffic.specs.Changes.{SendsOnLink}
use Rattle.traffic.proofs.KeepingLinks.{sends-on_link}
use Rattle.traffic.proofs.KeepingMessages.{delivers}
use Rattle.traffic.proofs.Outcomes.{on-ok}
use Rattle.traffic.proofs.traffic.Traffic.send.Goals as goal

pub returns-then-eq-clause-kept : goal.returns-then-eq-clause-kept
returns-then-eq-clause-kept c =
    let h = c.if-eq.true in
    on-ok _ _ c.deliver.result c.deliver.ensures.ok (λ change cl p told. delivers cl c.args.from c.args.to _ p _ _ _ (search rules) change told)

pub returns-clause-kept : goal.returns-clause-kept
returns-clause-kept c =
    let sends = subst (λ s. OnOk c.send_on_link.result (SendsOnLink c.args.self.now c.send_on_link.new.self s c.args.to c.args.refs)) c.node-3.ensures c.send_on_link.ensures.ok in
    on-ok _ _ c.send_on_link.result sends (λ change cl p _. sends-on_link cl c.args.from c.args.to _ p _ _ (search rules) change)
