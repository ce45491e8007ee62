use Rattle.std.proofs.Common.{Some, sym, ◌∙◌, ap, refl, subst}
use Rattle.std.proofs.lemmas.Bool.{both_ways}
use Rattle.std.specs.Result.{is_err}
use Rattle.crgc_ids.proofs.SuccessLaws.{at_success}
use Rattle.link_table.specs.LinkState.{LinkState}
use Rattle.link_table.specs.Piled.{ChangesPile}
use Rattle.link_table.proofs.KeepingLemmas.{keeps-sent}
use Rattle.link_table.proofs.link.Link.send.Goals as goal

pub invariant_of-self-2 : goal.invariant_of-self-2
invariant_of-self-2 c =
    let old : LinkState = record { is_open = c.self.inside.is_open; sent = c.self.inside.egress; gate = c.self.inside.ingress; piles = c.self.inside.piles } in
    let new : LinkState = record { is_open = c.self.inside.is_open; sent = c.stamp-2.new.self; gate = c.self.inside.ingress; piles = c.put.new.self } in
    let no_err = sym c.is_err.ensures.value ∙ c.if-is_err.false in
    let put = at_success _ c.put.result (λ e failed. both_ways (is_err c.put.result) no_err (ap is_err failed)) c.put.ensures.ok in
    keeps-sent old new (record { to = c.args.to; refs = c.args.refs }) c.self.invariant
    (record {
      link = (refl, refl);
      number = c.stamp-2.ensures.counted;
      opened = λ _. subst (λ k. ChangesPile old.piles new.piles k (Some (record { copies = 1; message = Some (record { to = c.args.to; refs = c.args.refs }) }))) c.sent-number.ensures put;
      shut = λ e. absurd (both_ways old.is_open e c.if-not-self.false);
    })
