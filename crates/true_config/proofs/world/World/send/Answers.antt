use Rattle.std.proofs.Common.{◌≡◌, ◌+◌, not, length, rules, subst, sym, ◌∙◌, ap, arith}
use Rattle.history_model.specs.declared.events.Event.TheVariants.{Send}
use Rattle.journal_model.specs.Lines.{AreActors}
use Rattle.roster.specs.Table.{state_at}
use Rattle.roster.proofs.SendLemmas.{sends-noted}
use Rattle.true_config.specs.Steps.{Adds, MayFollow}
use Rattle.true_config.proofs.Bounds.{actor-has_room}
use Rattle.true_config.proofs.Growing.{taken-back}
use Rattle.true_config.proofs.MailEvents.{grows-sent, live-fits, sender-here, sent-fits, stays-unsent}
use Rattle.true_config.proofs.world.World.send.Goals as goal

pub send-requires-clause-here : goal.send-requires-clause-here
send-requires-clause-here c =
    let e = Send c.args.from c.args.to c.args.refs.now in
    let may = subst (MayFollow e) (sym c.self.view_is) c.requires.may in
    sender-here c.self.inside.history.cluster c.self.inside.history.past c.self.inside.roster c.args.from c.args.to c.args.refs.now c.self.invariant.roster (may.legal, c.self.invariant.within.legal)

pub send-requires-clause-fits : goal.send-requires-clause-fits
send-requires-clause-fits c =
    let long = ap length c.as_slice-2.ensures in
    let few = c.requires.few in
    actor-has_room c.self.inside.history.cluster c.self.inside.history.past c.self.inside.roster c.args.from (1 + length c.as_slice-2.result.now) c.self.invariant.within c.self.invariant.roster (omega arith)

pub send-requires-2-clause-sent : goal.send-requires-2-clause-sent
send-requires-2-clause-sent c = λ apart.
    sent-fits c.self.inside.history.cluster c.self.inside.history.past c.self.inside.traffic c.args.from.node c.args.to.node c.self.invariant.within c.self.invariant.traffic (search rules, search rules, apart)

pub send-requires-2-clause-live : goal.send-requires-2-clause-live
send-requires-2-clause-live c = live-fits c.self.inside.history.cluster c.self.inside.history.past c.self.inside.traffic c.args.to.node c.self.invariant.within c.self.invariant.traffic

pub invariant_of-self-in-Ok-send-2 : goal.invariant_of-self-in-Ok-send-2
invariant_of-self-in-Ok-send-2 c =
    let e = Send c.args.from c.args.to c.args.refs.now in
    let r = c.self.inside.roster in
    let are = subst AreActors c.as_slice.ensures c.read_actors.ensures in
    let added : Adds e c.self.inside.history c.push_send.new.self = record { cluster = c.in-Ok-push_send.ensures.cluster; past = c.in-Ok-push_send.ensures.ok } in
    let idle : not c.is_busy-idle.result ≡ not (state_at r c.args.to).busy = ap not c.is_busy-idle.ensures in
    grows-sent c.self.inside.history c.push_send.new.self c.self.inside.traffic c.send-2.new.self r c.send.new.self c.self.inside.streams c.args.from c.args.to c.args.refs.now c.as_slice-2.result.now c.in-Ok.carried _
    added (subst (MayFollow e) (sym c.self.view_is) c.requires.may) ((search rules, search rules), (search rules, search rules), are, c.requires.few) c.self.invariant
    c.as_slice-2.ensures c.in-Ok.ensures idle c.in-Ok-send.ensures.ok c.in-Ok-send-2.ensures.kept

pub take_back_send-requires-clause-here : goal.take_back_send-requires-clause-here
take_back_send-requires-clause-here c =
    let e = Send c.args.from c.args.to c.args.refs.now in
    let may = subst (MayFollow e) (sym c.self.view_is) c.requires.may in
    let kept = c.in-Ok-send.ensures.ok.kept in
    let here = sender-here c.self.inside.history.cluster c.self.inside.history.past c.self.inside.roster c.args.from c.args.to c.args.refs.now c.self.invariant.roster (may.legal, c.self.invariant.within.legal) in
    record {
      born = (let born = here.born in let same = kept.births c.args.from.node in omega arith);
      up = kept.up c.args.from.node ∙ here.up;
    }

pub take_back_send-requires-clause-sent : goal.take_back_send-requires-clause-sent
take_back_send-requires-clause-sent c =
    sends-noted (state_at c.self.inside.roster c.args.from) (state_at c.send.new.self c.args.from) c.args.to c.as_slice-2.result.now c.in-Ok-send.ensures.ok.changed

pub invariant_of-self-in_default-send-2 : goal.invariant_of-self-in_default-send-2
invariant_of-self-in_default-send-2 c =
    let back = c.take_back-in_default-send-2.ensures in
    let e = Send c.args.from c.args.to c.args.refs.now in
    let added : Adds e c.self.inside.history c.push_send.new.self = record { cluster = c.in-Ok-push_send.ensures.cluster; past = c.in-Ok-push_send.ensures.ok } in
    let same = taken-back e c.self.inside.history c.push_send.new.self c.take_back-in_default-send-2.new.self added back.cluster back.past in
    let long = c.len.ensures ∙ ap length (sym c.as_slice-2.ensures) in
    stays-unsent c.self.inside.history c.take_back-in_default-send-2.new.self c.self.inside.traffic c.send-2.new.self c.self.inside.roster c.send.new.self c.take_back_send.new.self c.self.inside.streams c.args.from c.args.to c.as_slice-2.result.now c.len.result
    same c.self.invariant c.in_default-send-2.ensures.err c.in-Ok-send.ensures.ok long c.take_back_send.ensures
