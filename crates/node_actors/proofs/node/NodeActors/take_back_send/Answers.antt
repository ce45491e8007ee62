use Rattle.std.proofs.Common.{◌≡◌, ◌+◌, ◌<◌, cond, length, rules, sym, ap, subst}
use Rattle.crgc_ids.specs.Actor.{same_actor}
use Rattle.crgc_ids.proofs.ActorLaws.{same_parts}
use Rattle.ready_actors.specs.Ready.{has_actor}
use Rattle.actor_states.specs.State.{State, has_news}
use Rattle.node_actors.proofs.KeepingLemmas.{born-below, found-state, kept-changed, one, sent-due}
use Rattle.node_actors.proofs.node.NodeActors.take_back_send.Goals as goal

pub settle-requires : goal.settle-requires
settle-requires c =
    let old = c.self.inside in
    let s = c.index_mut.result.now in
    let place = c.serial-place.ensures.number in
    let below = born-below old.node old.up old.actors.items c.args.self.now c.serial-place.result c.args.actor.serial c.self.view_is place c.requires.there.born in
    let found = found-state old.node old.up old.actors.items c.args.self.now c.serial-place.result c.args.actor.serial s c.self.view_is place c.requires.there.born c.index_mut.ensures.value in
    let here : c.args.actor.node ≡ old.node = search rules in
    sent-due old.node old.up old.busy old.stopped old.actors.items old.due c.serial-place.result s c.args.actor c.self.invariant below c.index_mut.ensures.value
    (same_parts (record { node = old.node; serial = c.serial-place.result }) c.args.actor (sym here) place)
    (subst (λ (x : State). 0 < length x.log.noted.sent) (sym found) c.requires.sent)

pub invariant_of-self : goal.invariant_of-self
invariant_of-self c =
    let old = c.self.inside in
    let s = c.index_mut.result.now in
    let t = c.take_back_send.new.self in
    let place = c.serial-place.ensures.number in
    let below = born-below old.node old.up old.actors.items c.args.self.now c.serial-place.result c.args.actor.serial c.self.view_is place c.requires.there.born in
    let news : c.has_news-is_due.result ≡ has_news t = search rules in
    let here : c.args.actor.node ≡ old.node = search rules in
    let itself : c.args.actor ≡ record { node = old.node; serial = c.serial-place.result } = same_parts c.args.actor (record { node = old.node; serial = c.serial-place.result }) here (sym place) in
    let busy : s.busy ≡ t.busy = ap (λ (x : State). x.busy) (sym c.take_back_send.ensures) in
    let stopped : s.stopped ≡ t.stopped = ap (λ (x : State). x.stopped) (sym c.take_back_send.ensures) in
    kept-changed old.node old.up old.busy old.busy old.stopped old.stopped old.actors.items old.due c.settle.new.due c.serial-place.result s t c.self.invariant below c.index_mut.ensures.value
    (ap (λ v. old.busy + cond old.up (one v) 0) busy) (ap (λ v. old.stopped + one v) stopped)
    (λ a. subst (λ v. has_actor c.settle.new.due a ≡ cond (same_actor (record { node = old.node; serial = c.serial-place.result }) a) v (has_actor old.due a)) news
    (subst (λ x. has_actor c.settle.new.due a ≡ cond (same_actor x a) c.has_news-is_due.result (has_actor old.due a)) itself (c.settle.ensures a)))
