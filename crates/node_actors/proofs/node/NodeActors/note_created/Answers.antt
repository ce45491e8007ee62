use Rattle.std.proofs.Common.{◌≡◌, ◌+◌, ◌<◌, ◌^◌, cond, rules, sym, ap, subst}
use Rattle.crgc_ids.specs.Actor.{Actor, same_actor}
use Rattle.ready_actors.specs.Ready.{has_actor}
use Rattle.entry_records.specs.Unflushed.{pair_count}
use Rattle.actor_states.specs.State.{State, has_news}
use Rattle.node_actors.proofs.KeepingLemmas.{born-below, either_way, found-state, kept-changed, one, settled-due}
use Rattle.node_actors.proofs.node.NodeActors.note_created.Goals as goal

pub note_created-noted-requires : goal.note_created-noted-requires
note_created-noted-requires c =
    let old = c.self.inside in
    let found = found-state old.node old.up old.actors.items c.args.self.now c.serial-place.result c.args.actor.serial c.index_mut.result.now c.self.view_is c.serial-place.ensures.number c.requires.there.born c.index_mut.ensures.value in
    subst (λ (s : State). pair_count c.args.owner c.args.actor s.log.noted.created + 1 < 2 ^ 32) (sym found) (c.requires.fits.created c.args.owner c.args.actor)

pub invariant_of-self-2 : goal.invariant_of-self-2
invariant_of-self-2 c =
    let old = c.self.inside in
    let s = c.index_mut.result.now in
    let t = c.note_created-noted.new.self in
    let below = born-below old.node old.up old.actors.items c.args.self.now c.serial-place.result c.args.actor.serial c.self.view_is c.serial-place.ensures.number c.requires.there.born in
    let news : c.has_news.result ≡ has_news t = search rules in
    let here : c.args.actor.node ≡ old.node = search rules in
    let busy : s.busy ≡ t.busy = either_way _ _ _ c.note_created-noted.result c.note_created-noted.ensures.ok c.note_created-noted.ensures.err (λ is. ap (λ (x : State). x.busy) (sym is)) (λ same. ap (λ (x : State). x.busy) (sym same)) in
    let stopped : s.stopped ≡ t.stopped = either_way _ _ _ c.note_created-noted.result c.note_created-noted.ensures.ok c.note_created-noted.ensures.err (λ is. ap (λ (x : State). x.stopped) (sym is)) (λ same. ap (λ (x : State). x.stopped) (sym same)) in
    kept-changed old.node old.up old.busy old.busy old.stopped old.stopped old.actors.items old.due c.settle.new.due c.serial-place.result s t c.self.invariant below c.index_mut.ensures.value
    (ap (λ v. old.busy + cond old.up (one v) 0) busy) (ap (λ v. old.stopped + one v) stopped)
    (subst (λ v. (a : Actor) → has_actor c.settle.new.due a ≡ cond (same_actor (record { node = old.node; serial = c.serial-place.result }) a) v (has_actor old.due a)) news
    (settled-due old.node c.serial-place.result c.args.actor old.due c.make_due.new.due c.settle.new.due c.has_news.result here (sym c.serial-place.ensures.number) c.in_ok-make_due.ensures.ok c.settle.ensures))
