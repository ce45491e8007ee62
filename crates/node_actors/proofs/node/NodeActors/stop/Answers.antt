use Rattle.std.proofs.Common.{◌≡◌, ◌+◌, false, cond, sym, ◌∙◌, ap, arith}
use Rattle.std.proofs.lemmas.List.{get_or_default}
use Rattle.actor_states.specs.State.{State, has_news}
use Rattle.node_actors.proofs.KeepingLemmas.{born-below, due-still, kept-changed, one}
use Rattle.node_actors.proofs.node.NodeActors.stop.Goals as goal

pub invariant_of-self : goal.invariant_of-self
invariant_of-self c =
    let old = c.self.inside in
    let s = c.index_mut.result.now in
    let t = c.stop.new.self in
    let below = born-below old.node old.up old.actors.items c.args.self.now c.serial-place.result c.args.actor.serial c.self.view_is c.serial-place.ensures.number c.requires.born in
    let idle : s.stopped ≡ false = ap (λ (x : State). x.stopped) (c.index_mut.ensures.value ∙ get_or_default old.actors.items c.serial-place.result s c.index.result.now below ∙ sym c.index.ensures) ∙ sym c.is_stopped.ensures ∙ c.if-is_stopped.false in
    kept-changed old.node old.up old.busy old.busy old.stopped (old.stopped + 1) old.actors.items old.due old.due c.serial-place.result s t c.self.invariant below c.index_mut.ensures.value
    (ap (λ (x : State). old.busy + cond old.up (one x.busy) 0) (sym c.stop.ensures)) (let before = ap one idle in let after = ap (λ (x : State). one x.stopped) c.stop.ensures in omega arith)
    (due-still old.node old.up old.busy old.stopped old.actors.items old.due c.serial-place.result s t c.self.invariant below c.index_mut.ensures.value (ap has_news c.stop.ensures))
