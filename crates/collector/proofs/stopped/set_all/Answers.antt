use Rattle.std.proofs.Common.{ap, subst, sym, take, ◌+◌, ◌<◌, ◌≡◌, ◌∙◌, ◌++◌, ◌∷◌, [], length, slice_set, true}
use Rattle.std.proofs.lemmas.List.{length-set, take_more}
use Rattle.collector.specs.Sweeping.{SetsFlags}
use Rattle.collector.proofs.SweepLemmas.{all-at, flags-more}
use Rattle.collector.proofs.stopped.set_all.Goals as goal

pub loop-actor-preserved : goal.loop-actor-preserved
loop-actor-preserved c =
    let i = c.loop-actor.actor-index in
    let a = c.actor-item.result in
    let mid = c.loop-actor.flags.items in
    let old = c.args.flags.now.items in
    let more : take (i + 1) c.args.actors.now ≡ take i c.args.actors.now ++ a ∷ [] =
    take_more c.args.actors.now i a c.loop-actor-test.true ∙ ap (λ x. take i c.args.actors.now ++ x ∷ []) (sym c.actor-item.is) in
    let within : a.serial < length old = subst (λ x. x.serial < length old) (sym c.actor-item.is) (all-at (λ x. x.serial < length old) c.args.actors.now i a c.requires c.loop-actor-test.true) in
    let less : a.serial < length mid = subst (λ n. a.serial < n) (sym c.loop-actor.invariant.1) within in (
      subst (λ s. SetsFlags (take (i + 1) c.args.actors.now) old (slice_set mid s true)) (sym c.serial.ensures.number)
          (flags-more (take i c.args.actors.now) (take (i + 1) c.args.actors.now) a old mid more less c.loop-actor.invariant.0),
      length-set mid c.serial.result true ∙ c.loop-actor.invariant.1,
    )
