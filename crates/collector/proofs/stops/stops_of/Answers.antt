use Rattle.std.proofs.Common.{ap, sym, take, ◌+◌, ◌≡◌, ◌∙◌, ◌++◌, ◌∷◌, []}
use Rattle.std.proofs.lemmas.List.{take_more}
use Rattle.collector.proofs.SweepLemmas.{actors-more, stops-more}
use Rattle.collector.proofs.stops.stops_of.Goals as goal

pub loop-actor-preserved : goal.loop-actor-preserved
loop-actor-preserved c =
    let i = c.loop-actor.actor-index in
    let a = c.actor-item.result in
    let more : take (i + 1) c.args.actors.now ≡ take i c.args.actors.now ++ a ∷ [] =
    take_more c.args.actors.now i a c.loop-actor-test.true ∙ ap (λ x. take i c.args.actors.now ++ x ∷ []) (sym c.actor-item.is) in
    let stop = c.in_ok-stop_of.field-0 in (
      stops-more c.args.graph.now (take i c.args.actors.now) (take (i + 1) c.args.actors.now) a c.loop-actor.stops c.push.new.self stop more c.in_ok-push.ensures.ok c.in_ok-stop_of.ensures.stop c.loop-actor.invariant.0,
      actors-more (take i c.args.actors.now) (take (i + 1) c.args.actors.now) a c.loop-actor.stops c.push.new.self stop more c.in_ok-push.ensures.ok c.in_ok-stop_of.ensures.actor c.loop-actor.invariant.1,
    )
