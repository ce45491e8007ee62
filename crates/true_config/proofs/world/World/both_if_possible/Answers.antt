use Rattle.std.proofs.Common.{◌≡◌, IfOk, sym, subst}
use Rattle.history_model.specs.declared.events.Event.{Event}
use Rattle.history_model.specs.declared.events.Event.TheVariants.{Flush}
use Rattle.true_config.specs.Applying.{answer_to_both}
use Rattle.true_config.specs.Pairs.{ArePaired}
use Rattle.true_config.proofs.world.World.both_if_possible.Goals as goal

pub returns-in-Flush-Publish-clause-answer : goal.returns-in-Flush-Publish-clause-answer
returns-in-Flush-Publish-clause-answer c =
    let old = c.args.self.now in
    let r = c.flush_and_publish.result in
    let first = Flush c.in-Flush-Publish.actor in
    let paired = subst (λ e. ArePaired e c.args.second.now) c.in-Flush-Publish.is-0 c.requires in
    subst (λ (e : Event). IfOk r (λ x. x ≡ answer_to_both old.cluster e c.args.second.now old.past)) (sym c.in-Flush-Publish.is-0)
    (subst (λ (e : Event). IfOk r (λ x. x ≡ answer_to_both old.cluster first e old.past)) (sym paired) c.flush_and_publish.ensures.answer)
