use Rattle.std.proofs.Common.{◌≡◌, ◌∷◌, ◌∙◌, subst, arith}
use Rattle.history_model.specs.declared.events.Event.TheVariants.{Flush, Publish}
use Rattle.journal_model.specs.Limits.{passes_delta}
use Rattle.true_config.proofs.Pairs.{publish-free, publish-full, publish-over}
use Rattle.true_config.proofs.flushing.publish_queue.Goals as goal

pub returns-then-over-clause-limit : goal.returns-then-over-clause-limit
returns-then-over-clause-limit c = λ cl stands.
    let h = c.args.history.now.past in
    let a = c.args.actor in
    let told = subst (λ n. passes_delta cl (Publish n) (Flush a ∷ h) ≡ c.in-Ok.over) c.node-node.ensures (c.in-Ok.ensures.told cl (Flush a ∷ h) stands) in
    publish-over cl (Flush a ∷ h) a.node (told ∙ c.if-over.true)

pub returns-then-len-clause-limit : goal.returns-then-len-clause-limit
returns-then-len-clause-limit c = λ cl stands.
    let h = c.args.history.now.past in
    let a = c.args.actor in
    let told = subst (λ n. passes_delta cl (Publish n) (Flush a ∷ h) ≡ c.in-Ok.over) c.node-node.ensures (c.in-Ok.ensures.told cl (Flush a ∷ h) stands) in
    publish-full cl (Flush a ∷ h) a.node (told ∙ c.if-over.false) (omega arith)

pub returns-in-Ok-publish-clause-limit : goal.returns-in-Ok-publish-clause-limit
returns-in-Ok-publish-clause-limit c = λ cl stands.
    let h = c.args.history.now.past in
    let a = c.args.actor in
    let told = subst (λ n. passes_delta cl (Publish n) (Flush a ∷ h) ≡ c.in-Ok.over) c.node-node.ensures (c.in-Ok.ensures.told cl (Flush a ∷ h) stands) in
    publish-free cl (Flush a ∷ h) a.node (told ∙ c.if-over.false) (omega arith)
