use Rattle.std.proofs.Common.{◌≡◌, ◌+◌, ◌∷◌, ◌++◌, [], suc, take, rules, sym, ◌∙◌, ap, subst, arith}
use Rattle.std.proofs.Math.Seq.{take-suc}
use Rattle.journal_model.specs.Lines.{AreActors}
use Rattle.true_config.proofs.MailEvents.{actors-push}
use Rattle.true_config.proofs.messages.read_actors.Goals as goal

pub loop-actor-preserved : goal.loop-actor-preserved
loop-actor-preserved c =
    let refs = c.args.refs.now in
    let i = c.loop-actor.actor-index in
    let a = c.actor-item.result in
    let longer = take-suc refs i a c.loop-actor-test.true ∙ ap (λ x. take i refs ++ x ∷ []) (sym c.actor-item.is) in
    let next : suc i ≡ i + 1 = omega arith in
    subst (λ n. AreActors (take n refs)) next (subst AreActors (sym longer) (actors-push (take i refs) a c.loop-actor.invariant (search rules)))
