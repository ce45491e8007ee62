use Rattle.actor_dispatch.proofs.Leaving.{leaves-loses, on_ok-then}
use Rattle.actor_dispatch.proofs.Making.{goes-on}
use Rattle.actor_dispatch.proofs.turning.finish_turn.Goals as goal

pub returns-in-Ok-true-clause-ended : goal.returns-in-Ok-true-clause-ended
returns-in-Ok-true-clause-ended g c =
    let whole = goes-on c.in-Ok-true.field-0 _ _ c.in-Ok-true.field-0-test c.in-Ok-true.ensures.whole in
    on_ok-then c.end_turn.result c.end_turn.ensures.ended
    (λ ended. leaves-loses c.args.actor c.args.pass.now.own c.act_all.new.pass.own c.end_turn.new.pass.own whole.0 ended)
