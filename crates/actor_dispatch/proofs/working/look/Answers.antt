use Rattle.actor_dispatch.proofs.Leaving.{leaves-then, on_ok-then}
use Rattle.actor_dispatch.proofs.working.look.Goals as goal

pub returns-in-Ok-false-clause-turns : goal.returns-in-Ok-false-clause-turns
returns-in-Ok-false-clause-turns g c =
    on_ok-then c.carry_or_finish.result c.carry_or_finish.ensures.turns
    (λ leaves. leaves-then c.args.pass.now.own c.turn.new.pass.own c.carry_or_finish.new.pass.own c.in-Ok-false.ensures.turns leaves)
