use Rattle.actor_dispatch.proofs.Leaving.{leaves-then, on_ok-then}
use Rattle.actor_dispatch.proofs.working.turn.Goals as goal

pub returns-in-Ok-None-clause-turns : goal.returns-in-Ok-None-clause-turns
returns-in-Ok-None-clause-turns g c =
    on_ok-then c.wake_some.result c.wake_some.ensures.turns
    (λ leaves. leaves-then c.args.pass.now.own c.take_ready.new.pass.own c.wake_some.new.pass.own c.in-Ok-None.ensures.turns leaves)
