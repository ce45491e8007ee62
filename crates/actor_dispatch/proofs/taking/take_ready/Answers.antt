use Rattle.actor_dispatch.proofs.Leaving.{leaves-then, on_ok-then}
use Rattle.actor_dispatch.proofs.taking.take_ready.Goals as goal

pub returns-in-Ok-Ids-clause-turns : goal.returns-in-Ok-Ids-clause-turns
returns-in-Ok-Ids-clause-turns g c =
    on_ok-then c.take_all.result c.take_all.ensures.turns
    (λ leaves. leaves-then c.args.pass.now.own c.ask_quietly.new.pass.own c.take_all.new.pass.own c.ask_quietly.ensures.turns leaves)
