use Rattle.actor_dispatch.proofs.Leaving.{leaves-then, on_ok-then}
use Rattle.actor_dispatch.proofs.working.carry_or_finish.Goals as goal

pub returns-in-Ok-false-clause-turns : goal.returns-in-Ok-false-clause-turns
returns-in-Ok-false-clause-turns g c =
    on_ok-then c.finished.result c.finished.ensures.turns
    (λ leaves. leaves-then c.args.pass.now.own c.carry_all.new.pass.own c.finished.new.pass.own c.in-Ok-false.ensures.turns leaves)
