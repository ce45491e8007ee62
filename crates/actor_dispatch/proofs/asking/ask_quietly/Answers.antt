use Rattle.std.proofs.Common.{sym, subst}
use Rattle.operation_model.specs.Turns.{Calls}
use Rattle.actor_dispatch.specs.Turning.{LeavesNone}
use Rattle.actor_dispatch.proofs.Leaving.{quiet-leaves}
use Rattle.actor_dispatch.proofs.asking.ask_quietly.Goals as goal

pub returns-clause-turns : goal.returns-clause-turns
returns-clause-turns g c =
    subst (λ (own : Calls). LeavesNone c.args.pass.now.own own) (sym c.ask.ensures.asked.own)
    (quiet-leaves c.args.pass.now.number c.args.op _ c.args.pass.now.own c.requires.quiet)
