use Rattle.script_actors.proofs.TurnSteps.{steps-answered}
use Rattle.script_actors.proofs.steps.next_step.Goals as goal

pub returns-clause-due : goal.returns-clause-due
returns-clause-due c =
    let next = c.next.ensures in
    steps-answered c.next.result c.args.code.now c.args.turn.now c.next.new.self next.step next.after next.behaviour next.ended next.owed
