use Rattle.script_actors.proofs.TurnSteps.{others-leave}
use Rattle.script_actors.proofs.laws.other_events_leave_a_turn.Goals as goal

pub returns : goal.returns
returns c = record { other = others-leave }
