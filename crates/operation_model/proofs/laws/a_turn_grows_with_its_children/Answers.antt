use Rattle.operation_model.proofs.Grows.{grows}
use Rattle.operation_model.proofs.laws.a_turn_grows_with_its_children.Goals as goal

pub returns : goal.returns
returns c = grows
