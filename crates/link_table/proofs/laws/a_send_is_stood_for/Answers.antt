use Rattle.link_table.proofs.StandingSteps.{sends-message}
use Rattle.link_table.proofs.laws.a_send_is_stood_for.Goals as goal

pub returns : goal.returns
returns c = λ cl f t refs p l m sends legal stands. sends-message cl f t refs p l m legal stands sends
