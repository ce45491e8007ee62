use Rattle.ingress_gateway.proofs.TellsLemmas.{admitted-more, messages-named, window-told}
use Rattle.ingress_gateway.proofs.laws.a_window_tells_its_messages.Goals as goal

pub returns-clause-window : goal.returns-clause-window
returns-clause-window c = window-told

pub returns-clause-on : goal.returns-clause-on
returns-clause-on c = admitted-more

pub returns-clause-named : goal.returns-clause-named
returns-clause-named c = messages-named
