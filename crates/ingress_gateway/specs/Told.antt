-- What a gate has of a history's messages.
use Rattle.std.specs.Prelude.{◌≡◌, List, length}
use Rattle.history_model.specs.Facts.{Fact}
use Rattle.history_model.specs.Graph.{rising_actors}
use Rattle.history_model.specs.Messages.{Message}
use Rattle.history_model.specs.Tells.{fact_names, message_pairs, message_recipients}
use Rattle.ingress_gateway.specs.Gate.{Gate}
use Rattle.ingress_gateway.specs.Pending.{named_count}

-- since its last window the gate admitted these messages, in their order
abbrev pub HasMessages : Gate → List Message → Type 0
HasMessages g ms = (g.messages ≡ message_recipients ms) × (g.carried ≡ message_pairs ms)

-- the next window names as many actors as the facts do
abbrev pub NamesAsMany : Gate → List Fact → Type 0
NamesAsMany g facts = named_count g.messages g.carried ≡ length (rising_actors (fact_names facts))
