use Rattle.node_collectors.proofs.StandLemmas.{changes-none}
use Rattle.node_collectors.proofs.laws.collectors_follow_events.Goals as goal

pub returns : goal.returns
returns c = changes-none
