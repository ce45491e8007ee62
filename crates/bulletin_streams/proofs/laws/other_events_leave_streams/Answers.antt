use Rattle.bulletin_streams.proofs.StandingLemmas.{silent-stands}
use Rattle.bulletin_streams.proofs.laws.other_events_leave_streams.Goals as goal

pub returns : goal.returns
returns c = silent-stands
