use Rattle.bulletin_streams.proofs.StandingLemmas.{alike-stand}
use Rattle.bulletin_streams.proofs.laws.streams_that_keep_the_same_stand.Goals as goal

pub returns : goal.returns
returns c = alike-stand
