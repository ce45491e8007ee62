use Rattle.ready_actors.proofs.WordLemmas.{some-one, with-one}
use Rattle.ready_actors.proofs.flags.with_one.Goals as goal

pub returns-clause-ones : goal.returns-clause-ones
returns-clause-ones c = with-one c.args.word c.args.place c.requires

pub returns-clause-some : goal.returns-clause-some
returns-clause-some c = some-one c.args.word c.args.place c.requires
