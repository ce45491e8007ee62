use Rattle.std.proofs.Common.{arith}
use Rattle.ready_actors.proofs.WordLemmas.{without-one}
use Rattle.ready_actors.proofs.flags.without_one.Goals as goal

pub returns-clause-ones : goal.returns-clause-ones
returns-clause-ones c = without-one c.args.word c.args.place c.requires (omega arith)
