use Rattle.std.proofs.Common.{sym}
use Rattle.world_object.specs.Standing.{state_of}
use Rattle.world_object.proofs.Answering.{refused-step}
use Rattle.world_object.proofs.parts.ClusterParts.answer.Goals as goal

pub returns-in-Some-clause-step : goal.returns-in-Some-clause-step
returns-in-Some-clause-step c = refused-step (state_of c.args.self.now) c.args.pass c.args.op c.in-Some.refusal c.requires.goes_on (sym c.in-Some.ensures)
