use Rattle.std.proofs.Common.{take}
use Rattle.journal_model.specs.Lines.{AreActors}
use Rattle.true_config.proofs.messages.read_actors.Given as goal

abbrev pub invariant-loop-actor : goal.invariant-loop-actor
invariant-loop-actor l = AreActors (take l.actor-index l.refs)
