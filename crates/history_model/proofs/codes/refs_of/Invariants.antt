use Rattle.std.proofs.Common.{◌≡◌, take}
use Rattle.history_model.proofs.codes.refs_of.Given as goal

abbrev pub invariant-loop-actor : goal.invariant-loop-actor
invariant-loop-actor l = l.refs ≡ take l.actor-index l.actors
