use Rattle.std.proofs.Common.{◌≡◌, ◌<◌, ◌≤◌, false}
use Rattle.crgc_ids.specs.Actor.{Actor}
use Rattle.ready_actors.specs.Ready.{has_actor}
use Rattle.ready_actors.proofs.ready.ReadyActors.first_from.Given as goal

abbrev pub invariant-loop-number : goal.invariant-loop-number
invariant-loop-number l = (a : Actor) → l.node ≤ a.node → a.node < l.number → has_actor l.self a ≡ false
