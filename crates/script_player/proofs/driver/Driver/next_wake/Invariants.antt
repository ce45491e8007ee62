use Rattle.script_player.proofs.Wakes.{IsSearchAt, places_from}
use Rattle.script_player.proofs.driver.Driver.next_wake.Given as goal

abbrev pub invariant-loop-actor : goal.invariant-loop-actor
invariant-loop-actor l = IsSearchAt l.initial.self l.self

abbrev pub decreases-loop-actor : goal.decreases-loop-actor
decreases-loop-actor l = places_from l.self.progress.next
