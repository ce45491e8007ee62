use Rattle.std.proofs.Common.{◌≡◌, ◌⊎◌, ◌<◌}
use Rattle.crgc_ids.specs.Actor.{Actor, IsActorBelow}
use Rattle.script_progress.specs.Used.{wakes_in}
use Rattle.script_progress.proofs.progress.Progress.next_with_wakes.Given as goal

abbrev pub invariant-loop-n : goal.invariant-loop-n
invariant-loop-n l = (b : Actor) → b.node < l.n → IsActorBelow b l.self.next ⊎ (wakes_in l.self b ≡ 0)
