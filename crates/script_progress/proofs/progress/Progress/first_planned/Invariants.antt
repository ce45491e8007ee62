use Rattle.std.proofs.Common.{◌≡◌, ◌<◌}
use Rattle.crgc_ids.specs.Actor.{Actor}
use Rattle.script_progress.specs.Used.{IsFrom, wakes_in}
use Rattle.script_progress.proofs.progress.Progress.first_planned.Given as goal

abbrev pub invariant-loop-n : goal.invariant-loop-n
invariant-loop-n l = (b : Actor) → IsFrom (record { node = l.initial.node; serial = l.initial.serial }) b → b.node < l.n → wakes_in l.self b ≡ 0
