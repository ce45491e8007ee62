use Rattle.std.proofs.Common.{◌≡◌, length, take}
use Rattle.collector.specs.Sweeping.{SetsFlags}
use Rattle.collector.proofs.stopped.set_all.Given as goal

abbrev pub invariant-loop-actor : goal.invariant-loop-actor
invariant-loop-actor l =
    SetsFlags (take l.actor-index l.actors) l.initial.flags.items l.flags.items × (length l.flags.items ≡ length l.initial.flags.items)
