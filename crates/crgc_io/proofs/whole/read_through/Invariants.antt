use Rattle.std.proofs.Common.{◌≡◌, ◌≤◌, ◌+◌, ◌-◌, vec_len}
use Rattle.crgc_io.specs.Taken.{Takes}
use Rattle.crgc_io.proofs.whole.read_through.Given as goal

abbrev pub invariant-loop-source : goal.invariant-loop-source
invariant-loop-source g l = (vec_len l.bytes ≤ l.limit + 1)
    × Takes g.S.Source.left g.S.Source.given l.initial.source l.source l.bytes.items
    × (g.S.Source.faults l.source ≡ g.S.Source.faults l.initial.source)

abbrev pub decreases-loop-source : goal.decreases-loop-source
decreases-loop-source g l = l.limit + 1 - vec_len l.bytes
