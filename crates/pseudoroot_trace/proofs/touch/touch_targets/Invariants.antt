use Rattle.std.proofs.Common.{take}
use Rattle.crgc_ids.specs.declared.rising.PairCount.{PairCount}
use Rattle.pseudoroot_trace.specs.Traced.{TouchesMore}
use Rattle.pseudoroot_trace.proofs.TouchLemmas.{AllLooked}
use Rattle.pseudoroot_trace.proofs.touch.touch_targets.Given as goal

abbrev pub invariant-loop-row : goal.invariant-loop-row
invariant-loop-row l =
    TouchesMore l.places l.initial.kept l.kept × AllLooked (λ (r : PairCount). r.target) l.graph l.places l.kept (take l.row-index l.rows)
