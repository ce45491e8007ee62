use Rattle.std.proofs.Common.{ap, arith}
use Rattle.refob_counts.specs.Counts.{count_of}
use Rattle.refob_counts.proofs.RefCounts.add_all.Goals as goal

pub take_back-requires : goal.take_back-requires
take_back-requires c = λ a.
    let gained = c.loop-done.invariant a in
    let same = ap (λ counts. count_of counts a) c.in-Err.ensures.err in
    omega arith
