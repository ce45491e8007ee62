-- Where a read was the last, what it took comes after what was taken before.
use Rattle.std.proofs.Common.{◌++◌, length-append, arith, subst}
use Rattle.crgc_io.specs.Taken.{IsCountAt}
use Rattle.crgc_io.proofs.TakenLemmas.{Takes-trans}
use Rattle.crgc_io.proofs.whole.read_through.Goals as goal

pub returns-in-Err-clause-err : goal.returns-in-Err-clause-err
returns-in-Err-clause-err g c =
    let (within, before, never_falls) = c.loop-source.invariant in
    let (bs, taken, count) = c.in-Err.ensures.err in
    let bytes = c.loop-source.bytes in
    (bytes.items ++ bs, Takes-trans _ _ _ _ _ _ _ before taken, subst (IsCountAt _ _) (omega (arith, length-append bytes.items bs, bytes.ok.0)) count)
