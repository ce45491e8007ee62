-- Lists of one length that agree at each index are the same.
use Rattle.std.proofs.Common.{arith, sym}
use Rattle.std.proofs.lemmas.List.{ext_get_or}
use Rattle.std.proofs.lemmas.Slice.Eq.{bytes_eq-Decides}
use Rattle.event_lines.proofs.reading.is.Goals as goal

pub returns : goal.returns
returns c =
    let word = c.args.word.now in
    let name = c.args.name.now in
    let same = ext_get_or 0 word name (omega arith) (λ k h. c.loop-i.invariant k (omega arith)) in
    sym ((bytes_eq-Decides word name).1 same)
