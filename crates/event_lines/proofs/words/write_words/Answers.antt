use Rattle.std.proofs.Common.{map, take}
use Rattle.event_lines.specs.Words.{bytes_of, spaced}
use Rattle.event_lines.proofs.WordsLaws.{begins-append, OnErr-any}
use Rattle.event_lines.proofs.words.write_words.Goals as goal

pub returns-in_err-write_word-clause-err : goal.returns-in_err-write_word-clause-err
returns-in_err-write_word-clause-err c =
    let written = spaced (map bytes_of (take c.loop-word.word-index c.args.words.now)) in
    OnErr-any c.from_residual.result _ (begins-append c.args.out.now.items c.loop-word.out.items written c.write_word.new.out.items c.loop-word.invariant c.in_err-write_word.ensures.err)
