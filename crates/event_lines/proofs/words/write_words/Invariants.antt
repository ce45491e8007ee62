use Rattle.std.proofs.Common.{◌≡◌, ◌++◌, map, take}
use Rattle.event_lines.specs.Words.{bytes_of, spaced}
use Rattle.event_lines.proofs.words.write_words.Given as goal

abbrev pub invariant-loop-word : goal.invariant-loop-word
invariant-loop-word l = l.out.items ≡ l.fn.out.items ++ spaced (map bytes_of (take l.word-index l.words))
