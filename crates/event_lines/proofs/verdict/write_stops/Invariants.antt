use Rattle.std.proofs.Common.{◌≡◌, ◌++◌, map, take}
use Rattle.journal_model.specs.Lines.{spell, stop_words, text_of}
use Rattle.event_lines.proofs.verdict.write_stops.Given as goal

abbrev pub invariant-loop-stop : goal.invariant-loop-stop
invariant-loop-stop l = l.out.items ≡ l.fn.out.items ++ text_of (map (λ s. spell (stop_words l.by s)) (take l.stop-index l.stops))
