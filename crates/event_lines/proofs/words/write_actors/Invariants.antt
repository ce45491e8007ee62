use Rattle.std.proofs.Common.{◌≡◌, ◌++◌, map, take}
use Rattle.journal_model.specs.Lines.{actor_word}
use Rattle.event_lines.specs.Words.{spaced}
use Rattle.event_lines.proofs.words.write_actors.Given as goal

abbrev pub invariant-loop-actor : goal.invariant-loop-actor
invariant-loop-actor l = l.out.items ≡ l.fn.out.items ++ spaced (map actor_word (take l.actor-index l.actors))
