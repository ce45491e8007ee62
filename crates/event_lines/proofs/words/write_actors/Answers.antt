use Rattle.std.proofs.Common.{map, take}
use Rattle.journal_model.specs.Lines.{actor_word}
use Rattle.event_lines.specs.Words.{spaced}
use Rattle.event_lines.proofs.WordsLaws.{begins-append, OnErr-any}
use Rattle.event_lines.proofs.words.write_actors.Goals as goal

pub returns-in_err-write_word-clause-err : goal.returns-in_err-write_word-clause-err
returns-in_err-write_word-clause-err c =
    let written = spaced (map actor_word (take c.loop-actor.actor-index c.args.actors.now)) in
    OnErr-any c.from_residual.result _ (begins-append c.args.out.now.items c.loop-actor.out.items written c.write_word.new.out.items c.loop-actor.invariant c.in_err-write_word.ensures.err)
