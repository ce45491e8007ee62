use Rattle.std.proofs.Common.{◌∙◌, map}
use Rattle.journal_model.specs.Lines.{actor_word}
use Rattle.event_lines.specs.Words.{bytes_of}
use Rattle.event_lines.proofs.WordsLaws.{line-written, OnOk-weaker}
use Rattle.event_lines.proofs.words.write_line.Goals as goal

pub returns-clause-ok : goal.returns-clause-ok
returns-clause-ok c =
    let line = line-written c.args.out.now.items c.args.name.now (map bytes_of c.args.words.now) (map actor_word c.args.actors.now)
    c.write.new.out.items c.write_words.new.out.items c.write_actors.new.out.items
    c.in_ok-write.ensures.ok c.in_ok-write_words.ensures.ok c.in_ok-write_actors.ensures.ok in
    OnOk-weaker c.write_byte.result _ _ c.write_byte.ensures.ok (λ e. e ∙ line)
