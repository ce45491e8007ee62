use Rattle.std.proofs.Common.{◌<◌, length, sym, ◌∙◌, arith}
use Rattle.std.proofs.lemmas.List.{take_rest, drop_all}
use Rattle.journal_player.proofs.LinesLemmas.{lines_of-first, lines_of-one}
use Rattle.journal_player.proofs.lines.next_line.Goals as goal

pub returns-in-Some-clause-line : goal.returns-in-Some-clause-line
returns-in-Some-clause-line c =
    rw take_rest (lines_of-first c.args.text.now c.in-Some.end (sym c.line_feed_at.ensures.at ∙ c.in-Some.is))

pub returns-in-None-clause-line : goal.returns-in-None-clause-line
returns-in-None-clause-line c =
    let some : 0 < length c.args.text.now = grind arith in
    rw (take_rest, drop_all (length c.args.text.now) c.args.text.now (omega arith))
    (lines_of-one c.args.text.now some (sym c.line_feed_at.ensures.at ∙ c.in-None.is))
