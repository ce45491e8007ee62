use Rattle.std.proofs.Common.{refl, subst, sym}
use Rattle.command_words.specs.Reading.{HasPlainStart}
use Rattle.command_words.proofs.NumberLaws.{parsed-ok, parsed-err, spelled-plain}
use Rattle.command_words.proofs.number.spelled_number.Goals as goal

pub returns-in-Ok : goal.returns-in-Ok
returns-in-Ok c =
    parsed-ok c.args.word.now (subst HasPlainStart c.as_bytes.ensures.value (c.if-has_plain_start.ensures.0 refl)) c.in-Ok.n c.in-Ok.ensures.value.0

pub returns-in-Err : goal.returns-in-Err
returns-in-Err c n small e =
    parsed-err c.args.word.now (subst HasPlainStart c.as_bytes.ensures.value (c.if-has_plain_start.ensures.0 refl)) n c.in-Err.ensures.value.0 small e

pub returns-else-has_plain_start : goal.returns-else-has_plain_start
returns-else-has_plain_start c n small e =
    let plain = c.if-has_plain_start.ensures.1 (subst HasPlainStart (sym c.as_bytes.ensures.value) (spelled-plain n c.args.word.now small e)) in cc
