use Rattle.std.proofs.Common.{map, string_bytes, subst}
use Rattle.command_words.specs.Commands.{Spells}
use Rattle.command_words.proofs.CommandLaws.{wants-run}
use Rattle.command_words.proofs.reading.wants_workers.Goals as goal

pub returns-in-Some-Run : goal.returns-in-Some-Run
returns-in-Some-Run c =
    let words = map string_bytes c.args.words.now in
    wants-run words c.in-Some-Run.workers c.in-Some-Run.field-0-1 (subst (Spells words) c.in-Some-Run.field-0-is c.in-Some-Run.ensures.spelled)
