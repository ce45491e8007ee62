use Rattle.std.proofs.Common.{map, string_bytes, subst}
use Rattle.command_words.specs.Commands.{Spells}
use Rattle.command_words.specs.declared.command.Command.TheVariants.{Run}
use Rattle.cluster_top.proofs.Tasks.{no-workers}
use Rattle.cluster_top.proofs.top.working_of.Goals as goal

pub returns-in-Some-Run-eq0-default : goal.returns-in-Some-Run-eq0-default
returns-in-Some-Run-eq0-default c =
    let words = map string_bytes c.args.words.now in
    let run = c.in-Some-Run-eq0-default in
    no-workers words (Run run.field-0-0 run.field-0-1) (subst (Spells words) run.field-0-is run.ensures.spelled) run.field-0-0-test
