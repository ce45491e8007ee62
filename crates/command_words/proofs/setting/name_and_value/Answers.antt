use Rattle.std.proofs.Common.{arith}
use Rattle.std.proofs.lemmas.Str.Pattern.{split_parts}
use Rattle.command_words.proofs.SettingLaws.{cut-of_parts}
use Rattle.command_words.proofs.setting.name_and_value.Goals as goal

pub returns : goal.returns
returns c = cut-of_parts c.args.word.now c.split_once.result (split_parts 61 c.args.word.now c.split_once.result c.split_once.ensures.cases (omega arith))
