use Rattle.command_words.proofs.CommandLaws.{spells_one}
use Rattle.command_words.proofs.laws.no_words_spell_two_commands.Goals as goal

pub returns : goal.returns
returns c = spells_one
