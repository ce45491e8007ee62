use Rattle.event_lines.proofs.FaultsLaws.{line-word}
use Rattle.event_lines.proofs.laws.a_word_is_refused_where_no_form_has_it.Goals as goal

pub returns-clause-told : goal.returns-clause-told
returns-clause-told c = λ bytes w first. (line-word bytes w first).0

pub returns-clause-only : goal.returns-clause-only
returns-clause-only c = λ bytes w first. (line-word bytes w first).1
