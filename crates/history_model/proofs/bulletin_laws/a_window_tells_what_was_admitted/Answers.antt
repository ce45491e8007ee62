use Rattle.history_model.proofs.TellsWindows.{window-messages, window-tells}
use Rattle.history_model.proofs.bulletin_laws.a_window_tells_what_was_admitted.Goals as goal

pub returns-clause-rows : goal.returns-clause-rows
returns-clause-rows c = window-tells

pub returns-clause-facts : goal.returns-clause-facts
returns-clause-facts c = window-messages
