use Rattle.history_model.proofs.AccountsCopies.{copies-exact}
use Rattle.history_model.proofs.AccountsTaken.{gave-got, takes-mail}
use Rattle.history_model.proofs.laws.no_count_falls_below_zero.Goals as goal

pub returns-clause-mail : goal.returns-clause-mail
returns-clause-mail c = λ cl h a legal. takes-mail cl h legal a

pub returns-clause-held : goal.returns-clause-held
returns-clause-held c = λ cl h b a legal. gave-got cl h legal b a

pub returns-clause-copies : goal.returns-clause-copies
returns-clause-copies c = λ cl h s d k legal. copies-exact cl h legal s d k
