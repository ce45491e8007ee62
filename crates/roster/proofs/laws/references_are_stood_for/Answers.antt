use Rattle.roster.proofs.TableSteps.{stands-dropped, stands-tied}
use Rattle.roster.proofs.laws.references_are_stood_for.Goals as goal

pub returns-clause-tied : goal.returns-clause-tied
returns-clause-tied c = stands-tied

pub returns-clause-dropped : goal.returns-clause-dropped
returns-clause-dropped c = λ cl a p old new t. stands-dropped cl a p old new t
