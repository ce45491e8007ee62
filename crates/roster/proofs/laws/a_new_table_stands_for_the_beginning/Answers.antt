use Rattle.roster.proofs.TableSteps.{stands-new}
use Rattle.roster.proofs.laws.a_new_table_stands_for_the_beginning.Goals as goal

pub returns : goal.returns
returns c = stands-new
