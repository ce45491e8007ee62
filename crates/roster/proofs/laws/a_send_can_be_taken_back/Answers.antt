use Rattle.roster.specs.Table.{state_at}
use Rattle.roster.proofs.SendLemmas.{send-taken_back, sends-noted}
use Rattle.roster.proofs.laws.a_send_can_be_taken_back.Goals as goal

pub returns-clause-sent : goal.returns-clause-sent
returns-clause-sent c = λ old mid a to refs sends. sends-noted (state_at old a) (state_at mid a) to refs sends.changed

pub returns-clause-before : goal.returns-clause-before
returns-clause-before c = send-taken_back
