use Rattle.collected_calls.proofs.Reading.{given-read}
use Rattle.collected_calls.proofs.laws.a_given_bulletin_is_read.Goals as goal

pub returns : goal.returns
returns c = given-read
