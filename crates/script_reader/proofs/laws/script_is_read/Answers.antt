use Rattle.script_reader.proofs.ReadLaws.{script-is-read}
use Rattle.script_reader.proofs.laws.script_is_read.Goals as goal

pub returns : goal.returns
returns c = script-is-read
