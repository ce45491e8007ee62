use Rattle.script_progress.proofs.Steps.{has-room}
use Rattle.script_progress.proofs.laws.counts_have_room.Goals as goal

pub returns : goal.returns
returns c = has-room
