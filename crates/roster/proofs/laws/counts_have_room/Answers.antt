use Rattle.roster.proofs.Bounds.{room-left}
use Rattle.roster.proofs.laws.counts_have_room.Goals as goal

pub returns : goal.returns
returns c = room-left
