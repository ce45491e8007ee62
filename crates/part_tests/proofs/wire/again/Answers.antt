use Rattle.graph_wire.proofs.Room.{spellable-writable}
use Rattle.part_tests.proofs.wire.again.Goals as goal

pub write-requires : goal.write-requires
write-requires c = spellable-writable c.in-Ok.b c.in-Ok.ensures.found.0
