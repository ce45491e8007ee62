use Rattle.std.proofs.Common.{◌≡◌, map, option_to_list, take, reverse}
use Rattle.history_model.specs.Messages.{message_at}
use Rattle.quiet_check.specs.Plain.{carrying}
use Rattle.quiet_check.proofs.messages.message_numbered.Given as goal

abbrev pub invariant-loop-i : goal.invariant-loop-i
invariant-loop-i l = map (carrying l.actor) (message_at l.from l.at l.number (reverse (take l.i l.events))) ≡ option_to_list l.found
