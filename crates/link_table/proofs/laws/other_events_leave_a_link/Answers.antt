use Rattle.std.proofs.Common.{◌∷◌}
use Rattle.link_table.proofs.StandingLemmas.{say-the_same, stands-still}
use Rattle.link_table.proofs.laws.other_events_leave_a_link.Goals as goal

pub returns : goal.returns
returns c = λ cl s d e p l other _ stands. stands-still s d (e ∷ p) p l (say-the_same s d e p other) stands
