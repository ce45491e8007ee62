use Rattle.replay_laws.proofs.Ranges.{history-ranges}
use Rattle.replay_laws.proofs.numbers_within_the_limits_are_in_range.Goals as goal

pub returns : goal.returns
returns c = history-ranges
