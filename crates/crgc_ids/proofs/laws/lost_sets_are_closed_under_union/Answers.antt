use Rattle.crgc_ids.proofs.LostNodesLaws.{IsLostSet-append}
use Rattle.crgc_ids.proofs.laws.lost_sets_are_closed_under_union.Goals as goal

pub returns : goal.returns
returns c = IsLostSet-append
