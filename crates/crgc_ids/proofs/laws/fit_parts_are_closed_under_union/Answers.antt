use Rattle.crgc_ids.proofs.GreatestLaws.{AreFit-append}
use Rattle.crgc_ids.proofs.laws.fit_parts_are_closed_under_union.Goals as goal

pub returns : goal.returns
returns g c = λ fit xs ys mono. AreFit-append fit mono xs ys
