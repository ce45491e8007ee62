use Rattle.crgc_ids.proofs.GreatestLaws.{greatest-grows}
use Rattle.crgc_ids.proofs.laws.greatest_part_grows.Goals as goal

pub returns : goal.returns
returns g c = λ fit more xs ys mono implies. greatest-grows fit more mono implies xs ys
