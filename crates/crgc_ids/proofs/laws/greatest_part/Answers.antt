use Rattle.crgc_ids.proofs.GreatestLaws.{greatest-contains, greatest-filters, greatest-fit, greatest-part}
use Rattle.crgc_ids.proofs.laws.greatest_part.Goals as goal

pub returns-clause-ordered : goal.returns-clause-ordered
returns-clause-ordered g c = greatest-filters

pub returns-clause-part : goal.returns-clause-part
returns-clause-part g c = greatest-part

pub returns-clause-all_fit : goal.returns-clause-all_fit
returns-clause-all_fit g c = greatest-fit

pub returns-clause-contains : goal.returns-clause-contains
returns-clause-contains g c = λ fit xs ys mono. greatest-contains fit mono xs ys
