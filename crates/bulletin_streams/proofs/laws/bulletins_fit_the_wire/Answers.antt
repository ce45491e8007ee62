use Rattle.bulletin_streams.proofs.RowLemmas.{told-fit}
use Rattle.bulletin_streams.proofs.laws.bulletins_fit_the_wire.Goals as goal

pub returns : goal.returns
returns c = told-fit
