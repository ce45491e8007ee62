use Rattle.operation_model.proofs.StillFits.{still-fits}
use Rattle.operation_model.proofs.laws.what_fits_still_fits.Goals as goal

pub returns : goal.returns
returns c = still-fits
