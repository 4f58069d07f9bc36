use Rattle.tp_model.proofs.Fitting.{legal_fits}
use Rattle.tp_model.proofs.legal_fits.Goals as goal

pub returns : goal.returns
returns c = legal_fits
