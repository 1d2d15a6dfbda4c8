use Rattle.vx_fit.proofs.Faultless.{faultless_fits}
use Rattle.vx_fit.proofs.laws.faultless_fits.Goals as goal

pub returns : goal.returns
returns c = faultless_fits
