use Rattle.vx_layout.proofs.Members.{fits-LiesIn, LiesIn-fits}
use Rattle.vx_layout.proofs.laws.fits_by_ctus.Goals as goal

pub returns : goal.returns
returns c = λ r s. (fits-LiesIn r s, LiesIn-fits r s)
