use Rattle.vx_pic.proofs.Going.{goes_on}
use Rattle.vx_pic.proofs.laws.reading_goes_on.Goals as goal

pub returns : goal.returns
returns c = goes_on
