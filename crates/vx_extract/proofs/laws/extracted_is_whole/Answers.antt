use Rattle.vx_extract.proofs.AgainOrder.{whole_again}
use Rattle.vx_extract.proofs.laws.extracted_is_whole.Goals as goal

pub returns : goal.returns
returns c = whole_again
