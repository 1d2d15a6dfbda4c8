use Rattle.vx_pps.proofs.Listing.{few_read}
use Rattle.vx_pps.proofs.laws.few_are_read_back.Goals as goal

pub returns : goal.returns
returns c = few_read
