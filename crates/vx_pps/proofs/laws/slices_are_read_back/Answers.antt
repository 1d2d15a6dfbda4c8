use Rattle.vx_pps.proofs.Listing.{slices_read}
use Rattle.vx_pps.proofs.laws.slices_are_read_back.Goals as goal

pub returns : goal.returns
returns c = slices_read
