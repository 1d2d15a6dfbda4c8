use Rattle.vx_pps.proofs.Listing.{list_gives}
use Rattle.vx_pps.proofs.laws.list_gives_slices.Goals as goal

pub returns : goal.returns
returns c = list_gives
