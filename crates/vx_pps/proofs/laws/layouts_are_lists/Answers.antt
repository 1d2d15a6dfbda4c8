use Rattle.vx_pps.proofs.Pictures.{layouts_are}
use Rattle.vx_pps.proofs.laws.layouts_are_lists.Goals as goal

pub returns : goal.returns
returns c = layouts_are
