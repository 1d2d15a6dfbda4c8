use Rattle.vx_pic.proofs.Sublayers.{all_are_kept}
use Rattle.vx_pic.proofs.laws_sublayers.all_are_kept.Goals as goal

pub returns : goal.returns
returns c = all_are_kept
