use Rattle.vx_pps.proofs.Framing.{frame_keeps}
use Rattle.vx_pps.proofs.laws_reshaped.frame_keeps.Goals as goal

pub returns : goal.returns
returns c = frame_keeps
