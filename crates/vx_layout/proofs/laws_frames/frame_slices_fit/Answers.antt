use Rattle.vx_layout.proofs.FrameSlices.{frame-fit}
use Rattle.vx_layout.proofs.laws_frames.frame_slices_fit.Goals as goal

pub returns : goal.returns
returns c = frame-fit
