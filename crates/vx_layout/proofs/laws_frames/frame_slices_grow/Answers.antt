use Rattle.vx_layout.proofs.FrameSlices.{frame-more}
use Rattle.vx_layout.proofs.laws_frames.frame_slices_grow.Goals as goal

pub returns : goal.returns
returns c = frame-more
