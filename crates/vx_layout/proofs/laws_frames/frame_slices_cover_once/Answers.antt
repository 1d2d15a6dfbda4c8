use Rattle.vx_layout.proofs.FrameSlices.{frame-once}
use Rattle.vx_layout.proofs.laws_frames.frame_slices_cover_once.Goals as goal

pub returns : goal.returns
returns c = frame-once
