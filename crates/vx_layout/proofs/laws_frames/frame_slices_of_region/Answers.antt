use Rattle.vx_layout.proofs.FrameSlices.{frame-counted, frame-slices_of}
use Rattle.vx_layout.proofs.laws_frames.frame_slices_of_region.Goals as goal

pub returns-clause-slices : goal.returns-clause-slices
returns-clause-slices c = frame-slices_of

pub returns-clause-counted : goal.returns-clause-counted
returns-clause-counted c = frame-counted
