use Rattle.vx_layout.proofs.FrameSlices.{frame-in_order, frame-order}
use Rattle.vx_layout.proofs.laws_frames.frame_slices_stand_in_order.Goals as goal

pub returns-clause-order : goal.returns-clause-order
returns-clause-order c = frame-order

pub returns-clause-same : goal.returns-clause-same
returns-clause-same c = frame-in_order
