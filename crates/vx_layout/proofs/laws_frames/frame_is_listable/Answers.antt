use Rattle.vx_layout.proofs.FrameRuns.{frame-listable}
use Rattle.vx_layout.proofs.laws_frames.frame_is_listable.Goals as goal

pub returns : goal.returns
returns c = frame-listable
