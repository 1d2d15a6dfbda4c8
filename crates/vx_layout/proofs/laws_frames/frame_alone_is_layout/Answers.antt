use Rattle.vx_layout.proofs.FrameWhole.{frame-alone}
use Rattle.vx_layout.proofs.laws_frames.frame_alone_is_layout.Goals as goal

pub returns : goal.returns
returns c = frame-alone
