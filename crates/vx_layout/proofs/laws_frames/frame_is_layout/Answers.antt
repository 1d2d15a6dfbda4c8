use Rattle.vx_layout.proofs.FrameWhole.{frame-layout, frame-region}
use Rattle.vx_layout.proofs.laws_frames.frame_is_layout.Goals as goal

pub returns-clause-layout : goal.returns-clause-layout
returns-clause-layout c = frame-layout

pub returns-clause-regions : goal.returns-clause-regions
returns-clause-regions c = frame-region
