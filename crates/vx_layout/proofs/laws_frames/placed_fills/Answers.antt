use Rattle.vx_layout.proofs.FrameWhole.{slices_fill}
use Rattle.vx_layout.proofs.laws_frames.placed_fills.Goals as goal

pub returns : goal.returns
returns c = slices_fill
