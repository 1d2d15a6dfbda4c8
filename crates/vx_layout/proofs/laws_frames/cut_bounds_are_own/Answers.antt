use Rattle.vx_layout.proofs.FrameBounds.{cut-own}
use Rattle.vx_layout.proofs.laws_frames.cut_bounds_are_own.Goals as goal

pub returns : goal.returns
returns c = cut-own
