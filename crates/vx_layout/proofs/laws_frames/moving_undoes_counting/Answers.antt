use Rattle.vx_layout.proofs.FrameSlices.{counted-moved, moved-counted}
use Rattle.vx_layout.proofs.laws_frames.moving_undoes_counting.Goals as goal

pub returns-clause-moved : goal.returns-clause-moved
returns-clause-moved c = counted-moved

pub returns-clause-counted : goal.returns-clause-counted
returns-clause-counted c = moved-counted
