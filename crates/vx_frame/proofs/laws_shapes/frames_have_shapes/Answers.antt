use Rattle.vx_frame.proofs.FrameShaping.{has_shapes}
use Rattle.vx_frame.proofs.laws_shapes.frames_have_shapes.Goals as goal

pub returns : goal.returns
returns c = λ corners round frame make. has_shapes c.frame_of_regions.ensures corners round frame make
