use Rattle.vx_segments.proofs.Whole.{segment_is_barred_alike}
use Rattle.vx_segments.proofs.laws.segment_is_barred_alike.Goals as goal

pub returns : goal.returns
returns c = segment_is_barred_alike
