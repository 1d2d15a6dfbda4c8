use Rattle.vx_segments.proofs.Joining.{segments_split}
use Rattle.vx_segments.proofs.laws.segments_split.Goals as goal

pub returns : goal.returns
returns c = segments_split
