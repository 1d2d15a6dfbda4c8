use Rattle.vx_segments.proofs.Joining.{segments_join}
use Rattle.vx_segments.proofs.laws.segments_join.Goals as goal

pub returns : goal.returns
returns c = segments_join
