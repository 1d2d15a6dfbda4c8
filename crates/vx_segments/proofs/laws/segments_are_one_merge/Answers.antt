use Rattle.vx_segments.proofs.Whole.{segments_are_one_merge}
use Rattle.vx_segments.proofs.laws.segments_are_one_merge.Goals as goal

pub returns : goal.returns
returns c = segments_are_one_merge
