use Rattle.vx_segments.proofs.Segment.{joined_rests}
use Rattle.vx_segments.proofs.laws_streams.joined_rests.Goals as goal

pub returns : goal.returns
returns c = joined_rests
