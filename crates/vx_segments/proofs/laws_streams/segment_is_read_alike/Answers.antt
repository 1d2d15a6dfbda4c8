use Rattle.vx_segments.proofs.Segment.{segment_is_read_alike}
use Rattle.vx_segments.proofs.laws_streams.segment_is_read_alike.Goals as goal

pub returns : goal.returns
returns c = segment_is_read_alike c.pictures_are_finished.ensures
