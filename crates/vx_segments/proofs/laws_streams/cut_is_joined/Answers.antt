use Rattle.vx_segments.proofs.Cut.{cut_is_joined}
use Rattle.vx_segments.proofs.laws_streams.cut_is_joined.Goals as goal

pub returns : goal.returns
returns c = cut_is_joined c.stream_is_unique.ensures c.bytes_join.ensures c.segment_is_read_alike.ensures
