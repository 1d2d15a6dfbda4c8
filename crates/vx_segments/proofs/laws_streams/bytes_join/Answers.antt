use Rattle.vx_segments.proofs.Bytes.{bytes_join}
use Rattle.vx_segments.proofs.laws_streams.bytes_join.Goals as goal

pub returns : goal.returns
returns c = bytes_join c.stream_is_annex_b.ensures c.annex_b_is_stream.ensures
