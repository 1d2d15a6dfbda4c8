use Rattle.vx_annexb.proofs.Written.{written_is_stream}
use Rattle.vx_annexb.proofs.laws.written_is_stream.Goals as goal

pub returns : goal.returns
returns c = written_is_stream
