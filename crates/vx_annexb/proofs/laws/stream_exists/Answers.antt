use Rattle.vx_annexb.proofs.Exists.{stream_exists}
use Rattle.vx_annexb.proofs.laws.stream_exists.Goals as goal

pub returns : goal.returns
returns c = stream_exists
