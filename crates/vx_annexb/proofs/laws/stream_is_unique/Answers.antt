use Rattle.vx_annexb.proofs.Unique.{stream_unique}
use Rattle.vx_annexb.proofs.laws.stream_is_unique.Goals as goal

pub returns : goal.returns
returns c = stream_unique
