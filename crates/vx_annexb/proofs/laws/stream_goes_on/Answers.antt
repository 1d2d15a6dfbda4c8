use Rattle.vx_annexb.proofs.Unique.{stream_goes_on}
use Rattle.vx_annexb.proofs.laws.stream_goes_on.Goals as goal

pub returns : goal.returns
returns c = stream_goes_on
