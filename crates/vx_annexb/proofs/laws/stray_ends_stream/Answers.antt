use Rattle.vx_annexb.proofs.Stray.{stray_ends}
use Rattle.vx_annexb.proofs.laws.stray_ends_stream.Goals as goal

pub returns : goal.returns
returns c = stray_ends
