use Rattle.vx_segments.proofs.SameWritten.{alike_are_written_alike}
use Rattle.vx_segments.proofs.laws.alike_are_written_alike.Goals as goal

pub returns : goal.returns
returns c = alike_are_written_alike
