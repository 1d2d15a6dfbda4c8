use Rattle.vx_segments.proofs.Sources.{rounds_are_read_alike}
use Rattle.vx_segments.proofs.laws_streams.rounds_are_read_alike.Goals as goal

pub returns : goal.returns
returns c = rounds_are_read_alike
