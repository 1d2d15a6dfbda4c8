use Rattle.vx_segments.proofs.Whole.{merges_are_one}
use Rattle.vx_segments.proofs.laws.merges_are_one.Goals as goal

pub returns : goal.returns
returns c = merges_are_one c.rounds_are_read_alike.ensures
