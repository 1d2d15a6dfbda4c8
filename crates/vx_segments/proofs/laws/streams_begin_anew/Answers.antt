use Rattle.vx_segments.proofs.Anew.{streams_begin_anew}
use Rattle.vx_segments.proofs.laws.streams_begin_anew.Goals as goal

pub returns : goal.returns
returns c = streams_begin_anew
