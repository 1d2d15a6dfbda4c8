use Rattle.vx_ph.proofs.Rewriting.{header_rewrites}
use Rattle.vx_ph.proofs.laws.header_rewrites.Goals as goal

pub returns : goal.returns
returns c = header_rewrites
