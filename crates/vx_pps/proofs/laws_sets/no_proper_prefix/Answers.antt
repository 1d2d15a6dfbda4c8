use Rattle.vx_pps.proofs.Spelling.{no_proper_prefix}
use Rattle.vx_pps.proofs.laws_sets.no_proper_prefix.Goals as goal

pub returns : goal.returns
returns c = no_proper_prefix
