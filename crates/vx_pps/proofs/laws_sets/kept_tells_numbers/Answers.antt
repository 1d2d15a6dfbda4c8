use Rattle.vx_pps.proofs.Numbered.{kept_tells_numbers}
use Rattle.vx_pps.proofs.laws_sets.kept_tells_numbers.Goals as goal

pub returns : goal.returns
returns c = kept_tells_numbers
