use Rattle.vx_bits.proofs.Golomb.{exp_golomb_apart}
use Rattle.vx_bits.proofs.laws.exp_golomb_tells_apart.Goals as goal

pub returns : goal.returns
returns c = exp_golomb_apart
