use Rattle.vx_bits.proofs.Golomb.{exp_golomb_parsed}
use Rattle.vx_bits.proofs.laws.exp_golomb_is_parsed.Goals as goal

pub returns : goal.returns
returns c = λ bits few. exp_golomb_parsed bits few
