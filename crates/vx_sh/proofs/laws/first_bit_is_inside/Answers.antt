use Rattle.vx_sh.proofs.FirstBit.{first_bit_is_inside}
use Rattle.vx_sh.proofs.laws.first_bit_is_inside.Goals as goal

pub returns : goal.returns
returns c = first_bit_is_inside
