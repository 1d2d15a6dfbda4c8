use Rattle.vx_bits.proofs.Golomb.{fixed_apart}
use Rattle.vx_bits.proofs.laws.fixed_tells_apart.Goals as goal

pub returns : goal.returns
returns c = λ n v w r s below also same. fixed_apart n v w r s below also same
