use Rattle.vx_bits.proofs.Bits.{length-fixed, number-fixed, number-below, fixed-number}
use Rattle.vx_bits.proofs.laws.fixed_is_binary.Goals as goal

pub returns : goal.returns
returns c = (λ n v below. (length-fixed n v, number-fixed n v below), λ bits. (number-below bits, fixed-number bits))
