use Rattle.vx_bits.proofs.Golomb.{three_ways, begins_not_long, begins_not_ends, ends_not_long}
use Rattle.vx_bits.proofs.laws.bits_begin_in_one_way.Goals as goal

pub returns-clause-some : goal.returns-clause-some
returns-clause-some c = three_ways

pub returns-clause-only : goal.returns-clause-only
returns-clause-only c = λ bits. (begins_not_ends bits, begins_not_long bits, ends_not_long bits)
