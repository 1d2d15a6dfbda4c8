use Rattle.vx_table.proofs.Numbers.{powers_least}
use Rattle.vx_table.proofs.laws_numbers.ceil_log2_is_least.Goals as goal

pub returns : goal.returns
returns c = λ n k within. powers_least 32 n k within
