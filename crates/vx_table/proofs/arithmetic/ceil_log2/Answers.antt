use Rattle.std.proofs.Common.{◌-◌, arith, sym}
use Rattle.std.proofs.lemmas.Nat.{leading_top}
use Rattle.vx_table.proofs.Numbers.{powers_to, powers_none}
use Rattle.vx_table.proofs.arithmetic.ceil_log2.Goals as goal

pub returns-then-n-le1 : goal.returns-then-n-le1
returns-then-n-le1 c = sym (powers_none 32 c.args.n (omega arith))

pub returns-else-n-le1 : goal.returns-else-n-le1
returns-else-n-le1 c =
    let top = leading_top 32 (c.args.n - 1) (omega arith) (omega arith) in
    omega (arith, top.1, powers_to 32 top.0 c.args.n (omega (arith, top.2)) (omega (arith, top.3)))
