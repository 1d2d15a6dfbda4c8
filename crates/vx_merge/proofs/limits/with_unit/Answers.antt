use Rattle.std.proofs.Common.{arith}
use Rattle.vx_merge.proofs.Limiting.{all_fit}
use Rattle.vx_merge.proofs.limits.with_unit.Goals as goal

pub returns-clause-bytes : goal.returns-clause-bytes
returns-clause-bytes c = all_fit c.args.unit.now (λ i. omega (arith, c.type_inv.unit i))
