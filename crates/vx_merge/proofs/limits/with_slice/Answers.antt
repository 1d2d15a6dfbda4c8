use Rattle.std.proofs.Common.{◌<◌, arith}
use Rattle.vx_frame.proofs.Gathered.{all_both}
use Rattle.vx_merge.proofs.Limiting.{all_fit}
use Rattle.vx_merge.proofs.limits.with_slice.Goals as goal

pub returns-clause-bytes : goal.returns-clause-bytes
returns-clause-bytes c =
    all_both (λ b. b < 256) c.args.front.now c.args.payload.now (all_fit c.args.front.now (λ i. omega (arith, c.type_inv.front i)))
    (all_fit c.args.payload.now (λ i. omega (arith, c.type_inv.payload i)))
