use Rattle.std.proofs.Common.{ap, sym, length-append}
use Rattle.std.specs.Prelude.{nat_lt}
use Rattle.vx_bits.specs.Limits.{unit_limit}
use Rattle.vx_merge.proofs.limits.is_long.Goals as goal

pub returns : goal.returns
returns c = ap (nat_lt unit_limit) (sym (length-append c.args.front.now c.args.rest.now))
