use Rattle.std.proofs.Common.{arith}
use Rattle.vx_layout.proofs.Rising.{length-le-last}
use Rattle.vx_layout.proofs.entry.count_inner.Goals as goal

pub overflow_add-count : goal.overflow_add-count
overflow_add-count c = let few = length-le-last c.args.bounds.now c.len-i-end.ensures.rises in omega (arith, few)

pub returns-clause-few : goal.returns-clause-few
returns-clause-few c = let few = length-le-last c.args.bounds.now c.len-i-end.ensures.rises in omega (arith, few)
